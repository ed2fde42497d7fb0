-- Each step of a row of locks keeps its rule.
use Rattle.std.proofs.Common.{◌≡◌, ◌≢◌, ℕ, zero, suc, ◌*◌, ◌<◌, List, [], ◌∷◌, ◌++◌, length, map, get_or, set, Option, Some, refl, sym, ap, ◌∙◌, subst, arith, length-set, get_or-set_other, get_or-set_same}
use Rattle.std.specs.Prelude.{slice_get, replicate}
use mathlib.Core.Option.{some, none}
use mathlib.Core.Logic.{dite}
use native.Mathlib.Decide.{ℕ_discrete}
use lib.ListN.{get_elem?}
use Rattle.atomic_table.specs.Table.{State, Me, Act, keeps, takes, gives, Valid, homes_after, carried_after, step, Allows, Arrives, opening, rest}
use Rattle.std.proofs.lemmas.List.{get_or-replicate, length-replicate, length-map}
use Rattle.atomic_table.proofs.Lists.{set_here, set_else}
use Rattle.ep_locks.specs.Row.{place_of, spread, IsLock, AreLocks, HasTaken, tried}

-- the locks of two numbers stand at two places
apart : (j k : ℕ) → j ≢ k → place_of j ≢ place_of k
apart j k ne e = ne (omega arith)

one_number : (k j : ℕ) → place_of k ≡ place_of j → k ≡ j
one_number k j e = omega arith

module _ {T : Type 0} (holds : ℕ → T → Type 0) where
  abbrev Known : Type 0
  Known = Me (Option T) (Unit {0})

  abbrev Rule : State (Option T) (Unit {0}) → Type 0
  Rule = AreLocks holds

  -- after a change of the word and the slot of one lock alone, it is enough that this lock is as it should be
  changes_one : (s : State (Option T) (Unit {0})) (k v : ℕ) (homes : List (mathlib.Core.Option.Option (Option T))) (views : List (Unit {0})) → Rule s → length homes ≡ length s.homes
      → ((j : ℕ) → j ≢ k → get_elem? homes (place_of j) ≡ get_elem? s.homes (place_of j)) → IsLock holds (record { words = set s.words (place_of k) v; homes = homes; views = views }) k
      → Rule (record { words = set s.words (place_of k) v; homes = homes; views = views })
  changes_one s k v homes views kept long others mine = record {
    side_by_side = length-set s.words (place_of k) v ∙ kept.side_by_side ∙ sym long;
    each = λ j inside. dite (ℕ_discrete j k)
        (λ e. subst (IsLock holds (record { words = set s.words (place_of k) v; homes = homes; views = views })) (sym e) mine)
        (λ ne. let was = kept.each j (subst (λ n. place_of j < n) (length-set s.words (place_of k) v) inside) in
        let word : get_or (set s.words (place_of k) v) (place_of j) 0 ≡ get_or s.words (place_of j) 0 = get_or-set_other s.words (place_of k) (place_of j) v 0 (apart j k ne) in record {
          free = λ e. let f = was.free (sym word ∙ e) in (f.0, others j ne ∙ f.1, f.2);
          taken = λ n. others j ne ∙ was.taken (λ e. n (word ∙ e));
        });
  }

  -- a swap that leaves the word above 0: who finds the lock free takes its value out
  tries : (slots : ℕ) (s : State (Option T) (Unit {0})) (k v : ℕ) (me : Known) (views : List (Unit {0})) → Rule s → place_of k < length s.homes → v ≢ 0
      → (a : Act (Option T)) × Valid s.homes me.1 a × Rule (record { words = set s.words (place_of k) v; homes = homes_after s.homes me.1 a; views = views })
      × tried holds (step slots (place_of k) v 0 none) me (get_or s.words (place_of k) 0) (me.0, carried_after me.1 a)
  tries slots s k v me views kept inside above =
      let within : place_of k < length s.words = subst (λ n. place_of k < n) (sym kept.side_by_side) inside in
      let lock : IsLock holds s k = kept.each k within in
      let word : get_or (set s.words (place_of k) v) (place_of k) 0 ≡ v = get_or-set_same s.words (place_of k) v 0 within in
      dite (ℕ_discrete (get_or s.words (place_of k) 0) 0)
      (λ e. let f = lock.free e in (
        takes (place_of k) (Some f.0),
        f.1,
        changes_one s k v (set s.homes (place_of k) none) views kept (length-set s.homes (place_of k) none) (λ j ne. set_else s.homes (place_of k) (place_of j) none (apart j k ne)) (record {
          free = λ z. absurd (above (sym word ∙ z));
          taken = λ _. set_here s.homes (place_of k) none inside;
        }),
        ((λ _. (f.0, refl, λ j same. subst (λ n. holds n f.0) (one_number k j same) f.2)), (λ ne. absurd (ne e))),
      ))
      (λ ne. (
        keeps,
        tt,
        changes_one s k v s.homes views kept refl (λ _ _. refl) (record { free = λ z. absurd (above (sym word ∙ z)); taken = λ _. lock.taken ne }),
        ((λ e. absurd (ne e)), (λ _. refl)),
      ))

  pub tries_first : (slots k v : ℕ) → place_of k < slots → v ≢ 0 → Arrives Rule slots (place_of k) (λ _. v) (tried holds (step slots (place_of k) v 0 none) (tt, []))
  tries_first slots k v inside above s kept long fits =
      let t = tries slots s k v (tt, []) (s.views ++ tt ∷ []) kept (subst (λ n. place_of k < n) (sym long) inside) above in (tt, t.0, t.1, t.2, t.3)

  pub tries_again : (slots id k v : ℕ) (me : Known) → place_of k < slots → v ≢ 0 → Allows Rule slots id me (place_of k) (λ _. v) (tried holds (step slots (place_of k) v 0 none) me)
  tries_again slots id k v me inside above s kept long at fits =
      let t = tries slots s k v me (set s.views id me.0) kept (subst (λ n. place_of k < n) (sym long) inside) above in (me.0, t.0, t.1, t.2, t.3)

  gives_home : (slots id k : ℕ) (u : Unit {0}) (x : T) → place_of k < slots → holds k x → Allows Rule slots id (u, (place_of k, Some x) ∷ []) (place_of k) (λ _. 0) (λ n w. w.1 ≡ [])
  gives_home slots id k u x inside good s kept long at fits =
      let here : place_of k < length s.homes = subst (λ n. place_of k < n) (sym long) inside in
      let within : place_of k < length s.words = subst (λ n. place_of k < n) (sym kept.side_by_side) here in
      let home : get_elem? (set s.homes (place_of k) (some (Some x))) (place_of k) ≡ some (some (Some x)) = set_here s.homes (place_of k) (some (Some x)) here in
      let word : get_or (set s.words (place_of k) 0) (place_of k) 0 ≡ 0 = get_or-set_same s.words (place_of k) 0 0 within in (
        u,
        gives,
        tt,
        changes_one s k 0 (set s.homes (place_of k) (some (Some x))) (set s.views id u) kept (length-set s.homes (place_of k) (some (Some x))) (λ j ne. set_else s.homes (place_of k) (place_of j) (some (Some x)) (apart j k ne)) (record {
          free = λ _. (x, home, good);
          taken = λ ne. absurd (ne word);
        }),
        refl,
      )

  -- the value that was taken goes home
  pub gives_back : (slots id k : ℕ) (me : Known) → place_of k < slots → HasTaken holds k me → Allows Rule slots id me (place_of k) (λ _. 0) (λ n w. w.1 ≡ rest me.1)
  gives_back slots id k me inside has = subst (λ (c : List (ℕ × Option T)). Allows Rule slots id (me.0, c) (place_of k) (λ _. 0) (λ n w. w.1 ≡ rest c)) (sym has.1) (gives_home slots id k me.0 has.0 inside has.2)

  -- the value of each lock stands at its place
  found : (xs : List T) (k : ℕ) → place_of k < length (spread xs) → (x : T) × (get_elem? (map some (spread xs)) (place_of k) ≡ some (some (Some x))) × (slice_get xs k ≡ Some x)
  found [] k inside = absurd (omega arith)
  found (x ∷ xs) zero inside = (x, refl, refl)
  found (x ∷ xs) (suc k) inside =
      let e : place_of (suc k) ≡ suc (suc (suc (suc (suc (suc (suc (suc (k * 8)))))))) = omega arith in
      let inside' : place_of k < length (spread xs) = omega arith in
      let t = found xs k inside' in
      (t.0, subst (λ n. get_elem? (map some (spread (x ∷ xs))) n ≡ some (some (Some t.0))) (sym e) t.1, t.2)

  -- a row starts with all locks free
  pub opens : (xs : List T) (words : List ℕ) → words ≡ replicate (length (spread xs)) 0 → ((k : ℕ) (x : T) → slice_get xs k ≡ Some x → holds k x) → Rule (opening words (spread xs) tt)
  opens xs words blank good = record {
    side_by_side = ap length blank ∙ length-replicate (length (spread xs)) 0 ∙ sym (length-map (spread xs) some);
    each = λ k inside.
        let within : place_of k < length (spread xs) = subst (λ n. place_of k < n) (ap length blank ∙ length-replicate (length (spread xs)) 0) inside in
        let zero_word : get_or words (place_of k) 0 ≡ 0 = ap (λ ws. get_or ws (place_of k) 0) blank ∙ get_or-replicate (length (spread xs)) (place_of k) 0 0 within in
        let t = found xs k within in record {
          free = λ _. (t.0, t.1, good k t.0 t.2);
          taken = λ ne. absurd (ne zero_word);
        };
  }
