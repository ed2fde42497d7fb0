-- Each step of the ties keeps the rule.
use Rattle.std.proofs.Common.{◌≡◌, ◌≢◌, ◌⊎◌, ℕ, zero, suc, ◌+◌, List, [], ◌∷◌, ◌++◌, length, set, cond, eqb, eq-eqb, ne_eqb, Option, Some, None, refl, sym, ap, ◌∙◌, subst, ⊎_elim, inl, inr, arith}
use mathlib.Core.Option.{some, some-ne-none, some-injective}
use lib.ListN.{get_elem?}
use Rattle.atomic_table.specs.Table.{Me, keeps, Allows}
use Rattle.atomic_table.proofs.Lists.{at_set, set_again}
use Rattle.ep_tie.specs.declared.steps.Sight.{Sight}
use Rattle.ep_tie.specs.declared.steps.Sight.TheVariants.{Spent, Maker, Half, Whole}
use Rattle.ep_tie.specs.Seats.{Seating, Fits, Agrees, IsMaker, IsWhole, AreHalves, AreAlike, met, parted, parted_with, after_making, made}

module _ {A : Type 0} where
  -- the function with x at p
  abbrev changed : (ℕ → A) → ℕ → A → ℕ → A
  changed f p x q = cond (eqb q p) x (f q)

  changed_here : (f : ℕ → A) (p : ℕ) (x : A) → changed f p x p ≡ x
  changed_here f p x = ap (λ b. cond b x (f p)) (eq-eqb p p refl)

  changed_else : (f : ℕ → A) (p q : ℕ) (x : A) → q ≢ p → changed f p x q ≡ f q
  changed_else f p q x apart = ap (λ b. cond b x (f q)) (ne_eqb q p apart)

  -- what stands in a list with one element more stands in the list, or is that element, at its end
  at_push : (l : List A) (a b : A) (j : ℕ) → get_elem? (l ++ a ∷ []) j ≡ some b → (get_elem? l j ≡ some b) ⊎ ((j ≡ length l) × (a ≡ b))
  at_push [] a b zero e = inr (refl, some-injective a b e)
  at_push [] a b (suc j) e = absurd (some-ne-none b (sym e))
  at_push (x ∷ xs) a b zero e = inl e
  at_push (x ∷ xs) a b (suc j) e = ⊎_elim (λ t. inl t) (λ t. inr (ap suc t.0, t.1)) (at_push xs a b j e)

-- of three different numbers one is neither of two
squeezed : (i k j a b : ℕ) → (i ≡ a) ⊎ (i ≡ b) → (k ≡ a) ⊎ (k ≡ b) → (j ≡ a) ⊎ (j ≡ b) → i ≢ k → j ≢ i → j ≢ k → ⊥
squeezed i k j a b p q r x y z = grind arith

module _ {V : Type 0} where
  -- the seating with the value x and the seats i and n at the place p
  abbrev moved : Seating V → ℕ → V → ℕ → ℕ → Seating V
  moved s p x i n = record { made = s.made; value = changed s.value p (Some x); one = changed s.one p i; other = changed s.other p n }

  -- the seating with one place more, both of whose halves are the seat n
  abbrev grown : Seating V → V → ℕ → Seating V
  grown s x n = record { made = s.made + 1; value = changed s.value s.made (Some x); one = changed s.one s.made n; other = changed s.other s.made n }

  -- a seat with a half of another place
  abbrev Apart : ℕ → Sight V → Type 0
  Apart p (Half q x) = q ≢ p
  Apart p (Whole q x y) = q ≢ p
  Apart p v = Unit {0}

  fits_moved : (s : Seating V) (p : ℕ) (x : V) (i n j : ℕ) (u : Sight V) → Apart p u → Fits s j u → Fits (moved s p x i n) j u
  fits_moved s p x i n j Spent apart h = tt
  fits_moved s p x i n j (Maker q) apart h = h
  fits_moved s p x i n j (Half q y) apart h = (
    h.0,
    changed_else s.value p q (Some x) apart ∙ h.1,
    ⊎_elim (λ e. inl (e ∙ sym (changed_else s.one p q i apart))) (λ e. inr (e ∙ sym (changed_else s.other p q n apart))) h.2,
  )
  fits_moved s p x i n j (Whole q y z) apart h = (
    h.0,
    changed_else s.value p q (Some x) apart ∙ h.1,
    changed_else s.value p q (Some x) apart ∙ h.2,
    h.3 ∙ sym (changed_else s.one p q i apart),
    h.4 ∙ sym (changed_else s.other p q n apart),
  )

  fits_grown : (s : Seating V) (x : V) (n j : ℕ) (u : Sight V) → j ≢ 0 → Fits s j u → Fits (grown s x n) j u
  fits_grown s x n j Spent late h = tt
  fits_grown s x n j (Maker q) late h = absurd (late h.0)
  fits_grown s x n j (Half q y) late h = let apart : q ≢ s.made = λ e. omega (arith, h.0) in (
    omega (arith, h.0),
    changed_else s.value s.made q (Some x) apart ∙ h.1,
    ⊎_elim (λ e. inl (e ∙ sym (changed_else s.one s.made q n apart))) (λ e. inr (e ∙ sym (changed_else s.other s.made q n apart))) h.2,
  )
  fits_grown s x n j (Whole q y z) late h = let apart : q ≢ s.made = λ e. omega (arith, h.0) in (
    omega (arith, h.0),
    changed_else s.value s.made q (Some x) apart ∙ h.1,
    changed_else s.value s.made q (Some x) apart ∙ h.2,
    h.3 ∙ sym (changed_else s.one s.made q n apart),
    h.4 ∙ sym (changed_else s.other s.made q n apart),
  )

  -- no other seat has a half of the place of a seat that has both
  whole_alone : (s : Seating V) (i j p : ℕ) (x y : V) (u : Sight V) → Fits s i (Whole p x y) → j ≢ i → Fits s j u → Apart p u
  whole_alone s i j p x y Spent w apart h = tt
  whole_alone s i j p x y (Maker q) w apart h = tt
  whole_alone s i j p x y (Half q z) w apart h = λ e. ⊎_elim (λ k. apart (k ∙ ap s.one e ∙ sym w.3)) (λ k. apart (k ∙ ap s.other e ∙ sym w.4)) h.2
  whole_alone s i j p x y (Whole q z t) w apart h = λ e. apart (h.3 ∙ ap s.one e ∙ sym w.3)

  -- no third seat has a half of the place of two
  two_alone : (s : Seating V) (i k j p : ℕ) (x y : V) (u : Sight V) → Fits s i (Half p x) → Fits s k (Half p y) → i ≢ k → j ≢ i → j ≢ k → Fits s j u → Apart p u
  two_alone s i k j p x y Spent a b one two three h = tt
  two_alone s i k j p x y (Maker q) a b one two three h = tt
  two_alone s i k j p x y (Half q z) a b one two three h = λ e. squeezed i k j (s.one p) (s.other p) a.2 b.2
      (⊎_elim (λ t. inl (t ∙ ap s.one e)) (λ t. inr (t ∙ ap s.other e)) h.2) one two three
  two_alone s i k j p x y (Whole q z t) a b one two three h = λ e. squeezed i k j (s.one p) (s.other p) a.2 b.2 (inl (h.3 ∙ ap s.one e)) one two three

  fits_set : (s : Seating V) (views : List (Sight V)) (i : ℕ) (w : Sight V) → ((j : ℕ) (u : Sight V) → j ≢ i → get_elem? views j ≡ some u → Fits s j u) → Fits s i w
      → (j : ℕ) (u : Sight V) → get_elem? (set views i w) j ≡ some u → Fits s j u
  fits_set s views i w others mine j u e =
      ⊎_elim
      (λ (t : (j ≡ i) × (w ≡ u)). subst (λ (y : ℕ × Sight V). Fits s y.0 y.1) (λ k. (sym t.0 k, t.1 k)) mine)
      (λ (t : (j ≢ i) × (get_elem? views j ≡ some u)). others j u t.0 t.1)
      (at_set views i j w u e)

  fits_push : (s : Seating V) (views : List (Sight V)) (w : Sight V) → ((j : ℕ) (u : Sight V) → get_elem? views j ≡ some u → Fits s j u) → Fits s (length views) w
      → (j : ℕ) (u : Sight V) → get_elem? (views ++ w ∷ []) j ≡ some u → Fits s j u
  fits_push s views w others mine j u e =
      ⊎_elim
      (λ (t : get_elem? views j ≡ some u). others j u t)
      (λ (t : (j ≡ length views) × (w ≡ u)). subst (λ (y : ℕ × Sight V). Fits s y.0 y.1) (λ k. (sym t.0 k, t.1 k)) mine)
      (at_push views w u j e)

  -- a set starts with its maker alone
  pub starts : Agrees {V = V} (Maker 0 ∷ [])
  starts = (record { made = 0; value = λ _. None; one = λ _. 0; other = λ _. 0 }, fits)
    where
      fits : (seat : ℕ) (v : Sight V) → get_elem? (Maker 0 ∷ []) seat ≡ some v → Fits (record { made = 0; value = λ _. None; one = λ _. 0; other = λ _. 0 }) seat v
      fits zero v e = subst (Fits (record { made = 0; value = λ _. None; one = λ _. 0; other = λ _. 0 }) 0) (some-injective _ _ e) (refl, refl)
      fits (suc seat) v e = absurd (some-ne-none v (sym e))

  -- a seat that knows nothing may come at any time
  pub sits : (views : List (Sight V)) → Agrees views → Agrees (views ++ Spent ∷ [])
  sits views kept = (kept.0, fits_push kept.0 views Spent kept.1 tt)

  -- the maker makes the tie at its next place
  pub makes : (views : List (Sight V)) (id : ℕ) (v : Sight V) (z : Option V) (x : V) → IsMaker v → z ≡ Some x → Agrees views → get_elem? views id ≡ some v
      → Agrees (set views id (after_making v) ++ made z v ∷ [])
  makes views id Spent z x is brought kept at = elim is [ ]
  makes views id (Half _ _) z x is brought kept at = elim is [ ]
  makes views id (Whole _ _ _) z x is brought kept at = elim is [ ]
  makes views id (Maker p) z x is brought kept at = subst (λ (o : Option V). Agrees (set views id (Maker (p + 1)) ++ made o (Maker p) ∷ [])) (sym brought) (
    next,
    fits_push next now (Whole p x x)
        (fits_set next views id (Maker (p + 1)) (λ j u apart e. fits_grown s x n j u (λ first. apart (first ∙ sym mine.0)) (kept.1 j u e)) (mine.0, ap (λ k. k + 1) mine.1))
        (omega (arith, mine.1), here.0, here.0, here.1, here.2),
  )
    where
      s : Seating V
      s = kept.0

      now : List (Sight V)
      now = set views id (Maker (p + 1))

      n : ℕ
      n = length now

      next : Seating V
      next = grown s x n

      mine : (id ≡ 0) × (p ≡ s.made)
      mine = kept.1 id (Maker p) at

      here : (next.value p ≡ Some x) × (n ≡ next.one p) × (n ≡ next.other p)
      here = (
        subst (λ q. changed s.value q (Some x) p ≡ Some x) mine.1 (changed_here s.value p (Some x)),
        sym (subst (λ q. changed s.one q n p ≡ n) mine.1 (changed_here s.one p n)),
        sym (subst (λ q. changed s.other q n p ≡ n) mine.1 (changed_here s.other p n)),
      )

  -- the two halves of a tie part, each with the value z
  parts_to : (views : List (Sight V)) (id p : ℕ) (x y z : V) → Agrees views → get_elem? views id ≡ some (Whole p x y) → Agrees (set views id (Half p z) ++ Half p z ∷ [])
  parts_to views id p x y z kept at =
      let s : Seating V = kept.0 in
      let now : List (Sight V) = set views id (Half p z) in
      let n : ℕ = length now in
      let next : Seating V = moved s p z id n in
      let mine : Fits s id (Whole p x y) = kept.1 id (Whole p x y) at in (
        next,
        fits_push next now (Half p z)
            (fits_set next views id (Half p z) (λ j u apart e. fits_moved s p z id n j u (whole_alone s id j p x y u mine apart (kept.1 j u e)) (kept.1 j u e)) (mine.0, changed_here s.value p (Some z), inl (sym (changed_here s.one p id))))
            (mine.0, changed_here s.value p (Some z), inr (sym (changed_here s.other p n))),
      )

  pub parts : (views : List (Sight V)) (id : ℕ) (v : Sight V) → IsWhole v → Agrees views → get_elem? views id ≡ some v → Agrees (set views id (parted v) ++ parted v ∷ [])
  parts views id Spent is kept at = elim is [ ]
  parts views id (Maker _) is kept at = elim is [ ]
  parts views id (Half _ _) is kept at = elim is [ ]
  parts views id (Whole p x y) is kept at = parts_to views id p x y x kept at

  pub parts_with : (views : List (Sight V)) (id : ℕ) (v : Sight V) (o : Option V) (z : V) → IsWhole v → o ≡ Some z → Agrees views → get_elem? views id ≡ some v → Agrees (set views id (parted_with o v) ++ parted_with o v ∷ [])
  parts_with views id Spent o z is brought kept at = elim is [ ]
  parts_with views id (Maker _) o z is brought kept at = elim is [ ]
  parts_with views id (Half _ _) o z is brought kept at = elim is [ ]
  parts_with views id (Whole p x y) o z is brought kept at = subst (λ (b : Option V). Agrees (set views id (parted_with b (Whole p x y)) ++ parted_with b (Whole p x y) ∷ [])) (sym brought) (parts_to views id p x y z kept at)

  meets : (views : List (Sight V)) (id other p : ℕ) (x y : V) → Agrees views → get_elem? views id ≡ some (Half p x) → ¬ (other ≡ id) → get_elem? (set views id (Whole p x y)) other ≡ some (Half p y)
      → Agrees (set (set views id (Whole p x y)) other Spent)
  meets views id other p x y kept at apart there =
      let s : Seating V = kept.0 in
      let next : Seating V = moved s p x id id in
      let mine : Fits s id (Half p x) = kept.1 id (Half p x) at in
      let theirs : Fits s other (Half p y) = ⊎_elim (λ (t : (other ≡ id) × (Whole p x y ≡ Half p y)). absurd (apart t.0)) (λ (t : (other ≢ id) × (get_elem? views other ≡ some (Half p y))). kept.1 other (Half p y) t.1) (at_set views id other (Whole p x y) (Half p y) there) in (
        next,
        fits_set next (set views id (Whole p x y)) other Spent
            (λ j u far e. ⊎_elim
            (λ (t : (j ≡ id) × (Whole p x y ≡ u)). subst (λ (k : ℕ × Sight V). Fits next k.0 k.1) (λ k. (sym t.0 k, t.1 k))
            (mine.0, changed_here s.value p (Some x), changed_here s.value p (Some x) ∙ sym mine.1 ∙ theirs.1, sym (changed_here s.one p id), sym (changed_here s.other p id)))
            (λ (t : (j ≢ id) × (get_elem? views j ≡ some u)). fits_moved s p x id id j u (two_alone s id other j p x y u mine theirs (λ same. apart (sym same)) t.0 far (kept.1 j u t.1)) (kept.1 j u t.1))
            (at_set views id j (Whole p x y) u e))
            tt,
      )

  -- two halves of one place meet in one seat
  pub joins : (views : List (Sight V)) (id other : ℕ) (v w : Sight V) → AreHalves v w → Agrees views → get_elem? views id ≡ some v → ¬ (other ≡ id) → get_elem? (set views id (met v w)) other ≡ some w
      → Agrees (set (set views id (met v w)) other Spent)
  joins views id other Spent w same kept at apart there = elim same [ ]
  joins views id other (Maker _) w same kept at apart there = elim same [ ]
  joins views id other (Half p x) Spent same kept at apart there = elim same [ ]
  joins views id other (Half p x) (Maker _) same kept at apart there = elim same [ ]
  joins views id other (Half p x) (Whole _ _ _) same kept at apart there = elim same [ ]
  joins views id other (Whole _ _ _) w same kept at apart there = elim same [ ]
  joins views id other (Half p x) (Half q y) same kept at apart there = meets views id other p x y kept at apart (subst (λ k. get_elem? (set views id (Whole p x y)) other ≡ some (Half k y)) (sym same) there)

  alike : (s : Seating V) (seat : ℕ) (v : Sight V) → Fits s seat v → AreAlike v
  alike s seat Spent h = tt
  alike s seat (Maker p) h = tt
  alike s seat (Half p x) h = tt
  alike s seat (Whole p x y) h = let e : Some x ≡ Some y = sym h.1 ∙ h.2 in cc

  -- a look at any time shows that what has met is alike
  pub looks : (slots id word : ℕ) (me : Me (Unit {0}) (Sight V)) → Allows (λ s. Agrees s.views) slots id me word (λ n. n) (λ n w. (w ≡ me) × AreAlike me.0)
  looks slots id word me s kept homes at fits =
      (me.0, keeps, tt, subst Agrees (sym (set_again s.views id me.0 at)) kept, (refl, alike kept.0 id me.0 (kept.1 id me.0 at)))
