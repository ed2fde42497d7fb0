-- A thread that the items tell something of is named by one of them.
use Rattle.std.proofs.Common.{◌≡◌, ℕ, Bool, true, false, ◌||◌, cond, eqb, inl, inr, List, [], ◌∷◌, ◌++◌, map, filter, is_some, refl, sym, ap, ◌∙◌}
use Rattle.std.proofs.lemmas.Bool.{cases_Bool, eqb-true, or_left, or_right}
use Rattle.std.proofs.lemmas.Map.Steps.{list_any_congr}
use Rattle.std.specs.declared.cmp.Ordering.{Ordering}
use Rattle.std.specs.declared.cmp.Ordering.TheVariants.{Less, Equal, Greater}
use Rattle.std.specs.Ordering.{nat_cmp, is_eq, eq_by_cmp, match_ordering}
use Rattle.std.specs.Cmp.{IsTotalOrder, IsEquivalence, eq_by_cmp_equiv, nat_cmp_total}
use Rattle.std.specs.List.{list_any, flat_map, fold}
use Rattle.std.specs.BTreeSet.{insert_key}
use Rattle.ep_defs.specs.declared.item.ItemKind.{ItemKind}
use Rattle.ep_defs.specs.declared.item.ItemKind.TheVariants as item
use Rattle.ep_defs.specs.Gaps.{Sighting, Known}
use Rattle.nt_blocks.specs.Seen.{seen_in}
use Rattle.nt_check.specs.Numbers.{told, numbers_of}
use Rattle.pt_report.specs.declared.tally.Tally.{Tally}
use Rattle.pt_report.specs.Order.{with_key}
use Rattle.pt_report.specs.Report.{threads_in}
use Rattle.pt_report.specs.state.Counts.{Counts}
use Rattle.pt_report.proofs.Tallies.{name-known}

-- ---- keys in order

module _ {K : Type 0} (cmp : K → K → Ordering) (total : IsTotalOrder cmp) where
  laws : IsEquivalence (eq_by_cmp cmp)
  laws = eq_by_cmp_equiv total

  -- A key that is put is there, and those that were there stay.
  insert-has : (key name : K) (keys : List K) → eq_by_cmp cmp key name ≡ true → list_any (eq_by_cmp cmp key) (insert_key cmp keys name) ≡ true
  insert-has key name [] e = or_left (eq_by_cmp cmp key name) false e
  insert-has key name (first ∷ keys) e = by (insert-has key name keys e) (cmp name first) refl
    where
      by : list_any (eq_by_cmp cmp key) (insert_key cmp keys name) ≡ true → (o : Ordering) → cmp name first ≡ o → list_any (eq_by_cmp cmp key) (match_ordering o (name ∷ first ∷ keys) (first ∷ keys) (first ∷ insert_key cmp keys name)) ≡ true
      by later Less is = or_left (eq_by_cmp cmp key name) (list_any (eq_by_cmp cmp key) (first ∷ keys)) e
      by later Equal is = or_left (eq_by_cmp cmp key first) (list_any (eq_by_cmp cmp key) keys) (laws.congr key name first e ∙ ap is_eq is)
      by later Greater is = or_right (eq_by_cmp cmp key first) (list_any (eq_by_cmp cmp key) (insert_key cmp keys name)) later

  insert-keeps : (key name : K) (keys : List K) → list_any (eq_by_cmp cmp key) keys ≡ true → list_any (eq_by_cmp cmp key) (insert_key cmp keys name) ≡ true
  insert-keeps key name [] e = absurd (cc)
  insert-keeps key name (first ∷ keys) e = by (later (insert-keeps key name keys) (eq_by_cmp cmp key first) refl) (cmp name first)
    where
      later : (list_any (eq_by_cmp cmp key) keys ≡ true → list_any (eq_by_cmp cmp key) (insert_key cmp keys name) ≡ true) → (b : Bool) → eq_by_cmp cmp key first ≡ b → list_any (eq_by_cmp cmp key) (first ∷ insert_key cmp keys name) ≡ true
      later keeps true is = or_left (eq_by_cmp cmp key first) (list_any (eq_by_cmp cmp key) (insert_key cmp keys name)) is
      later keeps false is = or_right (eq_by_cmp cmp key first) (list_any (eq_by_cmp cmp key) (insert_key cmp keys name)) (keeps (sym (ap (λ b. b || list_any (eq_by_cmp cmp key) keys) is) ∙ e))

      by : list_any (eq_by_cmp cmp key) (first ∷ insert_key cmp keys name) ≡ true → (o : Ordering) → list_any (eq_by_cmp cmp key) (match_ordering o (name ∷ first ∷ keys) (first ∷ keys) (first ∷ insert_key cmp keys name)) ≡ true
      by kept Less = or_right (eq_by_cmp cmp key name) (list_any (eq_by_cmp cmp key) (first ∷ keys)) e
      by kept Equal = e
      by kept Greater = kept

  with-has : (key name : K) (keys : List K) → eq_by_cmp cmp key name ≡ true → list_any (eq_by_cmp cmp key) (with_key cmp keys name) ≡ true
  with-has key name keys e = either (list_any (eq_by_cmp cmp name) keys) refl
    where
      either : (b : Bool) → list_any (eq_by_cmp cmp name) keys ≡ b → list_any (eq_by_cmp cmp key) (cond b keys (insert_key cmp keys name)) ≡ true
      either true there = list_any_congr laws key name keys e ∙ there
      either false there = insert-has key name keys e

  with-keeps : (key name : K) (keys : List K) → list_any (eq_by_cmp cmp key) keys ≡ true → list_any (eq_by_cmp cmp key) (with_key cmp keys name) ≡ true
  with-keeps key name keys e = either (list_any (eq_by_cmp cmp name) keys)
    where
      either : (b : Bool) → list_any (eq_by_cmp cmp key) (cond b keys (insert_key cmp keys name)) ≡ true
      either true = e
      either false = insert-keeps key name keys e

  fold-keeps : (key : K) (keys names : List K) → list_any (eq_by_cmp cmp key) keys ≡ true → list_any (eq_by_cmp cmp key) (fold (with_key cmp) keys names) ≡ true
  fold-keeps key keys [] e = e
  fold-keeps key keys (name ∷ names) e = fold-keeps key (with_key cmp keys name) names (with-keeps key name keys e)

  fold-has : (key : K) (keys names : List K) → list_any (eq_by_cmp cmp key) names ≡ true → list_any (eq_by_cmp cmp key) (fold (with_key cmp) keys names) ≡ true
  fold-has key keys [] e = absurd (cc)
  fold-has key keys (name ∷ names) e = either (fold-has key (with_key cmp keys name) names) (eq_by_cmp cmp key name) refl
    where
      either : (list_any (eq_by_cmp cmp key) names ≡ true → list_any (eq_by_cmp cmp key) (fold (with_key cmp) (with_key cmp keys name) names) ≡ true) → (b : Bool) → eq_by_cmp cmp key name ≡ b
          → list_any (eq_by_cmp cmp key) (fold (with_key cmp) keys (name ∷ names)) ≡ true
      either later true is = fold-keeps key (with_key cmp keys name) names (with-has key name keys is)
      either later false is = later (sym (ap (λ b. b || list_any (eq_by_cmp cmp key) names) is) ∙ e)

  -- A name that was given is given again.
  pub named-again : (names uses : List K) (tally : Tally K) (key : K) → list_any (eq_by_cmp cmp key) names ≡ true → Counts cmp names uses tally → Counts cmp (names ++ key ∷ []) uses tally
  named-again names uses tally key there h = name-known cmp total names uses tally key h (fold-has key [] names there)

-- ---- threads

any-append : (p : ℕ → Bool) (a b : List ℕ) → list_any p b ≡ true → list_any p (a ++ b) ≡ true
any-append p [] b e = e
any-append p (first ∷ a) b e = or_right (p first) (list_any p (a ++ b)) (any-append p a b e)

any-front : (p : ℕ → Bool) (a b : List ℕ) → list_any p a ≡ true → list_any p (a ++ b) ≡ true
any-front p [] b e = absurd (cc)
any-front p (first ∷ a) b e = either (any-front p a b) (p first) refl
  where
    either : (list_any p a ≡ true → list_any p (a ++ b) ≡ true) → (c : Bool) → p first ≡ c → (p first || list_any p (a ++ b)) ≡ true
    either later true is = or_left (p first) (list_any p (a ++ b)) is
    either later false is = or_right (p first) (list_any p (a ++ b)) (later (sym (ap (λ c. c || list_any p a) is) ∙ e))

tied : (thread other : ℕ) → eqb other thread ≡ true → eq_by_cmp nat_cmp thread other ≡ true
tied thread other e = rw (eqb-true other thread e) (laws-refl thread)
  where
    laws-refl : (n : ℕ) → eq_by_cmp nat_cmp n n ≡ true
    laws-refl n = (eq_by_cmp_equiv nat_cmp_total).refl n

-- What a point says something of is one of its threads.
point-named : (thread : ℕ) (pairs : List (ℕ × ℕ)) (more : List Sighting) → is_some (told (map (λ (t : ℕ × ℕ). Known t.1) (filter (λ (t : ℕ × ℕ). eqb t.0 thread) pairs) ++ more)) ≡ true → (is_some (told more) ≡ true → ⊥) → list_any (eq_by_cmp nat_cmp thread) (map (λ (t : ℕ × ℕ). t.0) pairs) ≡ true
point-named thread [] more there not_more = absurd (not_more there)
point-named thread (pair ∷ pairs) more there not_more =
    elim (cases_Bool (eqb pair.0 thread)) [
      | inl own ↦ or_left (eq_by_cmp nat_cmp thread pair.0) (list_any (eq_by_cmp nat_cmp thread) (map (λ (t : ℕ × ℕ). t.0) pairs)) (tied thread pair.0 own)
      | inr other ↦ or_right (eq_by_cmp nat_cmp thread pair.0) (list_any (eq_by_cmp nat_cmp thread) (map (λ (t : ℕ × ℕ). t.0) pairs)) (point-named thread pairs more (rw other at there) not_more)
    ]

seen-named : (thread : ℕ) (kinds : List ItemKind) → is_some (told (flat_map (seen_in thread) kinds)) ≡ true → list_any (eq_by_cmp nat_cmp thread) (flat_map threads_in kinds) ≡ true
seen-named thread [] there = absurd (cc)
seen-named thread (item.Trace info ∷ kinds) there = seen-named thread kinds there
seen-named thread (item.Meta id def ∷ kinds) there = seen-named thread kinds there
seen-named thread (item.Stack id bytes ∷ kinds) there = seen-named thread kinds there
seen-named thread (item.Event metadata number capture processor other stack stamp activity related payload ∷ kinds) there =
    elim (cases_Bool (eqb capture thread)) [
      | inl own ↦ or_left (eq_by_cmp nat_cmp thread capture) (list_any (eq_by_cmp nat_cmp thread) (flat_map threads_in kinds)) (tied thread capture own)
      | inr apart ↦ or_right (eq_by_cmp nat_cmp thread capture) (list_any (eq_by_cmp nat_cmp thread) (flat_map threads_in kinds)) (seen-named thread kinds (rw apart at there))
    ]
seen-named thread (item.Point stamp pairs ∷ kinds) there =
    elim (cases_Bool (is_some (told (flat_map (seen_in thread) kinds)))) [
      | inl later ↦ any-append (eq_by_cmp nat_cmp thread) (map (λ (t : ℕ × ℕ). t.0) pairs) (flat_map threads_in kinds) (seen-named thread kinds later)
      | inr not_later ↦ any-front (eq_by_cmp nat_cmp thread) (map (λ (t : ℕ × ℕ). t.0) pairs) (flat_map threads_in kinds) (point-named thread pairs (flat_map (seen_in thread) kinds) there (λ later. differ _ not_later later))
    ]
  where
    differ : (b : Bool) → b ≡ false → b ≡ true → ⊥
    differ b not_so so = cc

-- A thread that the items tell something of may be named again.
pub thread-again : (thread : ℕ) (kinds : List ItemKind) (tally : Tally ℕ) → is_some (numbers_of thread kinds) ≡ true → Counts nat_cmp (flat_map threads_in kinds) [] tally → Counts nat_cmp (flat_map threads_in kinds ++ thread ∷ []) [] tally
thread-again thread kinds tally there h = named-again nat_cmp nat_cmp_total (flat_map threads_in kinds) [] tally thread (seen-named thread kinds there) h
