-- Lists of sessions that are present, of which no two have the same slot.
use Rattle.std.proofs.Common.{◌≡◌, ℕ, zero, suc, Bool, true, false, List, [], ◌∷◌, Some, true≢false, refl, ap, sym, ◌∙◌, subst}
use Rattle.std.specs.Prelude.{◌||◌, slice_get, slice_set, ◌==◌}
use Rattle.std.specs.List.{remove, AllByRecursion}
use Rattle.std.proofs.lemmas.Bool.{eq-eqb, or_parts}
use Rattle.std.proofs.lemmas.Option.{none-some, same_Some}
use Rattle.ep_tables.specs.declared.tables.Present.{Present}
use Rattle.ep_tables.specs.Tables.{has_slot}
use Rattle.ep_tables.specs.Tied.{HaveOwnSlots}
use Rattle.ep_tables.proofs.Items.{any-remove}

-- A session of the list has its slot in it.
pub has_own : (ps : List Present) (place : ℕ) (p : Present) → slice_get ps place ≡ Some p → has_slot p.slot ps ≡ true
has_own [] place p is = absurd (none-some p is)
has_own (q ∷ ps) zero p is =
    let same = same_Some q p is in
    subst (λ (x : Present). ((x.slot == p.slot) || has_slot p.slot ps) ≡ true) (sym same) (rw (eq-eqb p.slot p.slot refl) refl)
has_own (q ∷ ps) (suc place) p is =
    let rest = has_own ps place p is in
    elim (q.slot == p.slot) as (λ v. (v || has_slot p.slot ps) ≡ true) [ true ↦ refl | false ↦ rest ]

-- A slot that no session of the list has is another than those they have.
pub unlike_slot : (ps : List Present) (slot place : ℕ) (p : Present) → has_slot slot ps ≡ false → slice_get ps place ≡ Some p → p.slot ≡ slot → ⊥
unlike_slot ps slot place p none is same =
    let some : has_slot slot ps ≡ true = subst (λ (s : ℕ). has_slot s ps ≡ true) same (has_own ps place p is) in
    true≢false (sym some ∙ none)

-- What holds of each session whose slot is another holds of them all where none has the slot.
pub all_others : (P Q : Present → Type 0) (slot : ℕ) (ps : List Present) → has_slot slot ps ≡ false → ((p : Present) → (p.slot ≡ slot → ⊥) → P p → Q p) → AllByRecursion P ps → AllByRecursion Q ps
all_others P Q slot [] none f all = tt
all_others P Q slot (p ∷ ps) none f all =
    elim (p.slot == slot) as (λ v. (p.slot == slot) ≡ v → (v || has_slot slot ps) ≡ false → AllByRecursion Q (p ∷ ps)) [
      | true ↦ λ same no. absurd (true≢false no)
      | false ↦ λ other no. (f p (λ e. true≢false (sym (rw e (eq-eqb slot slot refl)) ∙ other)) all.0, all_others P Q slot ps no f all.1)
    ]
    refl none

-- One session changes, which keeps its slot, and the others do in another way.
pub all_set : (P Q : Present → Type 0) (ps : List Present) (place : ℕ) (was now : Present) → slice_get ps place ≡ Some was → HaveOwnSlots ps
    → ((p : Present) → (p.slot ≡ was.slot → ⊥) → P p → Q p) → Q now → AllByRecursion P ps → AllByRecursion Q (slice_set ps place now)
all_set P Q [] place was now is own f q all = absurd (none-some was is)
all_set P Q (p ∷ ps) zero was now is own f q all =
    let same = same_Some p was is in
    (q, all_others P Q was.slot ps (subst (λ (x : Present). has_slot x.slot ps ≡ false) same own.0) f all.1)
all_set P Q (p ∷ ps) (suc place) was now is own f q all =
    (f p (λ e. unlike_slot ps p.slot place was own.0 is (sym e)) all.0, all_set P Q ps place was now is own.1 f q all.1)

-- The slots of the list stay where one session changes and keeps its slot.
pub has_set : (ps : List Present) (place : ℕ) (was now : Present) → slice_get ps place ≡ Some was → now.slot ≡ was.slot → (slot : ℕ) → has_slot slot (slice_set ps place now) ≡ has_slot slot ps
has_set [] place was now is same slot = refl
has_set (p ∷ ps) zero was now is same slot =
    let e = same_Some p was is in
    ap (λ (s : ℕ). (s == slot) || has_slot slot ps) (same ∙ ap (λ (x : Present). x.slot) (sym e))
has_set (p ∷ ps) (suc place) was now is same slot = ap (λ (b : Bool). (p.slot == slot) || b) (has_set ps place was now is same slot)

pub own_set : (ps : List Present) (place : ℕ) (was now : Present) → slice_get ps place ≡ Some was → now.slot ≡ was.slot → HaveOwnSlots ps → HaveOwnSlots (slice_set ps place now)
own_set [] place was now is same own = tt
own_set (p ∷ ps) zero was now is same own =
    let e = same_Some p was is in
    (subst (λ (s : ℕ). has_slot s ps ≡ false) (ap (λ (x : Present). x.slot) e ∙ sym same) own.0, own.1)
own_set (p ∷ ps) (suc place) was now is same own = (has_set ps place was now is same p.slot ∙ own.0, own_set ps place was now is same own.1)

-- One session is taken out.
pub all_removed : (P Q : Present → Type 0) (ps : List Present) (place : ℕ) (was : Present) → slice_get ps place ≡ Some was → HaveOwnSlots ps
    → ((p : Present) → (p.slot ≡ was.slot → ⊥) → P p → Q p) → AllByRecursion P ps → AllByRecursion Q (remove ps place)
all_removed P Q [] place was is own f all = absurd (none-some was is)
all_removed P Q (p ∷ ps) zero was is own f all =
    let same = same_Some p was is in
    all_others P Q was.slot ps (subst (λ (x : Present). has_slot x.slot ps ≡ false) same own.0) f all.1
all_removed P Q (p ∷ ps) (suc place) was is own f all =
    (f p (λ e. unlike_slot ps p.slot place was own.0 is (sym e)) all.0, all_removed P Q ps place was is own.1 f all.1)

pub own_removed : (ps : List Present) (place : ℕ) (was : Present) → slice_get ps place ≡ Some was → HaveOwnSlots ps → HaveOwnSlots (remove ps place)
own_removed [] place was is own = absurd (none-some was is)
own_removed (p ∷ ps) zero was is own = own.1
own_removed (p ∷ ps) (suc place) was is own =
    ((or_parts (was.slot == p.slot) (has_slot p.slot (remove ps place)) (sym (any-remove (λ (q : Present). q.slot == p.slot) ps place was is) ∙ own.0)).1, own_removed ps place was is own.1)
