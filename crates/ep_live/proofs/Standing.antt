-- What is known of the threads' halves.
use Rattle.std.proofs.Common.{◌≡◌, ℕ, suc, ◌-◌, ◌<◌, List, Option, None, Some, length, refl, ap, sym, ◌∙◌, subst, arith}
use Rattle.std.specs.Prelude.{slice_get, is_some, IsSome}
use Rattle.ep_tie.specs.Tied.{Tied}
use Rattle.ep_guarded.specs.declared.agreed.Agreed.{Agreed}
use Rattle.ep_guarded.specs.declared.agreed.Stand.{Stand}
use Rattle.ep_guarded.specs.Tied.{stand_in, thread_of}
use Rattle.ep_guarded.proofs.Lives.{one-life}
use Rattle.ep_live.specs.Made.{AreStands}
use Rattle.ep_live.specs.Stands.{AreHere}
use Rattle.ep_slot.specs.Hand.{HandState}
use Rattle.ep_stream.specs.Rows.{TestsHandsAs}
use Rattle.ep_live.specs.RowSet.{LiveRowsState, life_at, tests_hand_in}
use Rattle.std.proofs.lemmas.Option.{none-some}
use Rattle.ep_live.proofs.Pushing.{same}

-- A hand of this thread that begins here.
abbrev hand_at : ℕ → ℕ → HandState
hand_at thread from = record { session = 0; thread = thread; from = from; taken = 0; last = 0; stolen = 0 }

-- The thread of which the tests pass hands.
abbrev thread_in : ℕ → LiveRowsState → ℕ → ℕ
thread_in rows set row = thread_of rows (row - 1) (life_at set row)

-- ---- what the tests on hands tell of them

-- A hand that begins where the threads stand passes.
passes : (rows : ℕ) (set : LiveRowsState) (row : ℕ) → (from : ℕ) × tests_hand_in rows set row (hand_at (thread_in rows set row) from)
passes rows set row = at set.stands refl
  where
    at : (stands : Option ℕ) → set.stands ≡ stands → (from : ℕ) × tests_hand_in rows set row (hand_at (thread_in rows set row) from)
    at None is = (0, (refl, λ index here. absurd (none-some index (sym is ∙ here))))
    at (Some i) is = (i, (refl, λ index here. same i index (sym is ∙ here)))

threads-same : (rows : ℕ) (old new : LiveRowsState) → TestsHandsAs (tests_hand_in rows old) (tests_hand_in rows new) → (row : ℕ) → thread_in rows new row ≡ thread_in rows old row
threads-same rows old new alike row =
    let hand = passes rows new row in
    ((alike row (hand_at (thread_in rows new row) hand.0)).0 hand.1).0

pub lives-same : (rows : ℕ) (old new : LiveRowsState) → 0 < rows → TestsHandsAs (tests_hand_in rows old) (tests_hand_in rows new) → (row : ℕ) → life_at new row ≡ life_at old row
lives-same rows old new some alike row = one-life rows (row - 1) _ _ some (threads-same rows old new alike row)

pub stands-same : (rows : ℕ) (old new : LiveRowsState) → TestsHandsAs (tests_hand_in rows old) (tests_hand_in rows new) → new.stands ≡ old.stands
stands-same rows old new alike = both old.stands new.stands refl refl
  where
    both : (before after : Option ℕ) → old.stands ≡ before → new.stands ≡ after → new.stands ≡ old.stands
    both None None was is = is ∙ sym was
    both (Some i) None was is =
        let passes = (alike 0 (hand_at (thread_in rows new 0) (suc i))).0 (refl, λ index here. absurd (none-some index (sym is ∙ here))) in
        let from : suc i ≡ i = passes.1 i was in
        absurd (omega (arith, from))
    both None (Some i) was is =
        let passes = (alike 0 (hand_at (thread_in rows old 0) (suc i))).1 (refl, λ index here. absurd (none-some index (sym was ∙ here))) in
        let from : suc i ≡ i = passes.1 i is in
        absurd (omega (arith, from))
    both (Some i) (Some j) was is =
        let passes = (alike 0 (hand_at (thread_in rows new 0) j)).0 (refl, λ index here. same j index (sym is ∙ here)) in
        let from : j ≡ i = passes.1 i was in
        is ∙ ap (λ (n : ℕ). Some n) from ∙ sym was

-- ---- the halves that are here

-- All halves, each at this index.
pub all-here : (rows index : ℕ) (halves : List (Tied Agreed)) → length halves ≡ rows → AreStands index halves → AreHere rows (Some index) halves
all-here rows index halves count stands =
    record {
      here = λ i is. (count, subst (λ (n : ℕ). AreStands n halves) (same index i is) stands);
      lent = λ e. absurd (none-some index (sym e));
    }

-- A half that is here stands at its place.
pub place-here : (rows : ℕ) (index : Option ℕ) (halves : List (Tied Agreed)) (k : ℕ) (half : Tied Agreed) → AreHere rows index halves → slice_get halves k ≡ Some half → half.place ≡ k
place-here rows None halves k half are is = absurd (none-some half (sym (ap (λ hs. slice_get hs k) (are.lent refl)) ∙ is))
place-here rows (Some i) halves k half are is = ((are.here i refl).1 k half is).place

-- What it tells is the index.
pub index-here : (rows : ℕ) (index : Option ℕ) (halves : List (Tied Agreed)) (k i : ℕ) (half : Tied Agreed) (stand : Stand) → AreHere rows index halves → slice_get halves k ≡ Some half → index ≡ Some i → stand_in half.value ≡ Some stand → stand.index ≡ i
index-here rows index halves k i half stand are is here tells = ap (λ (s : Stand). s.index) (same_stand stand _ (sym tells ∙ ((are.here i here).1 k half is).stands))
  where
    same_stand : (a b : Stand) → Some a ≡ Some b → a ≡ b
    same_stand a b e = cc

-- It tells where a thread stands.
pub some-here : (rows : ℕ) (index : Option ℕ) (halves : List (Tied Agreed)) (k : ℕ) (half : Tied Agreed) → AreHere rows index halves → slice_get halves k ≡ Some half → IsSome (stand_in half.value)
some-here rows None halves k half are is = absurd (none-some half (sym (ap (λ hs. slice_get hs k) (are.lent refl)) ∙ is))
some-here rows (Some i) halves k half are is = ap is_some ((are.here i refl).1 k half is).stands
