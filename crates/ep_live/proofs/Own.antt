-- What the rows of one session have at a row, in the session's own slot.
use Rattle.std.proofs.Common.{◌≡◌, ◌∙◌, ℕ, ◌+◌, ◌-◌, ◌<◌, ◌≤◌, List, Option, Some, length, refl, ap, sym, arith}
use Rattle.std.specs.Prelude.{◌==◌, if◌then◌else◌, slice_get, slice_set, slice_index_or}
use Rattle.std.specs.List.{sum_by}
use Rattle.std.proofs.lemmas.Option.{slice_get_read}
use Rattle.ep_defs.specs.declared.event.EventDef.{EventDef}
use Rattle.ep_pool.specs.Shared.{SeatState}
use Rattle.ep_slot.specs.Hand.{HandState}
use Rattle.ep_tie.specs.Tied.{Tied}
use Rattle.ep_guarded.specs.declared.agreed.Agreed.{Agreed}
use Rattle.ep_guarded.specs.Tied.{hand_in, buffer_number, hand_place}
use Rattle.ep_live.specs.RowSet.{LiveRowsState, half_at, expected_in, out_in, stolen_in, AreRowsOfOne}
use Rattle.ep_live.proofs.Halves.{half-is, said-own, said-there, sum-set, out-more}

-- The half at a row, the first being row 1, in the slot of the session, and the hand that it agrees on.
pub record IsOwnHalf (set : LiveRowsState) (row slot : ℕ) (half : Tied Agreed) (hand : Option HandState) : Type 0 where
  pub at : slice_get set.halves (row - 1) ≡ Some half
  pub here : half_at set.halves row ≡ half
  pub own : slot ≡ set.slot
  pub hand_is : hand_in half.value ≡ hand

-- The half that is read at a row agrees on the hand that is expected there.
pub own-half : (set now : LiveRowsState) (row slot : ℕ) (half : Tied Agreed) (hand : Option HandState) → set ≡ now
    → (0 < row) × (row ≤ length now.halves) → half ≡ slice_index_or set.halves (row - 1) half → slot ≡ set.slot
    → expected_in now row slot ≡ hand → IsOwnHalf set row slot half hand
own-half set now row slot half hand is within read own expected =
    let count : length set.halves ≡ length now.halves = ap (λ (v : LiveRowsState). length v.halves) is in
    let at = slice_get_read set.halves _ (row - 1) half refl (omega (arith, count, within)) read in
    let here = half-is set.halves row half within.0 at in
    record {
      at = at;
      here = here;
      own = own;
      hand_is =
          ap (λ (h : Tied Agreed). hand_in h.value) (sym here) ∙ sym (said-own hand_in set.halves set.slot row slot own)
          ∙ ap (λ (v : LiveRowsState). expected_in v row slot) is ∙ expected;
    }

-- Where a hand is expected the slot is the session's.
pub hand-half : (set now : LiveRowsState) (row slot : ℕ) (half : Tied Agreed) (hand : HandState) → set ≡ now
    → (0 < row) × (row ≤ length now.halves) → half ≡ slice_index_or set.halves (row - 1) half
    → expected_in now row slot ≡ Some hand → IsOwnHalf set row slot half (Some hand)
hand-half set now row slot half hand is within read expected =
    let own = said-there hand_in set.halves set.slot row slot hand (ap (λ (v : LiveRowsState). expected_in v row slot) is ∙ expected) in
    own-half set now row slot half (Some hand) is within read own expected

-- It stands at the place of the buffer of this row and slot.
pub place-own : (set : LiveRowsState) (row slot : ℕ) (half : Tied Agreed) (hand : Option HandState) (rows : ℕ) (events : List EventDef) (openings : ℕ)
    → IsOwnHalf set row slot half hand → AreRowsOfOne rows events set.slot set.grant set.halves set.seat openings set.lives
    → half.place ≡ hand_place rows (buffer_number (row - 1) slot)
place-own set row slot half hand rows events openings has rests =
    (rests.halves_are (row - 1) half has.at).place ∙ ap (λ (s : ℕ). hand_place rows (buffer_number (row - 1) s)) (sym has.own)

-- What is out once so many chunks more were taken with its hand.
pub out-own : (set now : LiveRowsState) (row slot : ℕ) (half after : Tied Agreed) (hand : Option HandState) (seat : SeatState) (s more : ℕ)
    → set ≡ now → IsOwnHalf set row slot half hand → set.seat.given ≤ sum_by stolen_in set.halves + set.seat.taken
    → seat.given ≡ set.seat.given → stolen_in after + seat.taken ≡ stolen_in half + set.seat.taken + more
    → (if s == set.slot then sum_by stolen_in (slice_set set.halves (row - 1) after) + seat.taken - seat.given else 0)
    ≡ (if s == slot then out_in now s + more else out_in now s)
out-own set now row slot half after hand seat s more is has before given taken =
    let chunks = sum-set stolen_in set.halves (row - 1) half after has.at in
    out-more set.slot slot s _ _ more has.own (omega (arith, chunks, before, given, taken))
    ∙ ap (λ (v : LiveRowsState). if s == slot then out_in v s + more else out_in v s) is
