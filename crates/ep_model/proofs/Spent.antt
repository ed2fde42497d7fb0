-- A budget of one chunk, which 963 writes of 68 bytes fill.
use Rattle.std.proofs.Common.{◌≡◌, ℕ, zero, suc, ◌+◌, ◌*◌, ◌≤◌, true, false, [], ◌∷◌, Some, refl, ap, ◌∙◌, arith}
use Rattle.std.specs.Prelude.{nat_lt, nat_le}
use Rattle.std.proofs.lemmas.Bool.{le-ltb, lt-leb}
use Rattle.ep_defs.specs.declared.limits.TheConstants.{CHUNK_BYTES, SCHEDULE_WRITES}
use Rattle.ep_defs.specs.Samples.{write_e}
use Rattle.ep_model.specs.declared.step.Step.TheVariants as step
use Rattle.ep_model.specs.Chunks.{is_refused, refused, is_hand_full}
use Rattle.ep_model.specs.Fold.{budget_of}
use Rattle.ep_model.specs.History.{Past, config_of, accepted, is_present, has_left, opened, is_open, in_write, shows}
use Rattle.ep_model.specs.Lawful.{IsLawful, begins}
use Rattle.ep_model.specs.Schedules.{two_levels, config_with, one_small_chunk, writes_after, spent}
use Rattle.ep_model.proofs.Counted.{refused-counted, hand-counted}

-- What so many writes have come to, the first of which began the chunk.
record Filled (n : ℕ) (past : Past) : Type 0 where
  held_one : (budget_of 1 past).held ≡ 1
  none_in_hand : (budget_of 1 past).in_hand ≡ 0
  chunks_one : ((budget_of 1 past).pending 1).chunks ≡ 1
  used_are : ((budget_of 1 past).pending 1).used ≡ 68 * n
  none_refused : refused 1 1 past ≡ []
  shown : shows 1 1 past ≡ n
  config_is : config_of 1 past ≡ Some (config_with 1 true 1)
  stays : has_left 1 past ≡ false
  outside : in_write 1 past ≡ false
  present_is : is_present 1 past ≡ true
  accepted_is : accepted past ≡ 1 ∷ []
  open_is : is_open 1 1 past ≡ true
  opened_is : opened 1 past ≡ 1 ∷ []
  begun : begins past ≡ n
  lawful : IsLawful two_levels past

first : Filled 1 (writes_after one_small_chunk 1)
first =
    record {
      held_one = refl;
      none_in_hand = refl;
      chunks_one = refl;
      used_are = refl;
      none_refused = refl;
      shown = refl;
      config_is = refl;
      stays = refl;
      outside = refl;
      present_is = refl;
      accepted_is = refl;
      open_is = refl;
      opened_is = refl;
      begun = refl;
      lawful = (((((tt, refl), refl), refl), refl), refl);
    }

-- One write more fits as long as there is room for its 68 bytes.
next : (n : ℕ) (past : Past) → n ≤ 962 → Filled n past → Filled (suc n) (step.End 1 ∷ step.Show 1 1 ∷ step.Begin 1 n (write_e 1) ∷ past)
next n past few h =
    let begun = step.Begin 1 n (write_e 1) ∷ past in
    let room : nat_lt CHUNK_BYTES (68 * n + 68) ≡ false = le-ltb CHUNK_BYTES (68 * n + 68) (omega arith) in
    let written : is_refused 1 1 begun ≡ false = refused-counted 1 1 begun ∙ rw (h.chunks_one, h.used_are, room) refl in
    let below : nat_le SCHEDULE_WRITES n ≡ false = lt-leb SCHEDULE_WRITES n (omega arith) in
    record {
      held_one = rw (h.chunks_one, h.used_are, room) (omega (arith, h.held_one));
      none_in_hand = rw (h.chunks_one, h.used_are, room) h.none_in_hand;
      chunks_one = rw (h.chunks_one, h.used_are, room) refl;
      used_are = rw (h.chunks_one, h.used_are, room) (omega arith);
      none_refused = rw written h.none_refused;
      shown = omega (arith, h.shown);
      config_is = h.config_is;
      stays = h.stays;
      outside = refl;
      present_is = h.present_is;
      accepted_is = h.accepted_is;
      open_is = h.open_is;
      opened_is = h.opened_is;
      begun = omega (arith, h.begun);
      lawful = (
        (
          (h.lawful, rw (h.stays, h.outside, h.begun, below) refl),
          rw (h.stays, h.present_is, h.open_is, h.config_is) refl,
        ),
        rw (h.stays, h.accepted_is, h.present_is) refl,
      );
    }

filled : (n : ℕ) → n ≤ 962 → Filled (suc n) (writes_after one_small_chunk (suc n))
filled zero few = first
filled (suc n) few = next (suc n) (writes_after one_small_chunk (suc n)) few (filled n (omega arith))

-- ---- the chunk is full

-- Then one write is refused; a Steal and a Give, and one write is taken.
abbrev over : Past → Past
over past = step.End 1 ∷ step.Show 1 1 ∷ step.Begin 1 963 (write_e 1) ∷ past

abbrev again : Past → Past
again past = step.End 1 ∷ step.Show 1 1 ∷ step.Begin 1 964 (write_e 1) ∷ step.Give 1 ∷ step.Steal 1 1 ∷ over past

abbrev ended : Past → Past
ended past = step.Finish 1 1000 ∷ step.Close 1 1 ∷ step.Give 1 ∷ step.Steal 1 1 ∷ again past

refuses : (past : Past) → Filled 963 past → refused 1 1 (ended past) ≡ 964 ∷ []
refuses past h =
    let full = step.Begin 1 963 (write_e 1) ∷ past in
    let free = step.Begin 1 964 (write_e 1) ∷ step.Give 1 ∷ step.Steal 1 1 ∷ over past in
    let out : is_refused 1 1 full ≡ true = refused-counted 1 1 full ∙ rw (h.chunks_one, h.used_are, h.held_one, h.config_is) refl in
    let taken : is_refused 1 1 free ≡ false = refused-counted 1 1 free ∙ rw (h.chunks_one, h.used_are, h.held_one, h.config_is, h.none_in_hand, h.chunks_one) refl in
    rw (taken, out, h.none_refused, h.shown) refl

-- A hand with nothing in it.
empty_hand : (past : Past) → (budget_of 1 past).in_hand ≡ 0 → is_hand_full 1 past ≡ false
empty_hand past none = ap (λ n. nat_lt 0 n) (hand-counted 1 past ∙ none)

lawful-over : (past : Past) → Filled 963 past → IsLawful two_levels (over past)
lawful-over past h = (
  (
    (h.lawful, rw (h.stays, h.outside, h.begun) refl),
    rw (h.stays, h.present_is, h.open_is, h.config_is) refl,
  ),
  rw (h.stays, h.accepted_is, h.present_is) refl,
)

lawful-again : (past : Past) → Filled 963 past → IsLawful two_levels (again past)
lawful-again past h =
    let none = empty_hand (over past) (rw (h.chunks_one, h.used_are, h.held_one, h.config_is) h.none_in_hand) in (
      (
        (
          ((lawful-over past h, rw (none, h.present_is, h.open_is) refl), rw h.present_is refl),
          rw (h.stays, h.begun) refl,
        ),
        rw (h.stays, h.present_is, h.open_is, h.config_is) refl,
      ),
      rw (h.stays, h.accepted_is, h.present_is) refl,
    )

lawful-ended : (past : Past) → Filled 963 past → IsLawful two_levels (ended past)
lawful-ended past h =
    let given = step.Give 1 ∷ step.Steal 1 1 ∷ again past in
    let first = empty_hand (again past) (rw (h.chunks_one, h.used_are, h.held_one, h.config_is, h.none_in_hand, h.chunks_one) refl) in
    let second = empty_hand given refl in
    let third = empty_hand (step.Close 1 1 ∷ given) refl in (
      (
        (
          (lawful-again past h, rw (first, h.present_is, h.open_is) refl),
          rw h.present_is refl,
        ),
        rw (second, h.present_is, h.open_is) refl,
      ),
      rw (third, h.present_is, h.opened_is) refl,
    )

pub spent-refused : refused 1 1 spent ≡ 964 ∷ []
spent-refused = refuses (writes_after one_small_chunk 963) (filled 962 (omega arith))

pub spent-lawful : IsLawful two_levels spent
spent-lawful = lawful-ended (writes_after one_small_chunk 963) (filled 962 (omega arith))
