-- What a session and its rows are once a row's hand was used.
use Rattle.std.proofs.Common.{◌≡◌, ℕ, ◌+◌, ◌-◌, Bool, List, Option, None, Some, ap, sym, ◌∙◌, subst, arith}
use Rattle.std.specs.Prelude.{◌==◌, if◌then◌else◌, slice_set}
use Rattle.std.specs.List.{All}
use Rattle.ep_defs.specs.declared.event.EventDef.{EventDef}
use Rattle.ep_defs.specs.declared.session.Config.{Config}
use Rattle.ep_defs.specs.declared.session.Marks.{Marks}
use Rattle.ep_defs.specs.declared.session.Write.{Write}
use Rattle.ep_chunk.specs.Record.{Record}
use Rattle.ep_slot.specs.Hand.{HandState}
use Rattle.ep_row.specs.AtRest.{write_of}
use Rattle.ep_stream.specs.declared.opened.Named.{Named}
use Rattle.ep_stream.specs.declared.opened.Opened.{Opened}
use Rattle.ep_stream.specs.declared.session.Session.{Session}
use Rattle.ep_stream.specs.Hands.{hand_at}
use Rattle.ep_stream.specs.Named.{with_number}
use Rattle.ep_stream.specs.Opened.{hands_in, named_in, marks_in, hand_on as hand_in_opened}
use Rattle.ep_stream.specs.Rows.{IsSetAt, IsSame, IsBatch}
use Rattle.ep_stream.specs.Session.{Rest, AreRowsOf, Batched, SetsHand, hand_on, rest_of}
use Rattle.ep_stream.proofs.Taking.{hand_back, at_slot, same_slot, had_hand}

-- The hand was taken out, used and put back.
pub hands-back : (old lifted kept new : Opened) (row : ℕ) (hand used now : HandState) → hand_in_opened old row ≡ Some hand
    → hands_in lifted ≡ slice_set (hands_in old) (row - 1) None → hands_in kept ≡ slice_set (hands_in lifted) (row - 1) (Some used)
    → hands_in new ≡ hands_in kept → used ≡ now → (r : ℕ) → hand_in_opened new r ≡ (if r == row then Some now else hand_in_opened old r)
hands-back old lifted kept new row hand used now was lifted_is kept_is new_is used_is r =
    ap (λ (xs : List (Option HandState)). hand_at xs r)
    (new_is
    ∙ kept_is
    ∙ ap (λ (xs : List (Option HandState)). slice_set xs (row - 1) (Some used)) lifted_is
    ∙ ap (λ (h : HandState). slice_set (slice_set (hands_in old) (row - 1) None) (row - 1) (Some h)) used_is)
    ∙ hand_back (hands_in old) row hand now r was

-- The last number of its thread was put down, and its chunks are in hand.
pub rest-used : (old : Rest) (was lifted kept new : Opened) (thread number : ℕ) (used now : HandState) (stays : Bool) (marks : List Marks) (chunks : ℕ)
    → named_in lifted ≡ named_in was → named_in kept ≡ named_in lifted → named_in new ≡ with_number thread number stays (named_in kept)
    → thread ≡ used.thread → used ≡ now → marks_in new ≡ marks
    → record old { named = named_in new; marks = marks_in new; in_hand = chunks }
    ≡ record old { named = with_number now.thread number stays (named_in was); marks = marks; in_hand = chunks }
rest-used old was lifted kept new thread number used now stays marks chunks lifted_is kept_is new_is thread_is used_is marks_are =
    let named_is : named_in new ≡ with_number now.thread number stays (named_in was) =
    new_is
    ∙ ap (λ (ns : List Named). with_number thread number stays ns) (kept_is ∙ lifted_is)
    ∙ ap (λ (t : ℕ). with_number t number stays (named_in was)) (thread_is ∙ ap (λ (h : HandState). h.thread) used_is)
    in
    ap (λ (ns : List Named). record old { named = ns; marks = marks_in new; in_hand = chunks }) named_is
    ∙ ap (λ (ms : List Marks). record old { named = with_number now.thread number stays (named_in was); marks = ms; in_hand = chunks }) marks_are

-- A batch of the program's own events, each record of which passed the test.
pub batched-of : (Tested : ℕ → ℕ → ℕ → Write → Type 0) (events own : List EventDef) (hand : HandState) (records : List Record) (last : ℕ) → events ≡ own
    → IsBatch own hand records last → All (λ r. Tested hand.thread hand.from r.number (write_of r)) records → Batched Tested events hand records last
batched-of Tested events own hand records last same batch tested =
    record { batch = subst (λ (es : List EventDef). IsBatch es hand records last) (sym same) batch; tested = tested }

-- The rows expect the hand as it is now, and know of the chunks in hand.
pub rows-stolen : {S R : Type 0} (expected : R → ℕ → ℕ → Option HandState) (configured : R → ℕ → ℕ → Option Config) (out : R → ℕ → ℕ) (rows after : R)
    → (old new : Session S) (row : ℕ) (hand used now : HandState) (names : List Named) (chunks : ℕ)
    → AreRowsOf expected configured out rows old → (rest_of old).in_hand ≡ 0 → hand_on old row ≡ Some hand → used ≡ now
    → IsSetAt row (rest_of old).seat.slot (Some used) (expected rows) (expected after) → IsSame (configured rows) (configured after)
    → ((s : ℕ) → out after s ≡ (if s == (rest_of old).seat.slot then out rows s + chunks else out rows s))
    → SetsHand row (Some now) old new → rest_of new ≡ record (rest_of old) { named = names; in_hand = chunks }
    → AreRowsOf expected configured out after new
rows-stolen expected configured out rows after old new row hand used now names chunks were empty was used_is sets same more hands rest =
    let slot = (rest_of old).seat.slot in
    let slot_is : (rest_of new).seat.slot ≡ slot = ap (λ (r : Rest). r.seat.slot) rest in
    let none : 0 + chunks ≡ chunks = omega arith in
    record {
      hands = λ r.
          ap (λ (s : ℕ). expected after r s) slot_is
          ∙ sets r slot
          ∙ at_slot r row slot (Some used) (expected rows r slot)
          ∙ ap (λ (o : Option HandState). if r == row then Some used else o) (were.hands r)
          ∙ ap (λ (h : HandState). if r == row then Some h else hand_on old r) used_is
          ∙ sym (hands r);
      configs = λ r other is.
          ap (λ (s : ℕ). configured after r s) slot_is
          ∙ same r slot
          ∙ had_hand r row (hand_on old) hand now other was (sym (hands r) ∙ is) (configured rows r slot ≡ Some (rest_of old).config) (λ h at. were.configs r h at)
          ∙ ap (λ (k : Rest). Some k.config) (sym rest);
      chunks =
          ap (λ (s : ℕ). out after s) slot_is
          ∙ more slot
          ∙ same_slot slot (out rows slot + chunks) (out rows slot)
          ∙ ap (λ (n : ℕ). n + chunks) (were.chunks ∙ empty)
          ∙ none
          ∙ ap (λ (k : Rest). k.in_hand) (sym rest);
    }
