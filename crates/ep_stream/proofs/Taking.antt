-- What is taken with a hand.
use Rattle.std.proofs.Common.{◌≡◌, ℕ, zero, suc, ◌-◌, ◌<◌, ◌≤◌, Bool, true, false, List, [], ◌∷◌, Option, None, Some, length, refl, ap, ◌∙◌, arith}
use Rattle.std.specs.Prelude.{slice_index_or, slice_set, ◌==◌, ◌&&◌, if◌then◌else◌, Ok, Err}
use Rattle.std.specs.List.{All}
use Rattle.std.proofs.lemmas.Bool.{eqb-true, eq-eqb}
use Rattle.std.proofs.lemmas.List.{set-set}
use Rattle.std.proofs.lemmas.Option.{none-some}
use Rattle.ep_defs.specs.declared.event.EventDef.{EventDef}
use Rattle.ep_defs.specs.declared.session.TraceInfo.{TraceInfo}
use Rattle.ep_defs.specs.Entry.{Entry}
use Rattle.ep_chunk.specs.Record.{Record}
use Rattle.ep_slot.specs.Slot.{AreRising}
use Rattle.ep_slot.specs.Hand.{HandState}
use Rattle.nt_write.specs.declared.fault.Fault.{Fault}
use Rattle.nt_write.specs.declared.writer.TraceWriter.{TraceWriter}
use Rattle.ep_stream.specs.Rows.{IsBatch}
use Rattle.ep_stream.specs.Hands.{hand_at}
use Rattle.ep_stream.specs.Telling.{IsWritable, Tells}
use Rattle.ep_stream.proofs.Hands.{hand_at_set}

rising_numbered : (below most : ℕ) (records : List Record) → AreRising below most records → (k : ℕ) (d : Record) → k < length records → 0 < (slice_index_or records k d).number
rising_numbered below most [] rising k d small = absurd (omega (arith, small))
rising_numbered below most (r ∷ records) rising zero d small = let first = rising.0 in omega (arith, first)
rising_numbered below most (r ∷ records) rising (suc k) d small = rising_numbered r.number most records rising.1 k d (omega (arith, small))

-- Each record of a batch can be told.
pub batch_writable : (events : List EventDef) (hand : HandState) (records : List Record) (last : ℕ) → IsBatch events hand records last → All (IsWritable events) records
batch_writable events hand records last batch k d small =
    record {
      defined = batch.defined k d small;
      numbered = rising_numbered hand.last last records batch.rising k d small;
      fit = batch.fit k d small;
    }

place_in : (hands : List (Option HandState)) (place : ℕ) (hand : HandState) → slice_index_or hands place None ≡ Some hand → place < length hands
place_in [] zero hand is = absurd (none-some hand is)
place_in [] (suc place) hand is = absurd (none-some hand is)
place_in (first ∷ hands) zero hand is = omega arith
place_in (first ∷ hands) (suc place) hand is = let later = place_in hands place hand is in omega (arith, later)

-- A row that has a hand is one of the list.
pub row_in : (hands : List (Option HandState)) (row : ℕ) (hand : HandState) → hand_at hands row ≡ Some hand → (0 < row) × (row ≤ length hands)
row_in hands zero hand is = absurd (none-some hand is)
row_in hands (suc place) hand is = (omega arith, (let small = place_in hands place hand is in omega (arith, small)))

-- A hand is put down in place of one that was taken out.
pub hand_back : (hands : List (Option HandState)) (row : ℕ) (hand now : HandState) (r : ℕ) → hand_at hands row ≡ Some hand → hand_at (slice_set (slice_set hands (row - 1) None) (row - 1) (Some now)) r ≡ (if r == row then Some now else hand_at hands r)
hand_back hands row hand now r is =
    let row_is = row_in hands row hand is in
    ap (λ (xs : List (Option HandState)). hand_at xs r) (set-set hands (row - 1) None (Some now))
    ∙ hand_at_set hands row (Some now) r row_is.0 row_is.1

pub hand_gone : (hands : List (Option HandState)) (row : ℕ) (hand : HandState) (r : ℕ) → hand_at hands row ≡ Some hand → hand_at (slice_set hands (row - 1) None) r ≡ (if r == row then None else hand_at hands r)
hand_gone hands row hand r is =
    let row_is = row_in hands row hand is in
    hand_at_set hands row None r row_is.0 row_is.1

-- What stands in a table at a slot.
pub at_slot : {A : Type 0} (r row slot : ℕ) (a b : A) → (if (r == row) && (slot == slot) then a else b) ≡ (if r == row then a else b)
at_slot r row slot a b =
    elim (r == row) as (λ v. (if v && (slot == slot) then a else b) ≡ (if v then a else b)) [
      | true ↦ ap (λ (w : Bool). if w then a else b) (eq-eqb slot slot refl)
      | false ↦ refl
    ]

pub same_slot : {A : Type 0} (slot : ℕ) (a b : A) → (if slot == slot then a else b) ≡ a
same_slot slot a b = ap (λ (w : Bool). if w then a else b) (eq-eqb slot slot refl)

-- A row has a hand where it had one before.
pub had_hand : (r row : ℕ) (old : ℕ → Option HandState) (hand now other : HandState) → old row ≡ Some hand → (if r == row then Some now else old r) ≡ Some other → (B : Type 0) → ((h : HandState) → old r ≡ Some h → B) → B
had_hand r row old hand now other was is B then_ =
    elim (r == row) as (λ v. (r == row) ≡ v → (if v then Some now else old r) ≡ Some other → B) [
      | true ↦ λ same at. then_ hand (ap old (eqb-true r row same) ∙ was)
      | false ↦ λ same at. then_ other at
    ]
    refl is

-- What was told counts whatever else the call answers.
pub tells_fault : {S A B : Type 0} (tells : S → Bool) (taken : S → List ℕ) (before : List ℕ) (defs : ℕ → Option EventDef) (info : TraceInfo) (told entries : List Entry) (fault other : Fault) (writer : TraceWriter S) → Tells {A = A} tells taken before defs info told entries (Err fault) writer → Tells {A = B} tells taken before defs info told entries (Err other) writer
tells_fault tells taken before defs info told entries fault other writer t = record { done = t.done; front = t.front; telling = t.telling; all = tt }

pub tells_answer : {S A B : Type 0} (tells : S → Bool) (taken : S → List ℕ) (before : List ℕ) (defs : ℕ → Option EventDef) (info : TraceInfo) (told entries : List Entry) (a : A) (b : B) (writer : TraceWriter S) → Tells {A = A} tells taken before defs info told entries (Ok a) writer → Tells {A = B} tells taken before defs info told entries (Ok b) writer
tells_answer tells taken before defs info told entries a b writer t = record { done = t.done; front = t.front; telling = t.telling; all = t.all }
