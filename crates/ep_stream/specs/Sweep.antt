-- A sweep: what a session takes of the rows on which it is open, one after another (this project's profile).
use Rattle.std.specs.Prelude.{◌≡◌, ◌≢◌, ℕ, zero, suc, ◌==◌, ◌≤◌, ◌⊎◌, ◌++◌, if◌then◌else◌, Bool, true, List, [], ◌∷◌, map, length, Option, Some, Result, Err, IfOk, OnOk, OnErr, is_some}
use Rattle.std.specs.List.{All, fold, flat_map, sum_by}
use Rattle.ep_defs.specs.declared.event.EventDef.{EventDef}
use Rattle.ep_defs.specs.declared.session.Config.{Config}
use Rattle.ep_defs.specs.declared.session.Write.{Write}
use Rattle.ep_defs.specs.Entry.{Entry, Point}
use Rattle.ep_chunk.specs.Record.{Record}
use Rattle.ep_slot.specs.Hand.{HandState}
use Rattle.nt_write.specs.declared.fault.Fault.{Fault}
use Rattle.nt_write.specs.declared.fault.Fault.TheVariants.{WriteFault}
use Rattle.nt_write.specs.declared.writer.TraceWriter.{TraceWriter}
use Rattle.nt_write.specs.Writer.{point_of, fault_of, sink_of}
use Rattle.pt_io.specs.Faults.{HasRisen}
use Rattle.ep_stream.specs.declared.opened.Named.{Named}
use Rattle.ep_stream.specs.declared.session.Session.{Session}
use Rattle.ep_stream.specs.Rows.{hand_after}
use Rattle.ep_stream.specs.Steps.{ToldRows, TellsStep, Steals, GivesBack}
use Rattle.ep_stream.specs.Telling.{entries_of}
use Rattle.ep_stream.specs.Named.{with_number, still_open, numbers_of}
use Rattle.ep_stream.specs.Session.{hand_on, rest_of, Batched, Writes}

-- What was taken of one row.
pub record Taking : Type 0 where
  pub row : ℕ
  -- the row's hand as it was
  pub hand : HandState
  pub records : List Record
  pub last : ℕ
  pub chunks : ℕ

-- ---- what they come to

abbrev pub rows_of : List Taking → List ℕ
rows_of takings = map (λ t. t.row) takings

-- How many records were taken.
abbrev pub records_in : List Taking → ℕ
records_in takings = sum_by (λ t. length t.records) takings

-- The rows up to a number that have a hand, ascending.
abbrev pub open_rows : (ℕ → Option HandState) → ℕ → List ℕ
open_rows hands zero = []
open_rows hands (suc n) = open_rows hands n ++ (if is_some (hands (suc n)) then suc n ∷ [] else [])

-- The hands where one knows of what was taken with it.
abbrev pub with_taking : (ℕ → Option HandState) → Taking → ℕ → Option HandState
with_taking hands t row = if row == t.row then Some (hand_after t.hand (length t.records) t.last t.chunks) else hands row

abbrev pub hands_after : (ℕ → Option HandState) → List Taking → ℕ → Option HandState
hands_after hands takings = fold with_taking hands takings

-- The threads that a point names, each with its number at the last steal.
abbrev pub named_after : List Named → List Taking → List Named
named_after names takings = fold (λ ns t. with_number t.hand.thread t.last true ns) names takings

-- ---- what is told

-- The entries of all records, taking by taking.
abbrev pub entries_in : List EventDef → Bool → List Taking → List Entry
entries_in events stacks takings = flat_map (λ t. entries_of events stacks t.records) takings

-- The point that follows where there were so many records.
abbrev pub point_after : ℕ → ℕ → List Named → List Entry
point_after zero stamp names = []
point_after (suc records) stamp names = Point (point_of stamp (numbers_of names)) ∷ []

-- The threads that the point after that names.
abbrev pub named_behind : ℕ → List Named → List Named
named_behind zero names = names
named_behind (suc records) names = still_open names

-- All that a sweep tells: the records of all rows, and then a point where there are some.
abbrev pub sweep_entries : List EventDef → Bool → ℕ → List Named → List Taking → List Entry
sweep_entries events stacks stamp names takings =
    entries_in events stacks takings ++ point_after (records_in takings) stamp (named_after names takings)

-- ---- the steps of rows that are told

-- So many chunks are given back, if there are some.
abbrev pub TellsGive : ℕ → ℕ → Option ToldRows → Option ToldRows → Type 0
TellsGive slot zero old new = new ≡ old
TellsGive slot (suc chunks) old new = TellsStep (GivesBack slot (suc chunks)) old new

-- All that is pending in a slot of the row is taken, and its chunks are given back.
pub record TellsTaking (slot : ℕ) (t : Taking) (old new : Option ToldRows) : Type 0 where
  pub between : Option ToldRows
  pub takes : TellsStep (Steals t.row slot t.records t.last t.chunks) old between
  pub gives : TellsGive slot t.chunks between new

-- One row after another.
abbrev pub TellsTakings : ℕ → List Taking → Option ToldRows → Option ToldRows → Type 0
TellsTakings slot [] old new = new ≡ old
TellsTakings slot (t ∷ takings) old new =
    (between : Option ToldRows) × TellsTaking slot t old between × TellsTakings slot takings between new

-- ---- what the call makes

-- Of each of these rows all that was pending was taken with its hand and given back, and the next point knows of it.
pub record Taken {S : Type 0} (Tested : ℕ → ℕ → ℕ → Write → Type 0) (Told : List Taking → Type 0) (events : List EventDef) (takings : List Taking) (old new : Session S) : Type 0 where
  pub were : All (λ t. hand_on old t.row ≡ Some t.hand) takings
  pub batched : All (λ t. Batched Tested events t.hand t.records t.last) takings
  pub told : Told takings
  pub hands : (row : ℕ) → hand_on new row ≡ hands_after (hand_on old) takings row
  pub rest : rest_of new ≡ record (rest_of old) { named = named_after (rest_of old).named takings; in_hand = 0 }

-- All that was pending was taken of each row on which the session is open, in their order; after a fault of the first of
-- them. Then a point tells the last numbers, where there was a record.
pub record Swept {S : Type 0} (Tested : ℕ → ℕ → ℕ → Write → Type 0) (Told Writes : List Taking → Type 0) (events : List EventDef) (count : ℕ) (old new : Session S) (result : Result ℕ Fault) : Type 0 where
  pub takings : List Taking
  pub whole : OnOk result (rows_of takings ≡ open_rows (hand_on old) count)
  pub front : (others : List ℕ) × (rows_of takings ++ others ≡ open_rows (hand_on old) count)
  pub were : All (λ t. hand_on old t.row ≡ Some t.hand) takings
  pub batched : All (λ t. Batched Tested events t.hand t.records t.last) takings
  pub told : Told takings
  pub writes : Writes takings
  pub hands : (row : ℕ) → hand_on new row ≡ hands_after (hand_on old) takings row
  pub rest : rest_of new ≡ record (rest_of old) { named = (rest_of new).named; in_hand = 0 }
  pub named : OnOk result ((rest_of new).named ≡ named_behind (records_in takings) (named_after (rest_of old).named takings))
  pub unnamed : OnErr result ((rest_of new).named ≡ named_after (rest_of old).named takings)
  pub counted : IfOk result (λ count. count ≡ records_in takings)

-- The same of one row, and of none where the session is not open there.
pub record SweptRow {S : Type 0} (Tested : ℕ → ℕ → ℕ → Write → Type 0) (Told Writes : List Taking → Type 0) (events : List EventDef) (row : ℕ) (old new : Session S) (result : Result ℕ Fault) : Type 0 where
  pub takings : List Taking
  pub rows_are : rows_of takings ≡ (if is_some (hand_on old row) then row ∷ [] else [])
  pub taken : Taken Tested Told events takings old new
  pub writes : Writes takings
  pub counted : IfOk result (λ count. count ≡ records_in takings)

-- The rows of a set were swept: each record passed the set's test, the set's rows tell what was taken, and the stream tells
-- the records and then the point.
abbrev pub SweptFrom : {S : Type 0} → (S → Bool) → (S → List ℕ) → (Config → ℕ → ℕ → ℕ → Write → Type 0) → Option ToldRows → Option ToldRows → List EventDef → ℕ → ℕ → Session S → Session S → Result ℕ Fault → Type 0
SweptFrom tells taken tests rows_old rows_new events stamp count old new result =
    Swept
    (tests (rest_of old).config)
    (λ takings. TellsTakings (rest_of old).seat.slot takings rows_old rows_new)
    (λ takings. Writes tells taken events (sweep_entries events (rest_of old).config.stackwalk stamp (rest_of old).named takings) old new result)
    events count old new result

-- The same of one row of a set, without a point.
abbrev pub SweptRowFrom : {S : Type 0} → (S → Bool) → (S → List ℕ) → (Config → ℕ → ℕ → ℕ → Write → Type 0) → Option ToldRows → Option ToldRows → List EventDef → ℕ → Session S → Session S → Result ℕ Fault → Type 0
SweptRowFrom tells taken tests rows_old rows_new events row old new result =
    SweptRow
    (tests (rest_of old).config)
    (λ takings. TellsTakings (rest_of old).seat.slot takings rows_old rows_new)
    (λ takings. Writes tells taken events (entries_in events (rest_of old).config.stackwalk takings) old new result)
    events row old new result

-- A fault comes from the writer, and one of the sink only where the sink's count of faults rose or the writer had failed
-- with it. With any other answer that count is as before. Where there is none the writer has failed if it had failed before.
pub record MayFail {S A : Type 0} (faults : S → ℕ) (old new : TraceWriter S) (result : Result A Fault) : Type 0 where
  pub fails : (fault : Fault) → result ≡ Err fault → fault_of new ≡ Some fault
  pub same : OnOk result (fault_of new ≡ fault_of old)
  pub stays : (fault : Fault) → fault_of old ≡ Some fault → OnErr result (result ≡ Err fault)
  pub write_fault : result ≡ Err WriteFault → (fault_of old ≡ Some WriteFault) ⊎ HasRisen (faults (sink_of old)) (faults (sink_of new))
  pub wrote : result ≢ Err WriteFault → faults (sink_of new) ≡ faults (sink_of old)
  pub later : faults (sink_of old) ≤ faults (sink_of new)
