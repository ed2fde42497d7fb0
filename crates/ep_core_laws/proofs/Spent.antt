-- There are enough stack ids for all that a session can tell.
use Rattle.std.proofs.Common.{◌≡◌, ℕ, ◌+◌, ◌<◌, ◌≤◌, Bool, true, false, List, [], ◌∷◌, ◌++◌, length, map, Some, refl, ap, sym, ◌∙◌, subst, arith}
use Rattle.std.specs.Prelude.{Result, Ok, Err, fold}
use Rattle.ep_defs.specs.Entry.{Entry, PointEntry, Event, Point}
use Rattle.ep_defs.specs.declared.limits.TheConstants.{SCHEDULE_WRITES}
use Rattle.ep_defs.specs.declared.event.EventDef.{EventDef}
use Rattle.ep_defs.specs.declared.session.TraceInfo.{TraceInfo}
use Rattle.pt_io.specs.Memory.{SinkState}
use Rattle.nt_write.specs.declared.fault.Fault.{Fault}
use Rattle.nt_write.specs.declared.fault.Fault.TheVariants.{WriteFault, TooLong, OutOfMemory}
use Rattle.nt_write.specs.declared.limits.TheConstants.{FRAMED_EVENTS}
use Rattle.nt_write.specs.Writable.{framed, framed_after}
use Rattle.nt_write.specs.Writer.{point_of}
use Rattle.ep_model.specs.declared.step.Step.{Step}
use Rattle.ep_model.specs.Entries.{entries, pending}
use Rattle.ep_model.specs.History.{Past, config_of}
use Rattle.ep_model.specs.Lawful.{IsLawful, begins}
use Rattle.ep_stream.specs.declared.session.SessionEnd.{SessionEnd}
use Rattle.ep_stream.specs.declared.session.Fate.TheVariants as fate
use Rattle.ep_stream.specs.Fates.{fate_after}
use Rattle.ep_stream.specs.Named.{numbers_of}
use Rattle.ep_rundown.specs.Rundown.{used, describing, describing_from, naming, ending}
use Rattle.ep_stream.specs.Session.{Rest, rest_of, Ended}
use Rattle.ep_stream.specs.Telling.{IsFront, entries_of}
use Rattle.ep_tables.specs.declared.tables.Tables.{Tables}
use Rattle.ep_tables.specs.Made.{IsSpent, RunsOut, PointRunsOut, EndsAs}
use Rattle.ep_core_laws.proofs.Follow.{own_row}
use Rattle.ep_core_laws.specs.Stands.{StandBefore}
use Rattle.ep_core_laws.proofs.Counts.{events_in, framed_from, framed_most, few_taken, few_told}
use Rattle.ep_core_laws.proofs.Sets.{row_thread}
use Rattle.ep_core_laws.proofs.Sessions.{placed}
use Rattle.ep_core_laws.proofs.SessionTurns.{taken_entries}

abbrev pub Limited : Type 0
Limited = (events : List EventDef) (past : Past) → IsLawful events past → begins past ≤ SCHEDULE_WRITES

-- Where no more events are told than writes were begun, no more have a stack than there are ids.
enough : (past : Past) (told done all : List Entry) → begins past ≤ SCHEDULE_WRITES → events_in told + events_in all ≤ begins past → IsFront done all → FRAMED_EVENTS < framed (told ++ done) → ⊥
enough past told done all limited few front spent = let most = framed_most told done all front in omega (arith, limited, few, spent, most)

pub takes_enough : Limited → (events : List EventDef) (info : TraceInfo) (s : Step) (past : Past) (session thread : ℕ) (tables : Tables) → StandBefore events info s past tables → RunsOut session thread tables → ⊥
takes_enough limited events info s past session thread tables h out =
    let was = out.was in
    let here = placed events info s past tables session out.place was h out.stands in
    let own = own_row events past tables thread out.row h.follow out.own in
    let rest : Rest = rest_of was.session in
    let buffer = out.buffer in
    let config : config_of session past ≡ Some rest.config = ap (λ (n : ℕ). config_of n past) (sym here.id) ∙ here.stands.rest.config in
    let follows = here.stands.slots out.row own.is_row buffer out.slot_is in
    let all : entries_of events rest.config.stackwalk buffer.records ≡ map Event (pending events session thread past) =
    taken_entries events past session thread rest.config buffer buffer.records follows (row_thread tables.rows out.row was.slot buffer out.slot_is ∙ own.thread_is) config refl in
    let Spent : List EventDef → Type 0 = λ es. IsSpent es (entries_of es rest.config.stackwalk buffer.records) was in
    let front = entries events session past in
    let spent = subst Spent h.follow.events_are out.spent [] info front here.stands.telling in
    enough past front spent.0 (map Event (pending events session thread past)) (limited events past h.lawful.0) (few_taken events session thread past h.lawful.0) (subst (IsFront spent.0) all spent.1) spent.2

pub points_enough : Limited → (events : List EventDef) (info : TraceInfo) (s : Step) (past : Past) (session stamp : ℕ) (tables : Tables) → StandBefore events info s past tables → PointRunsOut session stamp tables → ⊥
points_enough limited events info s past session stamp tables h out =
    let was = out.was in
    let here = placed events info s past tables session out.place was h out.stands in
    let point : PointEntry = point_of stamp (numbers_of (rest_of was.session).named) in
    let Spent : List EventDef → Type 0 = λ es. IsSpent es (Point point ∷ []) was in
    let front = entries events session past in
    let spent = subst Spent h.follow.events_are out.spent [] info front here.stands.telling in
    enough past front spent.0 (Point point ∷ []) (limited events past h.lawful.0) (few_told events session past point h.lawful.0) spent.1 spent.2

-- A session whose fate is that it ran out of stack ids had this answer.
too_long : (answer : Result (Unit {0}) Fault) → fate_after answer fate.ProgramEnd ≡ fate.TooLong → answer ≡ Err TooLong
too_long (Ok u) is = absurd (cc)
too_long (Err WriteFault) is = absurd (cc)
too_long (Err TooLong) is = refl
too_long (Err OutOfMemory) is = absurd (cc)

-- The section has no stack, and a point starts the count anew: however much of the end is told, no more events have a stack
-- than before.
section_framed : (before stamp id : ℕ) (defs : List EventDef) (point : PointEntry) (done : List Entry) → IsFront done (describing_from stamp id defs ++ Point point ∷ []) → fold framed_after before done ≤ before
section_framed before stamp id defs point [] front = omega arith
section_framed before stamp id [] point (e ∷ []) front =
    let same : e ≡ Point point = cc (front.1) in
    subst (λ (one : Entry). framed_after before one ≤ before) (sym same) (omega arith)
section_framed before stamp id [] point (e ∷ other ∷ done) front = let none = front.1 in absurd (cc)
section_framed before stamp id (def ∷ defs) point (e ∷ done) front =
    let same : e ≡ Event (describing stamp id def) = cc (front.1) in
    let rest : done ++ front.0 ≡ describing_from stamp (id + 1) defs ++ Point point ∷ [] = cc (front.1) in
    let count : framed_after before e ≡ before = ap (framed_after before) same in
    let fewer = section_framed (framed_after before e) stamp (id + 1) defs point done (front.0, rest) in
    omega (arith, count, fewer)

ending_framed : (rundown : Bool) (before : ℕ) (told : List Entry) (point : PointEntry) (done : List Entry) → IsFront done (ending rundown told point) → fold framed_after before done ≤ before
ending_framed true before told point done front = section_framed before point.stamp 1 (used told) (naming (length (used told)) point) done front
ending_framed false before told point done front = section_framed before point.stamp 1 [] point done front

framed_both : (before : ℕ) (told done : List Entry) → fold framed_after before (told ++ done) ≡ fold framed_after (fold framed_after before told) done
framed_both before [] done = refl
framed_both before (e ∷ told) done = framed_both (framed_after before e) told done

pub ends_enough : Limited → (events : List EventDef) (info : TraceInfo) (s : Step) (past : Past) (session stamp : ℕ) (tables : Tables) (end : SessionEnd SinkState) → StandBefore events info s past tables
    → EndsAs session stamp tables end → end.fate ≡ fate.TooLong → ⊥
ends_enough limited events info s past session stamp tables end h ends is =
    let was = ends.was in
    let here = placed events info s past tables session ends.place was h ends.stands in
    let rest : Rest = rest_of was.session in
    let point : PointEntry = point_of stamp (numbers_of rest.named) in
    let front = entries events session past in
    let Ending : List EventDef → Type 0 = λ es. Ended (λ (s : SinkState). true) (λ (s : SinkState). s.taken) (λ (s : SinkState). s.faults) es stamp fate.ProgramEnd was.session end.fate end.sink in
    let ended = subst Ending h.follow.events_are ends.ended in
    let told = ended.stream [] info front here.stands.telling in
    let more = ending_framed rest.config.rundown (framed front) front point told.done told.front in
    let most = framed_from 0 front in
    let few = few_told events session past point h.lawful.0 in
    let limit = limited events past h.lawful.0 in
    let spent = told.spent (too_long ended.answer (sym ended.fate_is ∙ is)) in
    let both = framed_both 0 front told.done in
    omega (arith, more, most, few, limit, spent, both)
