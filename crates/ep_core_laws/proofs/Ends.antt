-- What is left of a session that finishes.
use Rattle.std.proofs.Common.{◌≡◌, ℕ, Bool, true, false, Option, Some, List, [], ◌∷◌, ◌++◌, refl, ap, sym, ◌∙◌, subst}
use Rattle.std.specs.Prelude.{Result, Ok, Err, OnOk}
use Rattle.std.specs.Option.{option_map_or}
use Rattle.ep_defs.specs.Entry.{Entry}
use Rattle.ep_defs.specs.declared.session.Config.{Config}
use Rattle.ep_defs.specs.declared.event.EventDef.{EventDef}
use Rattle.ep_defs.specs.declared.session.Marks.{Marks}
use Rattle.ep_defs.specs.declared.session.TraceInfo.{TraceInfo}
use Rattle.pt_io.specs.Memory.{SinkState}
use Rattle.nt_write.specs.declared.fault.Fault.{Fault}
use Rattle.nt_write.specs.declared.fault.Fault.TheVariants.{WriteFault, TooLong, OutOfMemory}
use Rattle.nt_write.specs.Canonical.{IsCanonical}
use Rattle.nt_write.specs.Writer.{TookStream}
use Rattle.ep_model.specs.declared.step.Step.TheVariants as step
use Rattle.ep_model.specs.Entries.{entries}
use Rattle.ep_model.specs.History.{Past, config_of}
use Rattle.ep_model.specs.Lawful.{IsLawful}
use Rattle.ep_model.specs.Marks.{marks_of}
use Rattle.ep_stream.specs.declared.session.SessionEnd.{SessionEnd}
use Rattle.ep_stream.specs.declared.session.Fate.TheVariants.{ProgramEnd}
use Rattle.ep_stream.specs.Fates.{fate_after}
use Rattle.ep_rundown.specs.Rundown.{with_section}
use Rattle.ep_stream.specs.Session.{Rest, rest_of, last_entries, Ended}
use Rattle.ep_tables.specs.declared.tables.Tables.{Tables}
use Rattle.ep_stream_laws.specs.Kept.{RestFollows}
use Rattle.ep_told.specs.Told.{has_rundown, told_entries}
use Rattle.ep_tables.specs.Made.{EndsAs}
use Rattle.ep_core_laws.specs.Stands.{StandBefore}
use Rattle.ep_core_laws.proofs.Sessions.{placed}

abbrev pub LastMarks : Type 0
LastMarks =
    (events : List EventDef) (past : Past) (rest : Rest) (stamp : ℕ) → RestFollows past rest → IsLawful events (step.Finish rest.seat.id stamp ∷ past)
    → rest.marks ≡ marks_of rest.seat.id (step.Finish rest.seat.id stamp ∷ past)

pub ends_marks : LastMarks → (events : List EventDef) (info : TraceInfo) (past : Past) (session stamp : ℕ) (tables : Tables) (end : SessionEnd SinkState)
    → StandBefore events info (step.Finish session stamp) past tables → EndsAs session stamp tables end → end.marks ≡ marks_of session (step.Finish session stamp ∷ past)
ends_marks last_marks events info past session stamp tables end h ends =
    let here = placed events info (step.Finish session stamp) past tables session ends.place ends.was h ends.stands in
    let rest : Rest = rest_of ends.was.session in
    let Lawful : ℕ → Type 0 = λ n. IsLawful events (step.Finish n stamp ∷ past) in
    let marks : ℕ → List Marks = λ n. marks_of n (step.Finish n stamp ∷ past) in
    ends.marks ∙ last_marks events past rest stamp here.stands.rest (subst Lawful (sym here.id) h.lawful) ∙ ap marks here.id

abbrev pub EntriesFinish : Type 0
EntriesFinish =
    (events : List EventDef) (past : Past) (rest : Rest) (stamp : ℕ) → RestFollows past rest
    → with_section rest.config.rundown (entries events rest.seat.id (step.Finish rest.seat.id stamp ∷ past))
    ≡ entries events rest.seat.id past ++ last_entries stamp (entries events rest.seat.id past) rest

-- What a session has whose end is the program's.
of_end : (answer : Result (Unit {0}) Fault) (Whole : Type 0) → fate_after answer ProgramEnd ≡ ProgramEnd → OnOk answer Whole → Whole
of_end (Ok u) Whole is whole = whole
of_end (Err WriteFault) Whole is whole = absurd (cc)
of_end (Err TooLong) Whole is whole = absurd (cc)
of_end (Err OutOfMemory) Whole is whole = absurd (cc)

-- A session is asked for a rundown where its configuration says so.
asked : (session : ℕ) (past : Past) (rest : Rest) → config_of session past ≡ Some rest.config → has_rundown session past ≡ rest.config.rundown
asked session past rest is = ap (λ (config : Option Config). option_map_or (λ c. c.rundown) config false) is

pub ends_stream : EntriesFinish → (events : List EventDef) (info : TraceInfo) (past : Past) (session stamp : ℕ) (tables : Tables) (end : SessionEnd SinkState)
    → StandBefore events info (step.Finish session stamp) past tables → EndsAs session stamp tables end → end.fate ≡ ProgramEnd
    → IsCanonical info (told_entries events session (step.Finish session stamp ∷ past)) end.sink.taken
ends_stream entries_finish events info past session stamp tables end h ends is =
    let here = placed events info (step.Finish session stamp) past tables session ends.place ends.was h ends.stands in
    let rest : Rest = rest_of ends.was.session in
    let front = entries events session past in
    let lines = last_entries stamp front rest in
    let Grows : ℕ → Type 0 = λ n. with_section rest.config.rundown (entries events n (step.Finish n stamp ∷ past)) ≡ entries events n past ++ last_entries stamp (entries events n past) rest in
    let grows = subst Grows here.id (entries_finish events past rest stamp here.stands.rest) in
    let config : config_of session past ≡ Some rest.config = ap (λ (n : ℕ). config_of n past) (sym here.id) ∙ here.stands.rest.config in
    let all : told_entries events session (step.Finish session stamp ∷ past) ≡ front ++ lines =
    ap (λ (rundown : Bool). with_section rundown (entries events session (step.Finish session stamp ∷ past))) (asked session past rest config) ∙ grows in
    let Ending : List EventDef → Type 0 = λ es. Ended (λ (s : SinkState). true) (λ (s : SinkState). s.taken) (λ (s : SinkState). s.faults) es stamp ProgramEnd ends.was.session end.fate end.sink in
    let ended = subst Ending h.follow.events_are ends.ended in
    let told = ended.stream [] info front here.stands.telling in
    let took : TookStream (λ (s : SinkState). true) (λ (s : SinkState). s.taken) [] info (front ++ lines) end.sink =
    of_end ended.answer (TookStream (λ (s : SinkState). true) (λ (s : SinkState). s.taken) [] info (front ++ lines) end.sink) (sym ended.fate_is ∙ is) told.whole in
    let stream = took refl in
    let Told : List Entry → Type 0 = λ es. IsCanonical info es end.sink.taken in
    subst Told (sym all) (subst (IsCanonical info (front ++ lines)) (sym stream.2) stream.1)
