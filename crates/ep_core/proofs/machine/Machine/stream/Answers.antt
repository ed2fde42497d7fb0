use Rattle.std.proofs.Common.{List, ℕ, IsTrue, sym, subst}
use Rattle.ep_defs.specs.declared.event.EventDef.{EventDef}
use Rattle.ep_defs.specs.Entry.{Entry}
use Rattle.ep_rundown.specs.Rundown.{lacks_rundown}
use Rattle.ep_model.specs.Only.{only}
use Rattle.ep_model.specs.Entries.{entries}
use Rattle.ep_model.specs.Faithful.{shares_of}
use Rattle.nt_write.specs.Canonical.{IsCanonical}
use Rattle.ep_told.specs.Told.{has_rundown, told_entries}
use Rattle.ep_core.specs.Streams.{IsStreamOf}
use Rattle.ep_core.proofs.Ending.{stream_of, ended_at}
use Rattle.ep_core.proofs.machine.Machine.stream.Goals as goal

pub returns-clause-some : goal.returns-clause-some
returns-clause-some c events info past follows =
    let session = c.args.session in
    let h = ended_at events info session past _ c.in_ok-ended.ended.now (follows.ended session) (sym c.in_ok-ended.ensures.value) in
    let works = follows.works in
    let faithful = c.finished_sessions_are_faithful.ensures.faithful events session past works.lawful h.finished in
    let known = subst (λ (es : List EventDef). IsTrue (lacks_rundown es)) works.follow.events_are works.tied.can_be_told.lacks in
    let own = c.the_program_has_no_thread_0.ensures.entries events session past works.lawful h.finished known in
    let bytes = c.in_ok-ended.ended.now.sink.taken in
    let told = told_entries events session past in
    let law = c.a_faithful_stream_is_found.ensures in
    let stream = stream_of events info session past bytes h.canonical
    (law.found info told bytes h.canonical) (law.ordered info told bytes h.canonical)
    (c.a_stream_with_a_rundown_is_faithful.ensures (has_rundown session past) info (shares_of events session past) (entries events session past) bytes faithful own h.canonical) in
    let Is : List ℕ → Type 0 = λ bs. IsStreamOf events info session past bs in
    (h.finished, subst Is (sym c.taken.ensures) stream)

pub returns-clause-alone : goal.returns-clause-alone
returns-clause-alone c events info past follows =
    let session = c.args.session in
    let h = ended_at events info session past _ c.in_ok-ended.ended.now (follows.ended session) (sym c.in_ok-ended.ensures.value) in
    let own = c.what_is_told_is_a_session_s_own.ensures events session past follows.works.lawful in
    let Is : List ℕ → Type 0 = λ bs. IsCanonical info (told_entries events session (only session past)) bs in
    subst Is (sym c.taken.ensures) (subst (λ (es : List Entry). IsCanonical info es c.in_ok-ended.ended.now.sink.taken) (sym own) h.canonical)
