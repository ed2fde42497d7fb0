use Rattle.ep_core_laws.proofs.Ends.{ends_marks, ends_stream}
use Rattle.ep_core_laws.proofs.Steps.{stands}
use Rattle.ep_core_laws.proofs.laws.a_session_ends_with_its_entries.Goals as goal

pub returns : goal.returns
returns c =
    record {
      marks = λ events info past session stamp end next. ends_marks c.the_last_marks_are_all.ensures events info past session stamp next.tables end (stands next.before) next.ended;
      stream = λ events info past session stamp end next. ends_stream c.a_finished_session_tells_its_last_entries.ensures events info past session stamp next.tables end (stands next.before) next.ended;
    }
