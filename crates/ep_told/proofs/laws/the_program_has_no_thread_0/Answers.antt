use Rattle.ep_told.proofs.Program.{shares-not_0, entries-of_program}
use Rattle.ep_told.proofs.laws.the_program_has_no_thread_0.Goals as goal

pub returns : goal.returns
returns c =
    record {
      shares = shares-not_0;
      entries = λ events session past lawful finished lacks.
          entries-of_program events session past lawful (c.finished_sessions_are_faithful.ensures.faithful events session past lawful finished) lacks;
    }
