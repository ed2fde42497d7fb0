use Rattle.ep_told.proofs.Program.{told-only}
use Rattle.ep_told.proofs.laws.what_is_told_is_a_session_s_own.Goals as goal

pub returns : goal.returns
returns c = λ events session past lawful. told-only events session past (c.other_sessions_steps_do_not_matter.ensures.same_entries events session past lawful)
