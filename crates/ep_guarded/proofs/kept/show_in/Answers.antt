use Rattle.ep_guarded.proofs.kept.show_in.Goals as goal

pub show-requires-clause-due : goal.show-requires-clause-due
show-requires-clause-due g c = c.requires.due _ c.in-Some.is
