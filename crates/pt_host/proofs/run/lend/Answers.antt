use Rattle.pt_host.proofs.run.lend.Goals as goal

pub returns-clause-halves : goal.returns-clause-halves
returns-clause-halves g c = c.lend-halves.ensures.halves 0 c.requires
