use Rattle.std.specs.Prelude.{replicate}
use Rattle.ep_live_tests.proofs.tests.plays.told_on.Given as goal

-- the ties that were just made, and a run in which each thread makes the write so often
abbrev pub ghosts-run-P-Named : goal.ghosts-run-P-Named
ghosts-run-P-Named g a = record { ties = a.blank.ties }

abbrev pub ghosts-run-P-Program : goal.ghosts-run-P-Program
ghosts-run-P-Program g a = record { rows = 2; events = a.events.items; writes = λ _. replicate a.turns a.write }
