use Rattle.ep_registry_tests.proofs.tests.registry.history.Given as goal

-- the sets of ties that were just made
abbrev pub ghosts-whole-B-Named : goal.ghosts-whole-B-Named
ghosts-whole-B-Named g a = record { ties = a.sets.book.ties }

abbrev pub ghosts-whole-S-Named : goal.ghosts-whole-S-Named
ghosts-whole-S-Named g a = record { ties = a.sets.holds.ties }

abbrev pub ghosts-whole-R-Named : goal.ghosts-whole-R-Named
ghosts-whole-R-Named g a = record { ties = a.sets.marks.ties }
