use Rattle.ep_lock_tests.proofs.tests.ties.halves_agree_after_four_threads.Given as goal

-- the set that was just made
abbrev pub ghosts-raised_by_four : goal.ghosts-raised_by_four
ghosts-raised_by_four g a = record { ties = a.blank.ties }
