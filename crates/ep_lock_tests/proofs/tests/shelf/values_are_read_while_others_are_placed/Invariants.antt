use Rattle.ep_lock_tests.proofs.tests.shelf.values_are_read_while_others_are_placed.Given as goal

-- the shelf that was just made
abbrev pub ghosts-read_while_placed : goal.ghosts-read_while_placed
ghosts-read_while_placed g a = record { shelf = a.shelf }
