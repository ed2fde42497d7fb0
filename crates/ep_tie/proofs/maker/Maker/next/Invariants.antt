use Rattle.std.proofs.Common.{Some}
use Rattle.ep_tie.proofs.maker.Maker.next.Given as goal

abbrev pub ghosts-make : goal.ghosts-make
ghosts-make g a = record { value = Some a.value.now }
