use Rattle.std.proofs.Common.{Some}
use Rattle.ep_tie.proofs.maker.Ties.part_with.Given as goal

abbrev pub ghosts-part_as : goal.ghosts-part_as
ghosts-part_as g a = record { value = Some a.value.now }
