use Rattle.std.proofs.Common.{rules}
use Rattle.ep_tie.proofs.Seatings.{parts_with}
use Rattle.ep_tie.proofs.maker.Ties.part_as.Goals as goal

pub split_seat-requires : goal.split_seat-requires
split_seat-requires g c = (search rules, search rules, λ s kept at. parts_with s.views _ _ _ _ c.requires.own.2 c.requires.brought kept at)
