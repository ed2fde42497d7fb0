use Rattle.std.proofs.Common.{rules}
use Rattle.ep_tie.proofs.Seatings.{makes}
use Rattle.ep_tie.proofs.maker.Ties.make.Goals as goal

pub split_seat-requires : goal.split_seat-requires
split_seat-requires g c = (search rules, search rules, λ s kept at. makes s.views _ _ _ _ c.requires.own.2 c.requires.brought kept at)
