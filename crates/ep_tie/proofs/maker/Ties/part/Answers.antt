use Rattle.std.proofs.Common.{rules}
use Rattle.ep_tie.proofs.Seatings.{parts}
use Rattle.ep_tie.proofs.maker.Ties.part.Goals as goal

pub split_seat-requires : goal.split_seat-requires
split_seat-requires g c = (search rules, search rules, λ s kept at. parts s.views _ _ c.requires.own.2 kept at)
