use Rattle.std.proofs.Common.{rules}
use Rattle.ep_tie.proofs.Seatings.{joins, looks}
use Rattle.ep_tie.proofs.maker.Ties.join.Goals as goal

pub join_seat-requires : goal.join_seat-requires
join_seat-requires g c = (
  search rules,
  search rules,
  search rules,
  search rules,
  λ s kept at apart there. joins s.views _ _ _ _ c.requires.halves kept at apart there,
)

pub load-requires : goal.load-requires
load-requires g c = (search rules, search rules, looks _ _ _ _)
