use Rattle.std.proofs.Common.{◌≡◌, ◌+◌, [], ◌∷◌, subst}
use Rattle.std.specs.Prelude.{IfNone}
use Rattle.crossbeam_queue.specs.Passes.{view}
use Rattle.ep_pool.specs.Deals.{took, KnowsFree}
use Rattle.ep_pool.specs.Shared.{SeatState}
use Rattle.ep_pool.proofs.Dealings.{takes, learns, none_counted}
use Rattle.ep_pool.proofs.pool.Pool.take.Goals as goal

pub pop_as-got-requires-clause-rule : goal.pop_as-got-requires-clause-rule
pop_as-got-requires-clause-rule g c = (takes _ _ c.seat.invariant.1, learns _ _ c.seat.invariant.1)

pub returns-in-None-clause-all : goal.returns-in-None-clause-all
returns-in-None-clause-all g c =
    subst (λ (s : SeatState). s.share ≡ s.seats → IfNone c.pop_as-got.result (s.taken ≡ s.total + s.given)) c.seat.view_is
    (none_counted (view c.seat.inside.pass) c.pop_as-got.result (view c.pop_as-got.new.pass ≡ view c.seat.inside.pass)
    (λ chain. (chain ≡ [] ∷ []) × (view c.pop_as-got.new.pass ≡ took (view c.seat.inside.pass)) × KnowsFree (view c.seat.inside.pass))
    c.pop_as-got.ensures.rule)
