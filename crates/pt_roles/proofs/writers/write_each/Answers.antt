use Rattle.std.proofs.Common.{◌-◌, ◌<◌, length, refl, subst, arith, rules, of_calls}
use Rattle.std.proofs.lemmas.Option.{slice_get_read}
use Rattle.pt_roles.specs.Writers.{StandsAt}
use Rattle.pt_writers.proofs.Lists.{each-within}
use Rattle.pt_roles.proofs.writers.write_each.Goals as goal

pub for_each_mut-requires-clause-accepts : goal.for_each_mut-requires-clause-accepts
for_each_mut-requires-clause-accepts g c κs within i p small is =
    let plan = g.P.World.world.plan in
    let lives = g.P.World.world.options.lives in
    let row : i < g.P.Program.rows = omega (arith, small, c.requires.rows) in
    let here : StandsAt plan lives i 0 0 0 p.now = c.requires.ready i p.now (slice_get_read c.args.writers.now (length c.args.writers.now) i p.now refl small is) in
    search (rules, row, here)

pub returns : goal.returns
returns g c =
    let plan = g.P.World.world.plan in
    let lives = g.P.World.world.options.lives in
    each-within (λ k w. StandsAt plan lives k (lives - 1) plan.writes lives w) c.for_each_mut.new.s
    (λ k d small.
    let changed = (c.for_each_mut.ensures k d (omega arith)).1 in
    subst (StandsAt plan lives k (lives - 1) plan.writes lives) changed.left (first_of (search (rules, changed.call), search (of_calls, changed.call), grind (arith, changed.call))))
