use Rattle.std.proofs.Common.{◌≡◌, ◌∙◌, ℕ, sym, ap}
use Rattle.ep_guarded.specs.Tied.{stand_in}
use Rattle.pt_load.specs.Sample.{nth, event_at}
use Rattle.pt_load.specs.Shape.{Drafted}
use Rattle.pt_load.specs.declared.plan.Plan.{Plan}
use Rattle.pt_roles.specs.Writers.{WriterState}
use Rattle.ep_defs.specs.declared.session.Write.{Write}
use Rattle.std.specs.Prelude.{List}
use Rattle.pt_writers.proofs.Load.{next-event, next-write}
use Rattle.pt_roles.proofs.writers.Writer.write.Goals as goal

pub pass_over-turn-requires-clause-next : goal.pass_over-turn-requires-clause-next
pass_over-turn-requires-clause-next g c κs within =
    let plan = g.P.World.world.plan in
    let world = c.args.scene.now.is_world in
    let stands = ap (λ (w : WriterState). stand_in w.half.value) c.self.view_is ∙ c.requires.stands in
    let event = c.event_at-event.ensures ∙ ap (λ (p : Plan). event_at p c.args.thread c.args.index) c.args.scene.now.plan_is in
    next-event plan g.P.Program.writes c.args.thread c.args.index c.self.inside.half.value c.event_at-event.result (ap (λ (w : ℕ → List Write). w c.args.thread) world.writes_are) c.requires.index stands event

pub write-requires-clause-write : goal.write-requires-clause-write
write-requires-clause-write g c κs within =
    let plan = g.P.World.world.plan in
    let world = c.args.scene.now.is_world in
    let stands = ap stand_in (ap (λ v. v.value) c.in-Some.ensures.stays) ∙ ap (λ (w : WriterState). stand_in w.half.value) c.self.view_is ∙ c.requires.stands in
    let write = c.nth.ensures.write ∙ ap (λ (d : Drafted). nth d.plan d.thread c.args.index) c.requires.draft in
    next-write plan g.P.Program.events g.P.Program.writes c.args.thread c.args.index _ _ world.events_are (ap (λ (w : ℕ → List Write). w c.args.thread) world.writes_are) world.few_writes c.requires.index stands write
    (c.sample_writes_can_be_made.ensures.defined plan c.args.thread c.args.index) (c.sample_writes_can_be_made.ensures.fits plan c.args.thread c.args.index)
