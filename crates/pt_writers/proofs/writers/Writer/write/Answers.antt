use Rattle.std.proofs.Common.{◌≡◌, ◌∙◌, ℕ, ◌+◌, ◌<◌, sym, ap, subst, arith}
use Rattle.ep_guarded.specs.Tied.{stand_in}
use Rattle.pt_load.specs.Sample.{nth, event_at}
use Rattle.pt_load.specs.Shape.{Drafted}
use Rattle.pt_load.specs.declared.plan.Plan.{Plan}
use Rattle.pt_writers.specs.state.Writers.{WriterState}
use Rattle.pt_writers.proofs.Load.{next-event, next-write}
use Rattle.pt_writers.proofs.writers.Writer.write.Goals as goal

pub pass_over-turn-requires-clause-next : goal.pass_over-turn-requires-clause-next
pass_over-turn-requires-clause-next g c κs within =
    let around = c.args.around.now in
    let stands = ap (λ (w : WriterState). stand_in w.half.value) c.self.view_is ∙ c.requires.ready.stands in
    let few : c.args.index < around.plan.now.writes = omega (arith, c.requires.index, ap (λ (p : Plan). p.writes) around.plan_is) in
    next-event around.plan.now g.P.Program.writes (c.args.number + 1) c.args.index c.self.inside.half.value c.event_at-event.result (around.is_run.writes_are (c.args.number + 1)) few stands c.event_at-event.ensures

pub write-requires-clause-write : goal.write-requires-clause-write
write-requires-clause-write g c κs within =
    let around = c.args.around.now in
    let stands = ap stand_in (ap (λ v. v.value) c.in-Some.ensures.stays) ∙ ap (λ (w : WriterState). stand_in w.half.value) c.self.view_is ∙ c.requires.ready.stands in
    let few : c.args.index < around.plan.now.writes = omega (arith, c.requires.index, ap (λ (p : Plan). p.writes) around.plan_is) in
    let drafted = ap (λ (w : WriterState). w.draft) c.self.view_is ∙ c.requires.ready.drafted ∙ ap (λ (p : Plan). drafted_at p (c.args.number + 1)) (sym around.plan_is) in
    let write = c.nth.ensures.write ∙ ap (λ (d : Drafted). nth d.plan d.thread c.args.index) drafted in
    next-write around.plan.now g.P.Program.events g.P.Program.writes (c.args.number + 1) c.args.index _ _ around.is_run.events_are (around.is_run.writes_are (c.args.number + 1)) around.is_run.few_writes few stands write
    (c.sample_writes_can_be_made.ensures.defined around.plan.now (c.args.number + 1) c.args.index) (c.sample_writes_can_be_made.ensures.fits around.plan.now (c.args.number + 1) c.args.index)
  where
    drafted_at : Plan → ℕ → Drafted
    drafted_at plan thread = record { plan = plan; thread = thread }
