use Rattle.std.proofs.Common.{◌≡◌, ◌∙◌, ℕ, List, length, sym, ap, subst}
use Rattle.ep_defs.specs.declared.session.Write.{Write}
use Rattle.ep_guarded.specs.declared.agreed.Stand.{Stand}
use Rattle.ep_guarded.specs.Tied.{stand_in, thread_of}
use Rattle.ep_live.proofs.Pushing.{same}
use Rattle.pt_roles.specs.Writers.{WriterState}
use Rattle.pt_writers.proofs.Load.{count-writes}
use Rattle.pt_roles.proofs.writers.Writer.leave.Goals as goal

pub leave-requires-clause-all : goal.leave-requires-clause-all
leave-requires-clause-all g c x is =
    let plan = g.P.World.world.plan in
    let thread = thread_of plan.threads c.args.number c.args.life in
    let seen = ap (λ (w : WriterState). stand_in w.half.value) c.self.view_is in
    let stand = same _ x (sym c.requires.ready.stands ∙ sym seen ∙ is) in
    let all = ap (λ (w : ℕ → List Write). length (w thread)) c.args.scene.now.is_world.writes_are ∙ count-writes plan thread in
    subst (λ (s : Stand). s.index ≡ length (g.P.Program.writes s.thread)) stand (sym all)
