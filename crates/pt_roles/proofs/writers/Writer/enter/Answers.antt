use Rattle.std.proofs.Common.{◌≡◌, ◌∙◌, ℕ, ◌+◌, ◌^◌, ◌<◌, Some, sym, ap, subst, arith}
use Rattle.std.specs.Prelude.{option_map}
use Rattle.ep_guarded.specs.declared.agreed.Stand.{Stand}
use Rattle.ep_guarded.specs.Tied.{left_in, next_stand, thread_of}
use Rattle.ep_guarded.proofs.Lives.{next-life}
use Rattle.ep_live.proofs.Pushing.{same}
use Rattle.pt_roles.specs.Writers.{WriterState}
use Rattle.pt_roles.proofs.Lives.{few-threads}
use Rattle.pt_roles.proofs.writers.Writer.enter.Goals as goal

pub enter-requires-clause-few : goal.enter-requires-clause-few
enter-requires-clause-few g c x is =
    let plan = g.P.World.world.plan in
    let number = c.args.number in
    let life = c.args.life in
    let rows = c.args.scene.now.is_world.rows_are in
    let seen = ap (λ (w : WriterState). left_in w.half.value) c.self.view_is in
    let left : left_in c.loop.self-inside.half.value ≡ Some (record { thread = thread_of plan.threads number life; index = plan.writes }) =
    rw c.loop.invariant (seen ∙ c.requires.left.left)
    in
    let within : number < plan.threads = omega (arith, c.requires.row, rows) in
    let short : life < 100 = omega (arith, c.requires.life, c.args.scene.now.is_world.options.few_lives) in
    subst
    (λ (s : Stand). s.thread + g.P.Program.rows < 2 ^ 32)
    (same _ x (sym left ∙ is))
    (subst (λ (r : ℕ). thread_of plan.threads number life + r < 2 ^ 32) (sym rows) (few-threads plan.threads number life within c.args.scene.now.is_world.few short))

pub returns-then-enter-clause-at : goal.returns-then-enter-clause-at
returns-then-enter-clause-at g c =
    let plan = g.P.World.world.plan in
    let number = c.args.number in
    let life = c.args.life in
    let rows = c.args.scene.now.is_world.rows_are in
    let left : left_in c.loop.self-inside.half.value ≡ Some (record { thread = thread_of plan.threads number life; index = plan.writes }) =
    rw c.loop.invariant (ap (λ (w : WriterState). left_in w.half.value) c.self.view_is ∙ c.requires.left.left)
    in
    let place : c.loop.self-inside.half.place ≡ number = rw c.loop.invariant (ap (λ (w : WriterState). w.half.place) c.self.view_is ∙ c.requires.left.place) in
    let thread = ap (λ (r : ℕ). thread_of plan.threads number life + r) rows ∙ next-life plan.threads number life in
    record {
      place = c.enter.ensures.place ∙ place;
      stands = c.enter.ensures.entered c.if-enter.true
          ∙ ap (option_map (next_stand g.P.Program.rows)) left
          ∙ ap (λ (t : ℕ). Some (record { thread = t; index = 0 })) thread;
    }
