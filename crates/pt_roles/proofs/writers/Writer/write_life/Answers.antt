use Rattle.std.proofs.Common.{◌≡◌, ◌∙◌, ℕ, ◌+◌, ◌-◌, ◌<◌, sym, ap, subst, arith}
use Rattle.pt_load.specs.Shape.{Drafted}
use Rattle.pt_load.specs.declared.plan.Plan.{Plan}
use Rattle.pt_roles.specs.Writers.{IsAt, WriterState, drafted, drafts_from}
use Rattle.pt_roles.proofs.Lives.{drafts-next, drafts-some, snoc-same}
use Rattle.pt_roles.proofs.writers.Writer.write_life.Goals as goal

pub next-draft-requires : goal.next-draft-requires
next-draft-requires g c =
    let plan = g.P.World.world.plan in
    λ none. drafts-some plan c.args.number g.P.World.world.options.lives c.args.life c.requires.life (sym c.requires.ready.drafts_are ∙ sym (ap (λ (w : WriterState). w.drafts) c.self.view_is) ∙ none)

pub write-requires-clause-index : goal.write-requires-clause-index
write-requires-clause-index g c = omega (arith, c.loop-index-test.true, ap (λ (p : Plan). p.writes) c.args.scene.now.plan_is)

pub loop-index-init : goal.loop-index-init
loop-index-init g c =
    let plan = g.P.World.world.plan in
    let lives = g.P.World.world.options.lives in
    let number = c.args.number in
    let life = c.args.life in
    let kept = ap (λ (w : WriterState). w.drafts) c.self.view_is ∙ c.requires.ready.drafts_are in
    let parts = snoc-same c.next-draft.new.self (drafts_from plan number (life + 1) (lives - (life + 1))) c.next-draft.result (drafted plan number life) (sym c.next-draft.ensures ∙ kept ∙ drafts-next plan number lives life c.requires.life) in
    record {
      at = subst (IsAt plan number life 0) (sym (ap (λ (w : WriterState). w.half) c.self.view_is)) c.requires.ready.at;
      drafts = parts.0;
      draft = parts.1;
    }
