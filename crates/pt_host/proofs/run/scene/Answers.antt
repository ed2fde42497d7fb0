use Rattle.std.proofs.Common.{◌≡◌, ◌∙◌, ℕ, List, length, sym, ap, subst, arith}
use Rattle.ep_defs.specs.declared.session.Write.{Write}
use Rattle.pt_load.specs.declared.plan.Plan.{Plan}
use Rattle.pt_stream.specs.Setting.{Setting}
use Rattle.pt_stream.specs.State.{AreEvents}
use Rattle.pt_roles.specs.declared.options.LiveOptions.{LiveOptions}
use Rattle.pt_writers.proofs.Load.{count-writes}
use Rattle.pt_host.proofs.run.scene.Goals as goal

pub invariant_of-result : goal.invariant_of-result
invariant_of-result g c =
    let w = c.requires.world in
    let lives : c.args.parts.now.options.lives ≡ g.W.World.world.options.lives = ap (λ (o : LiveOptions). o.lives) c.requires.plan.1 in
    let set : g.W.Run.setting.lives ≡ g.W.World.world.options.lives = ap (λ (s : Setting). s.lives) w.setting_is in
    let threads : c.args.parts.now.plan.now.threads ≡ g.W.World.world.plan.threads = ap (λ (p : Plan). p.threads) c.requires.plan.0 in
    let writes : c.args.parts.now.plan.now.writes ≡ g.W.World.world.plan.writes = ap (λ (p : Plan). p.writes) c.requires.plan.0 in
    let valid = c.sample_events_are_valid.ensures in
    record {
      is_world = w;
      plan_is = c.requires.plan.0;
      facts_are = c.requires.facts;
      lives_are = (lives, lives ∙ sym set, omega (arith, lives, w.options.few_lives));
      rows_are = threads ∙ sym w.rows_are;
      few_rows = omega (arith, w.rows_are, w.few);
      writes_are = λ thread. ap (λ (ws : ℕ → List Write). length (ws thread)) w.writes_are ∙ count-writes g.W.World.world.plan thread ∙ sym writes;
      events_are = subst AreEvents (sym w.events_are) (record { few = valid.few; valid = valid.valid; distinct = valid.distinct; lacks = valid.lacks });
    }
