use Rattle.std.proofs.Common.{◌≡◌, ◌∙◌, ap, sym, subst, arith}
use Rattle.pt_load.specs.declared.plan.Plan.{Plan}
use Rattle.pt_roles.specs.declared.options.LiveOptions.{LiveOptions}
use Rattle.pt_roles.specs.Writers.{AreRowDrafts}
use Rattle.pt_host.proofs.run.groups_of.Goals as goal

pub invariant_of-kit : goal.invariant_of-kit
invariant_of-kit g c =
    let w = c.requires.world in
    let threads : c.args.parts.now.plan.now.threads ≡ g.W.World.world.plan.threads = ap (λ (p : Plan). p.threads) c.requires.plan.0 in
    let drafts = c.in_ok-drafts_of.field-0 in
    record {
      count = c.in_ok-drafts_of.ensures.count ∙ threads ∙ sym w.rows_are;
      drafts_are = subst (λ (p : Plan). AreRowDrafts p g.W.World.world.options.lives drafts.items) c.requires.plan.0
          (subst (λ (o : LiveOptions). AreRowDrafts c.args.parts.now.plan.now o.lives drafts.items) c.requires.plan.1 c.in_ok-drafts_of.ensures.drafts);
      none = (c.in_ok-with_capacity-2.ensures.items, c.in_ok-with_capacity-3.ensures.items, c.in_ok-with_capacity-4.ensures.items);
      writer_room = omega (arith, c.in_ok-with_capacity-2.ensures.capacity, threads, w.rows_are);
      row_room = omega (arith, c.in_ok-with_capacity-3.ensures.capacity, threads, w.rows_are);
      half_room = omega (arith, c.in_ok-with_capacity-4.ensures.capacity, threads, w.rows_are);
    }
