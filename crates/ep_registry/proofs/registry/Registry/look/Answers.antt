use Rattle.std.proofs.Common.{◌≡◌, ap, sym, ◌∙◌}
use Rattle.ep_registry.specs.declared.hold.Hold.{Hold}
use Rattle.ep_journal.specs.Recorded.{is_serving}
use Rattle.ep_registry.proofs.Tied.{holder-known}
use Rattle.ep_registry.proofs.Calls.{looked-tied}
use Rattle.ep_registry.proofs.Slots.{looked-free}
use Rattle.ep_registry.proofs.Things.{looked-over, looked-ended}
use Rattle.ep_registry.proofs.registry.Registry.look.Goals as goal

pub invariant_of-self : goal.invariant_of-self
invariant_of-self g c =
    let hold = c.hold-hold.result in
    let same : hold ≡ c.args.holder.now = c.hold-hold.ensures.value ∙ c.meet.ensures.same.0 in
    let known = holder-known _ _ c.args.holder.now hold c.self.invariant.tied.holds same c.hold-hold.ensures.known c.meet.ensures.equal in
    record {
      tied = rw (c.look-found.ensures.after, c.put.ensures.holds, c.meet.ensures.same.1, c.stage_found-stage.ensures, c.look-found.ensures.answer)
          (looked-tied _ hold c.self.invariant.tied c.hold-hold.ensures.known.0 c.hold-hold.ensures.known.1 known (ap (λ (k : Hold). is_serving k.stage) same ∙ c.requires.serves));
      free = rw c.look-found.ensures.after (c.self.invariant.free ∙ sym (looked-free c.self.inside.journal hold.id));
      over = rw c.look-found.ensures.after (looked-over c.self.inside.kept.overs c.self.inside.journal hold c.self.invariant.over known c.hold-hold.ensures.on);
      gone = rw c.look-found.ensures.after (looked-ended c.self.inside.journal hold.id ∙ c.self.invariant.gone);
    }
