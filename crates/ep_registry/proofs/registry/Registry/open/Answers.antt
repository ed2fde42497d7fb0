use Rattle.std.proofs.Common.{◌≡◌, ◌≤◌, true, not, ap, ◌∙◌, arith}
use Rattle.ep_journal.specs.declared.limits.TheConstants.{CONNECTIONS}
use Rattle.ep_journal.specs.declared.session.Opened.TheVariants as opened
use Rattle.ep_registry.specs.declared.hold.Hold.{Hold}
use Rattle.ep_journal.specs.Recorded.{is_serving}
use Rattle.ep_registry.specs.Registered.{counted_if}
use Rattle.ep_registry.proofs.Tied.{holder-known}
use Rattle.ep_registry.proofs.Calls.{opened-tied, counted-small}
use Rattle.ep_registry.proofs.Leaves.{early-small, late-small}
use Rattle.ep_registry.proofs.Things.{opened-over}
use Rattle.ep_registry.proofs.registry.Registry.open.Goals as goal

pub overflow_add-self : goal.overflow_add-self
overflow_add-self g c =
    let small : c.self.inside.early ≤ CONNECTIONS = early-small _ c.self.invariant.tied in
    let one : counted_if c.args.early ≤ 1 = counted-small c.args.early in
    omega (arith, small, one, c.counted_if.ensures)

pub overflow_add-self-2 : goal.overflow_add-self-2
overflow_add-self-2 g c =
    let small : c.self.inside.late ≤ CONNECTIONS = late-small _ c.self.invariant.tied in
    let one : counted_if (not c.args.early) ≤ 1 = counted-small (not c.args.early) in
    omega (arith, small, one, c.counted_if-2.ensures)

pub invariant_of-self : goal.invariant_of-self
invariant_of-self g c =
    let hold = c.hold-hold.result in
    let same = c.hold-hold.ensures.value ∙ c.meet.ensures.same.0 in
    let known = holder-known _ _ c.args.holder.now hold c.self.invariant.tied.holds same c.hold-hold.ensures.known c.meet.ensures.equal in
    let serves : is_serving hold.stage ≡ true = ap (λ (k : Hold). is_serving k.stage) same ∙ c.requires.serves in
    let fresh : hold.opened ≡ opened.No = ap (λ (k : Hold). k.opened) same ∙ c.requires.unopened in
    record {
      tied = rw (c.open.ensures, c.put.ensures.holds, c.put_mark.ensures.marks, c.meet.ensures.same.1, c.meet_mark.ensures.same.1, c.counted_if.ensures, c.counted_if-2.ensures, c.opened_at-opened.ensures)
          (opened-tied _ hold c.args.early c.self.invariant.tied c.hold-hold.ensures.known.1 known serves fresh);
      free = rw c.open.ensures c.self.invariant.free;
      over = rw c.open.ensures (opened-over c.self.inside.kept.overs c.self.inside.journal hold c.args.early c.self.invariant.over known c.hold-hold.ensures.on);
      gone = rw c.open.ensures c.self.invariant.gone;
    }
