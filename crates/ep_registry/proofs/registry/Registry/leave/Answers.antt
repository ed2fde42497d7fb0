use Rattle.std.proofs.Common.{◌≡◌, ◌<◌, Some, slice_get, count_by, subst, sym, ◌∙◌, arith}
use Rattle.ep_table.specs.declared.limits.TheConstants.{SLOTS}
use Rattle.ep_journal.specs.Kept.{is_of}
use Rattle.ep_registry.specs.Registered.{RoleHalf, mark_of_role}
use Rattle.ep_registry.proofs.Leaves.{role-known, left-tied, served-none}
use Rattle.ep_registry.proofs.registry.Registry.leave.Goals as goal

pub invariant_of-self : goal.invariant_of-self
invariant_of-self g c = record { tied = rw c.meet.ensures.same.1 c.self.invariant.tied; free = c.self.invariant.free; over = c.self.invariant.over; gone = c.self.invariant.gone }

pub invariant_of-self-2 : goal.invariant_of-self-2
invariant_of-self-2 g c =
    let r = c.meet.new.self in
    let shown = subst (λ (k : RoleHalf). slice_get c.self.inside.halves.marks k.number ≡ Some (Some (mark_of_role k))) (sym c.meet.ensures.same.0) c.meet.ensures.equal in
    let known = c.number.ensures.known in
    let l : r.number < SLOTS = omega (arith, c.number.ensures.value, known.0, known.1) in
    let m = role-known _ r.number r.roles r.left c.self.invariant.tied l shown in
    let z = c.if-serving-ne0.false in
    let zero : c.serving.result ≡ 0 = omega (arith, z) in
    let none : count_by (is_of c.self.inside.roles r.number) c.self.inside.journal.sessions ≡ 0 =
    served-none c.self.inside.journal.sessions c.roles.result c.number.result c.self.inside.roles r.number c.serving.result (c.roles.ensures ∙ m.0) c.number.ensures.value c.serving.ensures.value zero in
    record {
      tied = rw (c.leave.ensures.marks, c.meet.ensures.same.1) (left-tied _ r.number r.roles c.self.invariant.tied l m.0 c.if-not-self.false none);
      free = c.self.invariant.free;
      over = c.self.invariant.over;
      gone = c.self.invariant.gone;
    }
