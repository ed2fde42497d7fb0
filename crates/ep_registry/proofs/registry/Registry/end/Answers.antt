use Rattle.std.proofs.Common.{◌≡◌, Bool, true, List, set, slice_get, ap, sym, ◌∙◌}
use Rattle.ep_registry.specs.declared.hold.Hold.{Hold}
use Rattle.ep_journal.specs.Recorded.{may_end}
use Rattle.ep_registry.proofs.Tied.{holder-known}
use Rattle.ep_registry.proofs.Calls.{ended-tied}
use Rattle.ep_registry.proofs.Slots.{hold-held, ended-free}
use Rattle.ep_registry.proofs.Things.{ended-over}
use Rattle.ep_registry.proofs.registry.Registry.end.Goals as goal

pub put-requires-clause-held : goal.put-requires-clause-held
put-requires-clause-held g c =
    let hold = c.hold-hold.result in
    let same = c.hold-hold.ensures.value ∙ c.meet.ensures.same.0 in
    let known = holder-known _ _ c.args.holder hold c.self.invariant.tied.holds same c.hold-hold.ensures.known c.meet.ensures.equal in
    ap (λ (bs : List Bool). slice_get bs hold.slot) c.self.invariant.free ∙ hold-held c.self.inside.journal hold c.end.ensures.kept known c.hold-hold.ensures.on

pub invariant_of-self : goal.invariant_of-self
invariant_of-self g c =
    let hold = c.hold-hold.result in
    let same = c.hold-hold.ensures.value ∙ c.meet.ensures.same.0 in
    let known = holder-known _ _ c.args.holder hold c.self.invariant.tied.holds same c.hold-hold.ensures.known c.meet.ensures.equal in
    let may : may_end c.args.fate hold.stage ≡ true = ap (λ (k : Hold). may_end c.args.fate k.stage) same ∙ c.requires.may in
    record {
      tied = rw (c.end.ensures.after, c.close.ensures, c.meet.ensures.same.1) (ended-tied _ hold c.args.fate c.self.invariant.tied c.hold-hold.ensures.known.1 known may);
      free = rw c.end.ensures.after (c.put.ensures ∙ ap (λ (bs : List Bool). set bs hold.slot true) c.self.invariant.free ∙ sym (ended-free c.self.inside.journal hold c.args.fate known));
      over = rw (c.end.ensures.after, c.put-2.ensures, c.new-finished.ensures)
          (ended-over c.self.inside.kept.overs c.self.inside.journal hold c.args.fate c.self.invariant.over c.hold-hold.ensures.known.0 c.hold-hold.ensures.known.1 known);
      gone = rw c.end.ensures.after c.self.invariant.gone;
    }
