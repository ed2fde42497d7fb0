use Rattle.std.proofs.Common.{◌≡◌, Bool, true, List, length, set, slice_get, ap, sym, ◌∙◌}
use Rattle.ep_journal.specs.declared.decision.Decision.{Decision}
use Rattle.ep_journal.specs.declared.decision.Decision.TheVariants as decision
use Rattle.ep_journal.specs.declared.session.Opened.TheVariants as opened
use Rattle.ep_journal.specs.Items.{with_item}
use Rattle.ep_registry.specs.declared.hold.Hold.{Hold}
use Rattle.ep_journal.specs.Recorded.{Recorded, is_serving}
use Rattle.ep_registry.proofs.Tied.{holder-known, book-is}
use Rattle.ep_registry.proofs.Decides.{half-is}
use Rattle.ep_registry.proofs.Calls.{failed-tied}
use Rattle.ep_registry.proofs.Slots.{hold-held, failed-free}
use Rattle.ep_registry.proofs.Things.{failed-over}
use Rattle.ep_registry.proofs.registry.Registry.fail.Goals as goal

pub put-requires-clause-held : goal.put-requires-clause-held
put-requires-clause-held g c =
    let hold = c.hold-hold.result in
    let same = c.hold-hold.ensures.value ∙ c.meet-2.ensures.same.0 in
    let known = holder-known _ _ c.args.holder hold c.self.invariant.tied.holds same c.hold-hold.ensures.known c.meet-2.ensures.equal in
    ap (λ (bs : List Bool). slice_get bs hold.slot) c.self.invariant.free ∙ hold-held c.self.inside.journal hold c.fail.ensures.kept known c.hold-hold.ensures.on

pub invariant_of-self : goal.invariant_of-self
invariant_of-self g c =
    let hold = c.hold-hold.result in
    let same = c.hold-hold.ensures.value ∙ c.meet-2.ensures.same.0 in
    let known = holder-known _ _ c.args.holder hold c.self.invariant.tied.holds same c.hold-hold.ensures.known c.meet-2.ensures.equal in
    let serves : is_serving hold.stage ≡ true = ap (λ (k : Hold). is_serving k.stage) same ∙ c.requires.serves in
    let fresh : hold.opened ≡ opened.No = ap (λ (k : Hold). k.opened) same ∙ c.requires.unopened in
    record {
      tied = rw (c.tell.ensures.book, c.decisions.ensures, c.fail.ensures.after, c.close.ensures, c.meet.ensures.same.1, c.meet-2.ensures.same.1)
          (failed-tied _ hold c.self.invariant.tied c.hold-hold.ensures.known.1 known serves fresh);
      free = rw c.fail.ensures.after (c.put.ensures ∙ ap (λ (bs : List Bool). set bs hold.slot true) c.self.invariant.free ∙ sym (failed-free c.self.inside.journal hold known));
      over = rw c.fail.ensures.after (failed-over c.self.inside.kept.overs c.self.inside.journal hold c.self.invariant.over known c.hold-hold.ensures.on);
      gone = rw c.fail.ensures.after c.self.invariant.gone;
    }

pub returns-clause-half : goal.returns-clause-half
returns-clause-half g c =
    let told = book-is c.self.inside.halves.book c.args.server.now.decisions c.self.inside.journal.decisions c.self.invariant.tied.book c.meet.ensures.equal in
    half-is c.args.server.now c.meet.new.self c.tell.new.self c.decisions.result.now (with_item c.args.server.now.decisions (length c.args.server.now.decisions) decision.Nothing) c.tell.ensures.value c.meet.ensures.same.0
    (c.decisions.ensures ∙ ap (λ (r : Recorded). r.decisions) c.fail.ensures.after ∙ ap (λ (ds : List Decision). with_item ds (length ds) decision.Nothing) (sym told))
