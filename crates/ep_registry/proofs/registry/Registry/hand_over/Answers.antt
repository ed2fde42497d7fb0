use Rattle.std.proofs.Common.{◌≡◌, Some, Option, List, set, ap, sym, ◌∙◌}
use Rattle.ep_registry.specs.declared.hold.Hold.{Hold}
use Rattle.ep_registry.specs.Registered.{Registered}
use Rattle.ep_registry.proofs.Tied.{shown-known}
use Rattle.ep_registry.proofs.Things.{one-session, took-none, put-view}
use Rattle.ep_registry.proofs.registry.Registry.hand_over.Goals as goal

pub meet_both-requires-clause-same : goal.meet_both-requires-clause-same
meet_both-requires-clause-same g c =
    let a = c.open-other.result.0 in
    let b = c.open-holder.result.0 in
    let known-a = shown-known _ _ a c.self.invariant.tied.holds c.meet.ensures.known.0 c.meet.ensures.known.1 c.meet.ensures.equal in
    let known-b = shown-known _ _ b c.self.invariant.tied.holds c.meet-in-Some.ensures.known.0 c.meet-in-Some.ensures.known.1 (rw (← c.meet.ensures.same.1) c.meet-in-Some.ensures.equal) in
    let slot : a.slot ≡ b.slot =
    ap (λ (k : Hold). k.slot) c.open-other.ensures.0 ∙ c.in-Some.ensures.slot ∙ ap (λ (k : Hold). k.slot) (c.hold-slot.ensures.value ∙ sym c.open-holder.ensures.0) in
    let same : a.id ≡ b.id = one-session c.self.inside.journal a b c.decided-count.ensures.kept known-a known-b c.meet.ensures.on c.meet-in-Some.ensures.on slot in
    ap (λ (k : Hold). k.id) c.meet.ensures.same.0 ∙ same ∙ ap (λ (k : Hold). k.id) (sym c.meet-in-Some.ensures.same.0)

pub put-requires : goal.put-requires
put-requires g c =
    took-none c.self.inside.kept.waiting c.take.new.self c.hold-slot.result.slot c.args.handed.slot c.take.result c.take.ensures.value c.take.ensures.after
    (ap (λ (k : Hold). k.slot) (sym c.hold-slot.ensures.value))

pub returns-clause-after : goal.returns-clause-after
returns-clause-after g c =
    let r : Registered = record { recorded = c.self.inside.journal; closed = c.self.inside.closed; roles = c.self.inside.roles; waiting = c.self.inside.kept.waiting } in
    rw (← c.self.view_is)
    (put-view r c.hold-slot.result.slot c.args.handed.slot (Some c.args.handed) c.put.new.self (ap (λ (k : Hold). k.slot) (sym c.hold-slot.ensures.value))
    (c.put.ensures ∙ ap (λ (ws : List (Option Hold)). set ws c.args.handed.slot (Some c.args.handed)) c.take.ensures.after))
