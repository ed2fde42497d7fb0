use Rattle.std.proofs.Common.{◌≡◌, ◌+◌, ◌-◌, ◌<◌, Bool, false, None, List, length, set, ap, sym, ◌∙◌, subst, slice_get}
use Rattle.ep_journal.specs.declared.limits.TheConstants.{CONNECTIONS}
use Rattle.ep_journal.specs.declared.decision.Decision.{Decision}
use Rattle.ep_registry.specs.declared.hold.Hold.{Hold}
use Rattle.ep_registry.specs.Places.{numbered}
use Rattle.ep_registry.proofs.Tied.{book-is}
use Rattle.ep_registry.proofs.Calls.{seated, next-id, seat-within}
use Rattle.ep_registry.proofs.Leaves.{unclosed-by}
use Rattle.ep_registry.proofs.Slots.{seat-free, accepted-free}
use Rattle.ep_registry.proofs.Things.{accepted-over, accepted-ended}
use Rattle.ep_registry.proofs.registry.Registry.accept.Goals as goal

pub take-free-requires : goal.take-free-requires
take-free-requires g c =
    let answer = sym c.accept-answer.ensures.answer ∙ c.in-Seat.is in
    ap (λ (bs : List Bool). slice_get bs c.in-Seat.slot) c.self.invariant.free ∙ seat-free c.self.inside.journal c.in-Seat.slot c.in-Seat.id answer

pub hand_out-holder-requires-clause-slot : goal.hand_out-holder-requires-clause-slot
hand_out-holder-requires-clause-slot g c =
    let answer = sym c.accept-answer.ensures.answer ∙ c.in-Seat.is in
    rw c.begun-hold.ensures (seat-within c.self.inside.journal c.in-Seat.slot c.in-Seat.id c.decided-conn.ensures.kept answer)

pub invariant_of-self : goal.invariant_of-self
invariant_of-self g c =
    let answer = sym c.accept-answer.ensures.answer ∙ c.in-Seat.is in
    let kept = c.decided-conn.ensures.kept in
    let id = next-id c.self.inside.journal c.in-Seat.slot c.in-Seat.id kept answer in
    let told = book-is c.self.inside.halves.book c.args.server.now.decisions c.self.inside.journal.decisions c.self.invariant.tied.book c.meet.ensures.equal in
    let room : length c.self.inside.journal.decisions < CONNECTIONS = subst (λ (l : List Decision). length l < CONNECTIONS) told c.requires.room in
    let unclosed =
    unclosed-by c.self.inside.halves.marks c.meet.new.self c.args.server.now c.self.inside.early c.self.inside.late c.self.inside.closed c.meet_mark.ensures.equal c.self.invariant.tied.server c.meet.ensures.same.0 c.requires.open in
    let number = ap (λ (k : Hold). k.id) c.begun-hold.ensures ∙ id in
    let spare : c.hand_out-holder.new.spare.items ≡ numbered (CONNECTIONS - (length c.self.inside.journal.sessions + 1)) None =
    c.hand_out-holder.ensures.spare ∙ ap (λ n. numbered (CONNECTIONS - n) None) number in
    record {
      tied = rw (c.tell.ensures.book, c.decisions.ensures, c.accept-answer.ensures.after, c.hand_out-holder.ensures.holds, c.begun-hold.ensures, c.decided-conn.ensures.value, c.meet.ensures.same.1, c.meet_mark.ensures.same.1)
          (seated _ c.in-Seat.slot c.in-Seat.id c.hand_out-holder.new.spare.items c.self.invariant.tied kept room unclosed answer spare);
      free = rw c.accept-answer.ensures.after
          (c.take-free.ensures.after ∙ ap (λ (bs : List Bool). set bs c.in-Seat.slot false) c.self.invariant.free ∙ sym (accepted-free c.self.inside.journal c.in-Seat.slot c.in-Seat.id answer));
      over = rw c.accept-answer.ensures.after (accepted-over c.self.inside.kept.overs c.self.inside.journal c.self.invariant.over);
      gone = rw c.accept-answer.ensures.after (accepted-ended c.self.inside.journal ∙ c.self.invariant.gone);
    }
