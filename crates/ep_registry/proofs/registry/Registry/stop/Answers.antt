use Rattle.std.proofs.Common.{[], ◌∷◌, ◌++◌, ap, sym, ◌∙◌}
use Rattle.ep_journal.specs.Recorded.{Recorded, answer_to}
use Rattle.ep_registry.specs.Held.{stop_decides}
use Rattle.ep_registry.proofs.Tied.{book-is}
use Rattle.ep_registry.proofs.Calls.{stopped-told}
use Rattle.ep_registry.proofs.Decides.{half-is, decided-as, stopped-decides}
use Rattle.ep_registry.proofs.Slots.{stopping-free}
use Rattle.ep_registry.proofs.Things.{stopped-over, stopped-ended}
use Rattle.ep_registry.proofs.registry.Registry.stop.Goals as goal

pub invariant_of-self : goal.invariant_of-self
invariant_of-self g c =
    record {
      tied = rw (c.tell.ensures.book, c.decisions.ensures, c.stop-answer.ensures.after, c.meet.ensures.same.1) (stopped-told _ c.args.id c.self.invariant.tied);
      free = rw c.stop-answer.ensures.after (c.self.invariant.free ∙ sym (stopping-free c.self.inside.journal c.args.id));
      over = rw c.stop-answer.ensures.after (stopped-over c.self.inside.kept.overs c.self.inside.journal c.args.id c.self.invariant.over);
      gone = rw c.stop-answer.ensures.after (stopped-ended c.self.inside.journal c.args.id ∙ c.self.invariant.gone);
    }

pub returns-clause-half : goal.returns-clause-half
returns-clause-half g c =
    let told = book-is c.self.inside.halves.book c.args.server.now.decisions c.self.inside.journal.decisions c.self.invariant.tied.book c.meet.ensures.equal in
    half-is c.args.server.now c.meet.new.self c.tell.new.self c.decisions.result.now (c.args.server.now.decisions ++ stop_decides c.stop-answer.result ∷ []) c.tell.ensures.value c.meet.ensures.same.0
    (c.decisions.ensures ∙ ap (λ (r : Recorded). r.decisions) c.stop-answer.ensures.after ∙ stopped-decides c.self.inside.journal c.args.id
    ∙ decided-as c.self.inside.journal.decisions c.args.server.now.decisions (stop_decides (answer_to c.self.inside.journal c.args.id)) (stop_decides c.stop-answer.result) told (ap stop_decides c.stop-answer.ensures.answer))
