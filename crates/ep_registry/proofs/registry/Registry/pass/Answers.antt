use Rattle.std.proofs.Common.{List, [], ◌∷◌, ◌++◌, ap, sym, ◌∙◌}
use Rattle.ep_journal.specs.declared.decision.Decision.{Decision}
use Rattle.ep_journal.specs.declared.decision.Decision.TheVariants as decision
use Rattle.ep_journal.specs.Recorded.{Recorded}
use Rattle.ep_registry.proofs.Tied.{book-is}
use Rattle.ep_registry.proofs.Calls.{passed}
use Rattle.ep_registry.proofs.Decides.{half-is}
use Rattle.ep_registry.proofs.registry.Registry.pass.Goals as goal

pub invariant_of-self : goal.invariant_of-self
invariant_of-self g c =
    record {
      tied = rw (c.tell.ensures.book, c.decisions.ensures, c.pass.ensures, c.meet.ensures.same.1) (passed _ decision.Nothing c.self.invariant.tied);
      free = rw c.pass.ensures c.self.invariant.free;
      over = rw c.pass.ensures c.self.invariant.over;
      gone = rw c.pass.ensures c.self.invariant.gone;
    }

pub returns-clause-half : goal.returns-clause-half
returns-clause-half g c =
    let told = book-is c.self.inside.halves.book c.args.server.now.decisions c.self.inside.journal.decisions c.self.invariant.tied.book c.meet.ensures.equal in
    half-is c.args.server.now c.meet.new.self c.tell.new.self c.decisions.result.now (c.args.server.now.decisions ++ decision.Nothing ∷ []) c.tell.ensures.value c.meet.ensures.same.0
    (c.decisions.ensures ∙ ap (λ (r : Recorded). r.decisions) c.pass.ensures ∙ ap (λ (ds : List Decision). ds ++ decision.Nothing ∷ []) (sym told))
