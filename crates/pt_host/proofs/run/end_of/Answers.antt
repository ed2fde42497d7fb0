use Rattle.std.proofs.Common.{ℕ, ◌≤◌, subst}
use Rattle.ep_journal.specs.declared.limits.TheConstants.{CONNECTIONS}
use Rattle.pt_host.proofs.Ending.{all-over}
use Rattle.pt_host.proofs.run.end_of.Goals as goal

pub returns-clause-sessions : goal.returns-clause-sessions
returns-clause-sessions g c =
    let ended = c.finish-ended in
    let few = subst (λ (n : ℕ). n ≤ CONNECTIONS) c.len-decided.ensures.value c.len-decided.ensures.bound in
    all-over g.L.Sink.read_side g.L.Sink g.W.World.world c.args.over.server ended.result.decisions ended.result.sessions _ _ ended.ensures.told ended.ensures.agreed ended.ensures.early ended.ensures.late few c.sessions_of.ensures
