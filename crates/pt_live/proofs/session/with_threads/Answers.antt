use Rattle.std.proofs.Common.{◌∙◌, ℕ, Some, sym, ap, subst}
use Rattle.ep_live.specs.Made.{AreStands}
use Rattle.pt_load.specs.declared.plan.Plan.{Plan}
use Rattle.pt_stream.specs.State.{StreamState}
use Rattle.pt_live.proofs.session.with_threads.Goals as goal

pub writers_of-requires-clause-halves : goal.writers_of-requires-clause-halves
writers_of-requires-clause-halves g c = c.lend-stream.ensures.halves 0 c.requires.stands

pub take_back-stream-requires-clause-halves : goal.take_back-stream-requires-clause-halves
take_back-stream-requires-clause-halves g c =
    subst (λ (n : ℕ). AreStands n c.give_back.new.halves.items) (sym (ap (λ (p : Plan). p.writes) c.args.around.now.plan_is)) c.give_back.ensures.halves

pub returns-clause-same : goal.returns-clause-same
returns-clause-same g c =
    let before : StreamState = c.args.streaming.stream in
    let writes = ap (λ (p : Plan). p.writes) c.args.around.now.plan_is in
    c.take_back-stream.ensures
    ∙ ap (λ (s : StreamState). record s { stands = Some c.args.around.now.plan.now.writes }) (c.run_both-streaming.ensures ∙ c.lend-stream.ensures.lent)
    ∙ ap (λ (n : ℕ). record before { stands = Some n }) writes
