use Rattle.std.proofs.Common.{inr}
use Rattle.ep_journal.specs.declared.decision.Decision.TheVariants as decision
use Rattle.pt_server.proofs.Sides.{asked-lacks}
use Rattle.pt_server.proofs.answer.judge.Goals as goal

pub returns-in-Err-clause-verdict : goal.returns-in-Err-clause-verdict
returns-in-Err-clause-verdict g c = record {
  d = decision.Nothing;
  decides = c.pass-in-Err.ensures.decides;
  is_due = inr (asked-lacks _ _ c.in-Request-Info.ensures.heard.0);
  reply = tt;
}
