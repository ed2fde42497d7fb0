use Rattle.std.proofs.Common.{◌∙◌, sym}
use Rattle.pt_gen.proofs.Turns.{both_get, one_gets}
use Rattle.pt_gen.proofs.drafts.getters.Goals as goal

pub returns-then-event-eq-STORE_OPENED-clause-got : goal.returns-then-event-eq-STORE_OPENED-clause-got
returns-then-event-eq-STORE_OPENED-clause-got c seed round is = sym (both_get seed round (is ∙ c.if-event-eq-STORE_OPENED.true))

pub returns-else-event-eq-STORE_OPENED-clause-got : goal.returns-else-event-eq-STORE_OPENED-clause-got
returns-else-event-eq-STORE_OPENED-clause-got c seed round is = sym (one_gets seed round (λ same. c.if-event-eq-STORE_OPENED.false (sym is ∙ same)))
