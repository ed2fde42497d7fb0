use Rattle.std.proofs.Common.{take, arith}
use Rattle.std.proofs.lemmas.List.{length-take-le}
use Rattle.ep_plan.specs.declared.limits.TheConstants.{ID_DIGITS}
use Rattle.ep_plan.proofs.Ahead.{id_word, digits_id}
use Rattle.ep_plan.proofs.words.ahead.id_ahead.Goals as goal

pub returns-then-spelled-clause-word : goal.returns-then-spelled-clause-word
returns-then-spelled-clause-word c =
    id_word c.args.text.now _ (omega arith) (c.spelled.ensures c.if-spelled.true) (c.ends.ensures c.if-not-ends.false)

pub returns-then-spelled-clause-id : goal.returns-then-spelled-clause-id
returns-then-spelled-clause-id c =
    digits_id (take ID_DIGITS c.args.text.now) _ (length-take-le ID_DIGITS c.args.text.now (omega arith)) (c.spelled.ensures c.if-spelled.true)
