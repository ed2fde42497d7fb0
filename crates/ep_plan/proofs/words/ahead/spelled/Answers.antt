use Rattle.std.proofs.Common.{◌*◌, arith, ◌∙◌}
use Rattle.hex.proofs.HexLemmas.{decode_of-even}
use Rattle.hex.proofs.Pairs.{decode_step, decode_done}
use Rattle.ep_plan.proofs.words.ahead.spelled.Goals as goal

pub pairs-preserved : goal.pairs-preserved
pairs-preserved c =
    decode_step _ _ c.pairs.place _ (omega arith) (omega arith) (c.in-Some.ensures (2 * c.pairs.place)) c.pairs.invariant

pub returns : goal.returns
returns c = λ _.
    decode_of-even c.args.digits.now (omega arith) ∙ decode_done _ c.pairs.out c.pairs.place (omega arith) (omega arith) c.pairs.invariant
