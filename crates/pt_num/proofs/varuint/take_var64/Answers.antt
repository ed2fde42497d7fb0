use Rattle.std.proofs.Common.{arith}
use Rattle.pt_num.proofs.Forms.{form_64, short_iff, wide_iff}
use Rattle.pt_num.proofs.varuint.take_var64.Goals as goal

pub returns-clause-form : goal.returns-clause-form
returns-clause-form c = form_64 c.args.bytes.now c.take_groups.result (λ i. omega (arith, c.type_inv.bytes i)) c.take_groups.ensures.read

pub returns-clause-short : goal.returns-clause-short
returns-clause-short c = short_iff c.args.bytes.now 9 1 c.take_groups.result (omega arith) c.take_groups.ensures.read

pub returns-clause-wide : goal.returns-clause-wide
returns-clause-wide c = wide_iff c.args.bytes.now 9 1 c.take_groups.result (omega arith) c.take_groups.ensures.read
