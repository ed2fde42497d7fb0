use Rattle.std.proofs.Common.{arith}
use Rattle.pt_num.specs.declared.varuint.Taken.TheVariants.{Value, Short, TooWide}
use Rattle.pt_num.proofs.Forms.{var_32, short_iff, wide_iff}
use Rattle.pt_num.proofs.varuint.take_var32.Goals as goal

pub returns-in-Value-clause-form : goal.returns-in-Value-clause-form
returns-in-Value-clause-form c =
    var_32 c.in-Value.value c.in-Value.used c.args.bytes.now (λ i. omega (arith, c.type_inv.bytes i)) c.in-Value.ensures.read.0 c.in-Value.ensures.read.1

pub returns-in-Value-clause-short : goal.returns-in-Value-clause-short
returns-in-Value-clause-short c = short_iff c.args.bytes.now 4 15 (Value c.in-Value.value c.in-Value.used) (omega arith) c.in-Value.ensures.read

pub returns-in-Value-clause-wide : goal.returns-in-Value-clause-wide
returns-in-Value-clause-wide c = wide_iff c.args.bytes.now 4 15 (Value c.in-Value.value c.in-Value.used) (omega arith) c.in-Value.ensures.read

pub returns-in-Short-clause-short : goal.returns-in-Short-clause-short
returns-in-Short-clause-short c = short_iff c.args.bytes.now 4 15 Short (omega arith) c.in-Short.ensures.read

pub returns-in-Short-clause-wide : goal.returns-in-Short-clause-wide
returns-in-Short-clause-wide c = wide_iff c.args.bytes.now 4 15 Short (omega arith) c.in-Short.ensures.read

pub returns-in-TooWide-clause-short : goal.returns-in-TooWide-clause-short
returns-in-TooWide-clause-short c = short_iff c.args.bytes.now 4 15 TooWide (omega arith) c.in-TooWide.ensures.read

pub returns-in-TooWide-clause-wide : goal.returns-in-TooWide-clause-wide
returns-in-TooWide-clause-wide c = wide_iff c.args.bytes.now 4 15 TooWide (omega arith) c.in-TooWide.ensures.read
