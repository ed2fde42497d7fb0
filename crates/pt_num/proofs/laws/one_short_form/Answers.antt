use Rattle.std.proofs.Common.{arith}
use Rattle.std.specs.Int.{w32, w64}
use Rattle.pt_num.proofs.Forms.{one_short}
use Rattle.pt_num.proofs.laws.one_short_form.Goals as goal

pub returns-clause-var32 : goal.returns-clause-var32
returns-clause-var32 c = λ n bytes form. one_short w32 n bytes (omega arith) form

pub returns-clause-var64 : goal.returns-clause-var64
returns-clause-var64 c = λ n bytes form. one_short w64 n bytes (omega arith) form
