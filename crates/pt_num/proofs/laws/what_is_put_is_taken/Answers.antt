use Rattle.std.proofs.Common.{arith}
use Rattle.std.specs.Int.{w16, w32, w64}
use Rattle.pt_num.proofs.FixedForms.{read_fixed}
use Rattle.pt_num.proofs.Forms.{read_32, read_64}
use Rattle.pt_num.proofs.TextForms.{read_z, read_c}
use Rattle.pt_num.proofs.laws.what_is_put_is_taken.Goals as goal

pub returns-clause-fixed16 : goal.returns-clause-fixed16
returns-clause-fixed16 c = λ n rest fits. read_fixed w16 n rest (omega (arith, fits))

pub returns-clause-fixed32 : goal.returns-clause-fixed32
returns-clause-fixed32 c = λ n rest fits. read_fixed w32 n rest (omega (arith, fits))

pub returns-clause-fixed64 : goal.returns-clause-fixed64
returns-clause-fixed64 c = λ n rest fits. read_fixed w64 n rest (omega (arith, fits))

pub returns-clause-var32 : goal.returns-clause-var32
returns-clause-var32 c = λ n bytes rest form. read_32 n bytes rest form

pub returns-clause-var64 : goal.returns-clause-var64
returns-clause-var64 c = λ n bytes rest form. read_64 n bytes rest form

pub returns-clause-text_z : goal.returns-clause-text_z
returns-clause-text_z c = λ units bytes rest form. rw form.spelled (read_z units rest form.no_zero)

pub returns-clause-text_c : goal.returns-clause-text_c
returns-clause-text_c c = λ units bytes rest form. read_c units bytes rest form
