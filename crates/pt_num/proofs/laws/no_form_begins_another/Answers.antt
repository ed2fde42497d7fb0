use Rattle.std.proofs.Common.{arith}
use Rattle.std.specs.Int.{w16, w32, w64}
use Rattle.pt_num.specs.Fields.{text_c_at, var_at}
use Rattle.pt_num.proofs.Forms.{read_32, read_64}
use Rattle.pt_num.proofs.TextForms.{read_c}
use Rattle.pt_num.proofs.Fronts.{same_numbers, same_pieces, same_texts}
use Rattle.pt_num.proofs.laws.no_form_begins_another.Goals as goal

pub returns-clause-fixed16 : goal.returns-clause-fixed16
returns-clause-fixed16 c = λ n m more other first second e. same_numbers w16 n m more other (omega (arith, first)) (omega (arith, second)) e

pub returns-clause-fixed32 : goal.returns-clause-fixed32
returns-clause-fixed32 c = λ n m more other first second e. same_numbers w32 n m more other (omega (arith, first)) (omega (arith, second)) e

pub returns-clause-fixed64 : goal.returns-clause-fixed64
returns-clause-fixed64 c = λ n m more other first second e. same_numbers w64 n m more other (omega (arith, first)) (omega (arith, second)) e

pub returns-clause-var32 : goal.returns-clause-var32
returns-clause-var32 c = λ n m xs ys more other first second e. same_pieces n m xs ys more other (var_at w32) (read_32 n xs more first) (read_32 m ys other second) e

pub returns-clause-var64 : goal.returns-clause-var64
returns-clause-var64 c = λ n m xs ys more other first second e. same_pieces n m xs ys more other (var_at w64) (read_64 n xs more first) (read_64 m ys other second) e

pub returns-clause-text_z : goal.returns-clause-text_z
returns-clause-text_z c = λ units others xs ys more other first second e. same_texts units others xs ys more other first second e

pub returns-clause-text_c : goal.returns-clause-text_c
returns-clause-text_c c = λ units others xs ys more other first second e. same_pieces units others xs ys more other text_c_at (read_c units xs more first) (read_c others ys other second) e
