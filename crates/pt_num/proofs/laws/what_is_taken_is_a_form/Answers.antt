use Rattle.pt_num.proofs.Forms.{begins_32, begins_64}
use Rattle.pt_num.proofs.TextForms.{begins_z}
use Rattle.pt_num.proofs.Fronts.{begins_c, begins_fixed-16, begins_fixed-32, begins_fixed-64}
use Rattle.pt_num.proofs.laws.what_is_taken_is_a_form.Goals as goal

pub returns-clause-var32 : goal.returns-clause-var32
returns-clause-var32 c = λ n bytes rest fits e. begins_32 bytes rest n fits e

pub returns-clause-var64 : goal.returns-clause-var64
returns-clause-var64 c = λ n bytes rest fits e. begins_64 bytes rest n fits e

pub returns-clause-text_z : goal.returns-clause-text_z
returns-clause-text_z c = λ units bytes rest fits e. begins_z bytes units rest fits e

pub returns-clause-fixed16 : goal.returns-clause-fixed16
returns-clause-fixed16 c = λ n bytes rest fits e. begins_fixed-16 bytes rest n fits e

pub returns-clause-fixed32 : goal.returns-clause-fixed32
returns-clause-fixed32 c = λ n bytes rest fits e. begins_fixed-32 bytes rest n fits e

pub returns-clause-fixed64 : goal.returns-clause-fixed64
returns-clause-fixed64 c = λ n bytes rest fits e. begins_fixed-64 bytes rest n fits e

pub returns-clause-text_c : goal.returns-clause-text_c
returns-clause-text_c c = λ units bytes rest fits e. begins_c bytes units rest fits e
