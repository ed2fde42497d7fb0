use Rattle.std.proofs.Common.{refl}
use Rattle.std.specs.Fmt.{digits}
use Rattle.ep_plan.specs.Words.{number_text}
use Rattle.ep_plan.specs.Printing.{can_print}
use Rattle.ep_plan_tests.proofs.tests.printing.show_line.Goals as goal

pub print_step-requires : goal.print_step-requires
unfolding can_print number_text digits
print_step-requires c = refl
