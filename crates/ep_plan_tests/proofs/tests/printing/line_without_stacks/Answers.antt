use Rattle.std.proofs.Common.{refl, subst, sym}
use Rattle.std.specs.Prelude.{IsTrue}
use Rattle.std.specs.Fmt.{digits}
use Rattle.ep_model.specs.declared.step.Step.{Step}
use Rattle.ep_plan.specs.Words.{number_text, hex_text, rule_text}
use Rattle.ep_plan.specs.Printing.{can_print}
use Rattle.ep_plan_tests.proofs.tests.printing.line_without_stacks.Goals as goal

pub print_step-requires : goal.print_step-requires
unfolding can_print number_text hex_text rule_text digits
print_step-requires c = subst (λ (s : Step). IsTrue (can_print s)) (sym c.in_ok-accept.ensures) refl
