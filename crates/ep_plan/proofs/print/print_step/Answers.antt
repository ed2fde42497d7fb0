use Rattle.std.proofs.Common.{◌++◌, ℕ, List, sym, ◌∙◌, ap, subst}
use Rattle.ep_plan.specs.declared.line.Line.TheVariants.{Step as StepLine}
use Rattle.ep_plan.specs.Lines.{IsLine}
use Rattle.ep_plan.specs.Printing.{step_text}
use Rattle.ep_plan.proofs.PrintThenReadStep.{read-again, can-parts}
use Rattle.ep_plan.proofs.print.print_step.Goals as goal

pub put_step-requires : goal.put_step-requires
put_step-requires c = can-parts c.args.step.now c.requires

pub returns-clause-read : goal.returns-clause-read
returns-clause-read c = λ events stepped.
    let text = c.in_ok-put_step.ensures ∙ ap (λ xs. xs ++ step_text c.args.step.now) c.new-line.ensures.items in
    let is_line : List ℕ → Type 0 = λ xs. IsLine events stepped xs (StepLine c.args.step.now) in
    subst is_line (sym text) (read-again events stepped c.args.step.now c.step_fits.ensures c.requires)
