use Rattle.std.proofs.Common.{length, ap, arith, length-drop}
use Rattle.std.specs.Int.{w32}
use Rattle.pt_num.proofs.Joined.{rest_is}
use Rattle.pt_num.proofs.Fronts.{number_within}
use Rattle.nt_blocks.proofs.TakeParts.{stack_unsized, stack_cut, stack_found}
use Rattle.nt_blocks.proofs.take.stack_in.Goals as goal

pub returns-in_err-size-clause-none : goal.returns-in_err-size-clause-none
returns-in_err-size-clause-none c = λ none start place. stack_unsized start place c.args.bytes.now c.in_err-size.ensures.read

pub returns-then-stack-size-clause-none : goal.returns-then-stack-size-clause-none
returns-then-stack-size-clause-none c = λ none start place.
    stack_cut start place c.in_ok-size.field-0 c.args.bytes.now c.in_ok-size.ensures.read (omega (arith, length-drop 4 c.args.bytes.now, ap length (rest_is 4 c.args.bytes.now)))

pub returns-clause-some : goal.returns-clause-some
returns-clause-some c =
    let some = number_within w32 c.args.bytes.now _ c.in_ok-size.field-0 c.in_ok-size.ensures.read in
    rw (rest_is 4 c.args.bytes.now) (stack_found c.in_ok-size.field-0 c.args.bytes.now c.in_ok-size.ensures.read some (omega (arith, length-drop 4 c.args.bytes.now, ap length (rest_is 4 c.args.bytes.now))))
