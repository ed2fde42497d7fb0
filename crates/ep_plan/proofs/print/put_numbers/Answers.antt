use Rattle.ep_plan.specs.Lines.{form_of}
use Rattle.ep_plan.proofs.Printed.{number-more}
use Rattle.ep_plan.proofs.print.put_numbers.Goals as goal

pub loop-number-preserved : goal.loop-number-preserved
loop-number-preserved c = number-more c.args.line.now.items c.loop-number.line.items c.extend_from_slice-in-loop-number.new.self.items c.put_number.new.out.items (form_of c.args.verb).name c.args.numbers.now c.loop-number.number-index c.loop-number-test.true c.loop-number.invariant c.in_ok-extend_from_slice-2.ensures.items c.in_ok-put_number.ensures
