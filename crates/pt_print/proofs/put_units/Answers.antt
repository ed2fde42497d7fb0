use Rattle.pt_print.proofs.Kept.{kept_through}
use Rattle.pt_print.proofs.put_units.Goals as goal

pub returns-in_err-put_unit-clause-err : goal.returns-in_err-put_unit-clause-err
returns-in_err-put_unit-clause-err c =
    kept_through c.from_residual-in_err-put_unit.result c.args.out.now.items _ c.loop-unit.out.items c.put_unit.new.out.items c.loop-unit.invariant
    c.in_err-put_unit.ensures.err
