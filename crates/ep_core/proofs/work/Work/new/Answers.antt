use Rattle.std.proofs.Common.{arith}
use Rattle.ep_core.proofs.work.Work.new.Goals as goal

pub returns : goal.returns
returns c info =
    c.a_machine_follows_its_start.ensures c.args.events.items info c.in_ok-new.field-0 c.loop-row.begun.items c.in_ok-new.ensures.start c.in_ok-new.ensures.tied
    (omega (arith, c.loop-row.invariant, c.loop-row-test.false, c.loop-row.auto._row-end))
