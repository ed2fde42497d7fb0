use Rattle.std.proofs.Common.{arith, rules}
use Rattle.std.proofs.lemmas.List.Sums.{sum_by_more}
use Rattle.ep_defs.specs.declared.session.Marks.{Marks}
use Rattle.pt_run.proofs.summary.sums.Goals as goal

-- What stands after the end of a list.
no_marks : Marks
no_marks = record { thread = 0; from = 0; to = 0; taken = 0; refused = 0 }

pub loop-mark-preserved : goal.loop-mark-preserved
unfolding no_marks
loop-mark-preserved c =
    let before = c.loop-mark.invariant in
    record {
      written = omega (arith, before.written, c.from-written.ensures, sum_by_more (λ (mark : Marks). mark.taken) c.args.marks.now c.loop-mark.mark-index no_marks c.loop-mark-test.true);
      refused = omega (arith, before.refused, c.from-refused.ensures, sum_by_more (λ (mark : Marks). mark.refused) c.args.marks.now c.loop-mark.mark-index no_marks c.loop-mark-test.true);
      written_few = search rules;
      refused_few = search rules;
    }
