use Rattle.std.proofs.Common.{rules, ◌∙◌, ap, sym}
use Rattle.ep_row.specs.Row.{RowState}
use Rattle.ep_live.proofs.Answering.{one-answered}
use Rattle.ep_live.proofs.Bits.{clears-less}
use Rattle.ep_live.proofs.live.Live.show_all.Goals as goal

pub with_answer-refused-requires-clause-unset : goal.with_answer-refused-requires-clause-unset
with_answer-refused-requires-clause-unset g c =
    let before = c.loop-slot.invariant.answers in
    let due = c.in-Some.ensures.due in
    (before.others c.in-Some.slot c.in-Some.ensures.within (due ∙ sym (before.left c.in-Some.slot c.in-Some.ensures.within due))).bit

pub loop-slot-preserved : goal.loop-slot-preserved
loop-slot-preserved g c =
    let before = c.loop-slot.invariant in
    let shown = c.show_one-shown.ensures in
    record {
      others = search rules;
      answers =
          one-answered c.in-Some.slot _ c.show_one-shown.result _ _ _ _ _ shown.answer.old shown.answer.new before.answers
          (ap (λ (r : RowState). r.stamp) before.others) c.in-Some.ensures.within c.in-Some.ensures.due shown.due shown.answer.is
          c.with_answer-refused.ensures;
      number = search rules;
    }

pub loop-slot-smaller : goal.loop-slot-smaller
loop-slot-smaller g c = clears-less c.in-Some.slot _ _ c.in-Some.ensures.within c.show_one-shown.ensures.due c.in-Some.ensures.due
