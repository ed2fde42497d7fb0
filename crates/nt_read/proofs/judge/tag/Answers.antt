use Rattle.std.proofs.Common.{get_or}
use Rattle.std.proofs.lemmas.Bool.{and_left, and_right, ne_eqb}
use Rattle.nt_read.proofs.Steps.{tag-ends, tag-opens, tag-refused}
use Rattle.nt_read.proofs.judge.tag.Goals as goal
use Rattle.nt_read.proofs.judge.tag.Goals.{then-unit-ne-NULL_REFERENCE-via-then-unit-ne-NULL_REFERENCE, then-unit-ne-NULL_REFERENCE-via-else-unit-ne-NULL_REFERENCE+then-not-has_trace}

pub returns-then-unit-eq-BEGIN_OBJECT : goal.returns-then-unit-eq-BEGIN_OBJECT
returns-then-unit-eq-BEGIN_OBJECT c = λ pending. tag-opens c.args.has_trace c.args.at pending c.args.unit.now c.requires c.if-unit-eq-BEGIN_OBJECT.true

pub returns-then-unit-ne-NULL_REFERENCE : goal.returns-then-unit-ne-NULL_REFERENCE
returns-then-unit-ne-NULL_REFERENCE c = λ pending.
    rw c.bad.ensures
    (tag-refused c.args.has_trace c.args.at pending c.args.unit.now c.requires c.if-unit-eq-BEGIN_OBJECT.false
    (elim c.then-unit-ne-NULL_REFERENCE.branch [
      | then-unit-ne-NULL_REFERENCE-via-then-unit-ne-NULL_REFERENCE w ↦ and_left _ _ (ne_eqb (get_or c.args.unit.now 0 0) 1 w.if-unit-ne-NULL_REFERENCE.true)
      | then-unit-ne-NULL_REFERENCE-via-else-unit-ne-NULL_REFERENCE+then-not-has_trace w ↦ and_right _ _ w.if-not-has_trace.true
    ]))

pub returns : goal.returns
returns c = λ pending. tag-ends c.args.has_trace c.args.at pending c.args.unit.now c.requires c.if-unit-ne-NULL_REFERENCE.false c.if-not-has_trace.false
