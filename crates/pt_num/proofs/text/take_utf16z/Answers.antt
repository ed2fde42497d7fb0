use Rattle.std.proofs.Common.{◌<◌, ◌+◌, ◌*◌, arith, get_or}
use Rattle.std.proofs.lemmas.List.{length-drop}
use Rattle.pt_num.specs.declared.text.TakenText.TheVariants.{Units, Short}
use Rattle.pt_num.proofs.TextForms.{unit_first, skims_more, skims_end, skims_cut, form_z, short_z}
use Rattle.pt_num.proofs.text.take_utf16z.Goals as goal
use Rattle.pt_num.proofs.text.take_utf16z.Goals.{else-bytes-count-eq0-via-then-bytes-count-eq0+else-bytes-count-eq0-2, else-bytes-count-eq0-via-else-bytes-count-eq0}

pub returns-then-bytes-count-eq0-2-clause-read : goal.returns-then-bytes-count-eq0-2-clause-read
returns-then-bytes-count-eq0-2-clause-read c =
    let first = unit_first c.args.bytes.now c.loop-count.count (omega arith) in
    skims_end _ _ _ _ _ c.if-bytes-count-eq0.true c.if-bytes-count-eq0-2.true (rw first at c.loop-count.invariant)

pub returns-then-bytes-count-eq0-2-clause-form : goal.returns-then-bytes-count-eq0-2-clause-form
returns-then-bytes-count-eq0-2-clause-form c =
    let first = unit_first c.args.bytes.now c.loop-count.count (omega arith) in
    form_z c.args.bytes.now (Units c.loop-count.count (2 * c.loop-count.count + 2)) (λ i. omega (arith, c.type_inv.bytes i))
    (skims_end _ _ _ _ _ c.if-bytes-count-eq0.true c.if-bytes-count-eq0-2.true (rw first at c.loop-count.invariant))

pub returns-then-bytes-count-eq0-2-clause-short : goal.returns-then-bytes-count-eq0-2-clause-short
returns-then-bytes-count-eq0-2-clause-short c =
    let first = unit_first c.args.bytes.now c.loop-count.count (omega arith) in
    short_z c.args.bytes.now (Units c.loop-count.count (2 * c.loop-count.count + 2)) (λ i. omega (arith, c.type_inv.bytes i))
    (skims_end _ _ _ _ _ c.if-bytes-count-eq0.true c.if-bytes-count-eq0-2.true (rw first at c.loop-count.invariant))

pub loop-count-preserved : goal.loop-count-preserved
loop-count-preserved c =
    let first = unit_first c.args.bytes.now c.loop-count.count (omega arith) in
    let some : 0 < get_or c.args.bytes.now (2 * c.loop-count.count) 0 + 256 * get_or c.args.bytes.now (2 * c.loop-count.count + 1) 0 =
    elim c.else-bytes-count-eq0.branch [
      | else-bytes-count-eq0-via-then-bytes-count-eq0+else-bytes-count-eq0-2 w ↦ omega arith
      | else-bytes-count-eq0-via-else-bytes-count-eq0 w ↦ omega arith
    ] in
    skims_more _ _ _ _ _ some (rw first at c.loop-count.invariant)

pub returns-clause-read : goal.returns-clause-read
returns-clause-read c =
    skims_cut c.args.bytes.now _ _ (omega (arith, length-drop (2 * c.loop-count.count) c.args.bytes.now)) c.loop-count.invariant

pub returns-clause-short : goal.returns-clause-short
returns-clause-short c =
    short_z c.args.bytes.now Short (λ i. omega (arith, c.type_inv.bytes i))
    (skims_cut c.args.bytes.now _ _ (omega (arith, length-drop (2 * c.loop-count.count) c.args.bytes.now)) c.loop-count.invariant)
