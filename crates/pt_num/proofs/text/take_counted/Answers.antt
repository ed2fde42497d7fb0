use Rattle.std.proofs.Common.{◌≤◌, ◌+◌, ◌*◌, ◌<◌, length, get_or, arith}
use Rattle.pt_num.proofs.TextForms.{four_there, text_c-short, text_c-over, text_c-zero, form_c-zero}
use Rattle.pt_num.proofs.text.take_counted.Goals as goal
use Rattle.pt_num.proofs.text.take_counted.Goals.{then-bytes-count-ne0-via-then-bytes-count-ne0, then-bytes-count-ne0-via-else-bytes-count-ne0+then-bytes-count-ne0-2}

pub returns-then-bytes-count-clause-read : goal.returns-then-bytes-count-clause-read
returns-then-bytes-count-clause-read c =
    let enough : 4 ≤ length c.args.bytes.now = four_there c.args.bytes.now c.in-Some.count c.in-Some.ensures.read in
    text_c-short c.args.bytes.now c.in-Some.count c.in-Some.ensures.read enough (omega arith)

pub returns-then-bytes-count-ne0-clause-read : goal.returns-then-bytes-count-ne0-clause-read
returns-then-bytes-count-ne0-clause-read c =
    let enough : 4 ≤ length c.args.bytes.now = four_there c.args.bytes.now c.in-Some.count c.in-Some.ensures.read in
    let over : 0 < get_or c.args.bytes.now (2 * c.in-Some.count + 2) 0 + 256 * get_or c.args.bytes.now (2 * c.in-Some.count + 3) 0 =
    elim c.then-bytes-count-ne0.branch [
      | then-bytes-count-ne0-via-then-bytes-count-ne0 w ↦ omega arith
      | then-bytes-count-ne0-via-else-bytes-count-ne0+then-bytes-count-ne0-2 w ↦ omega arith
    ] in
    text_c-over c.args.bytes.now c.in-Some.count c.in-Some.ensures.read (omega arith) (omega arith) over

pub returns-clause-read : goal.returns-clause-read
returns-clause-read c =
    let enough : 4 ≤ length c.args.bytes.now = four_there c.args.bytes.now c.in-Some.count c.in-Some.ensures.read in
    (omega arith, omega arith, text_c-zero c.args.bytes.now c.in-Some.count c.in-Some.ensures.read (omega arith) (omega arith) c.if-bytes-count-ne0.false c.if-bytes-count-ne0-2.false)

pub returns-clause-form : goal.returns-clause-form
returns-clause-form c =
    let enough : 4 ≤ length c.args.bytes.now = four_there c.args.bytes.now c.in-Some.count c.in-Some.ensures.read in
    form_c-zero c.args.bytes.now c.in-Some.count c.in-Some.ensures.form (omega arith) (omega arith) (omega arith) (λ i. omega (arith, c.type_inv.bytes i)) c.if-bytes-count-ne0.false c.if-bytes-count-ne0-2.false
