use Rattle.std.proofs.Common.{rules, sym, length}
use Rattle.std.proofs.lemmas.Bool.{eqb-true, eqb-false}
use Rattle.ep_plan.proofs.Separated.{payload_text-none, payload_text-some}
use Rattle.ep_plan.proofs.words.hex_bytes.put_payload.Goals as goal

pub returns-then-is_empty : goal.returns-then-is_empty
returns-then-is_empty c =
    let text = payload_text-none c.args.payload.now (eqb-true (length c.args.payload.now) 0 (sym c.if-is_empty.ensures)) in
    rw text (search rules)

pub returns : goal.returns
returns c =
    let text = payload_text-some c.args.payload.now (eqb-false (length c.args.payload.now) 0 (sym c.if-is_empty.ensures)) in
    rw text (search rules)
