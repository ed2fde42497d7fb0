use Rattle.std.proofs.Common.{ℕ, nat_lt, if◌then◌else◌, List, [], length, Option, Some, None, ap, sym, ◌∙◌, arith, inl, inr}
use Rattle.std.specs.Result.{result_ok}
use Rattle.std.proofs.lemmas.Bool.{cond-true, cond-false, eqb-true, eqb-false, lt-ltb, le-ltb}
use Rattle.hex.specs.Hex.{decode_of}
use Rattle.ep_plan.specs.Words.{payload_in}
use Rattle.ep_plan.proofs.Separated.{dash_or-dash, dash_or-other}
use Rattle.ep_plan.proofs.words.hex_bytes.payload.Goals as goal

-- What digits spell as a payload.
abbrev bytes_in : List ℕ → Option (List ℕ)
bytes_in digits = if nat_lt 0 (length digits) then result_ok (decode_of digits) else None

pub returns-then-eq : goal.returns-then-eq
unfolding payload_in
returns-then-eq c = ap Some (c.new-then-eq.ensures ∙ c.new.ensures.items) ∙ dash_or-dash [] bytes_in c.args.word.now c.as_slice.result.now c.as_slice.ensures c.if-eq.ensures

pub returns-then-is_empty : goal.returns-then-is_empty
unfolding payload_in
returns-then-is_empty c =
    let none = eqb-true (length c.args.word.now) 0 (sym c.if-is_empty.ensures) in
    sym (cond-false (nat_lt 0 (length c.args.word.now)) (result_ok (decode_of c.args.word.now)) None (le-ltb 0 (length c.args.word.now) (omega arith)))
    ∙ dash_or-other [] bytes_in c.args.word.now c.as_slice.result.now c.as_slice.ensures c.if-eq.ensures

pub returns-in-Ok : goal.returns-in-Ok
unfolding payload_in
returns-in-Ok c =
    let some = eqb-false (length c.args.word.now) 0 (sym c.if-is_empty.ensures) in
    ap Some c.new-in-Ok.ensures ∙ sym (ap result_ok c.in-Ok.ensures.ok)
    ∙ sym (cond-true (nat_lt 0 (length c.args.word.now)) (result_ok (decode_of c.args.word.now)) None (lt-ltb 0 (length c.args.word.now) (omega arith)))
    ∙ dash_or-other [] bytes_in c.args.word.now c.as_slice.result.now c.as_slice.ensures c.if-eq.ensures

pub returns-in_default : goal.returns-in_default
unfolding payload_in
returns-in_default c =
    let some = eqb-false (length c.args.word.now) 0 (sym c.if-is_empty.ensures) in
    elim c.in-Err.ensures.err [
      | inl memory ↦ absurd (c.in_default.not-OutOfMemory memory)
      | inr bad ↦
          sym (ap result_ok bad)
          ∙ sym (cond-true (nat_lt 0 (length c.args.word.now)) (result_ok (decode_of c.args.word.now)) None (lt-ltb 0 (length c.args.word.now) (omega arith)))
          ∙ dash_or-other [] bytes_in c.args.word.now c.as_slice.result.now c.as_slice.ensures c.if-eq.ensures
    ]
