use Rattle.std.proofs.Common.{◌∙◌, List, ℕ, arith, subst, sym}
use Rattle.std.specs.Prelude.{from_bits}
use Rattle.std.specs.Float.{binary64}
use Rattle.std.proofs.lemmas.Float.{not_nan_f64_bits}
use Rattle.pt_lines.specs.Json.{IsNumber, in_quotes}
use Rattle.pt_lines.proofs.Floats.{finite-number, not-above, word-number}
use Rattle.pt_print.proofs.Numbers.{appended}
use Rattle.pt_lines.proofs.Steps.{said}
use Rattle.pt_lines.proofs.json.value.put_double.Goals as goal

pub float_from_bits-float : goal.float_from_bits-float
float_from_bits-float c = not_nan_f64_bits c.args.bits (omega arith)

pub returns-then-is_finite : goal.returns-then-is_finite
returns-then-is_finite c =
    let float = from_bits binary64 c.args.bits in
    let text = c.format_finite.result.now in
    rw (not-above 0x7ff0000000000000 _ c.if-bits-gt-DOUBLE_INFINITE.false)
    (said (IsNumber binary64 float) c.extend_from_slice-then-is_finite.result c.args.out.now.items _ text
    (finite-number binary64 float text (sym c.is_finite.ensures.value ∙ c.if-is_finite.true) c.format_finite.ensures.plain c.format_finite.ensures.parses)
    (appended c.extend_from_slice-then-is_finite.result c.args.out.now.items _ c.as_bytes.result.now text c.extend_from_slice-then-is_finite.ensures.items c.as_bytes.ensures.value))

pub returns : goal.returns
returns c =
    let float = from_bits binary64 c.args.bits in
    let none = sym c.is_finite.ensures.value ∙ c.if-is_finite.false in
    let word = sym (c.as_bytes-2.ensures.value ∙ c.format.ensures.word none) in
    rw (not-above 0x7ff0000000000000 _ c.if-bits-gt-DOUBLE_INFINITE.false)
    (said (IsNumber binary64 float) c.put_plain.result c.args.out.now.items _ (in_quotes c.as_bytes-2.result.now)
    (subst (λ (text : List ℕ). IsNumber binary64 float (in_quotes text)) word (word-number binary64 float none)) c.put_plain.ensures)
