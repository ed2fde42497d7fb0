use Rattle.std.proofs.Common.{refl, rules, SFits}
use Rattle.std.specs.Prelude.{codes}
use Rattle.std.specs.Int.{w64}
use Rattle.std.proofs.lemmas.Int.{to_z-of_z}
use Rattle.pt_print.proofs.Numbers.{appended}
use Rattle.pt_lines.proofs.Steps.{said-eq}
use Rattle.pt_lines.proofs.value.put_value.Goals as goal

pub returns-in-Object : goal.returns-in-Object
returns-in-Object c =
    rw c.in-Object.is (said-eq c.extend_from_slice.result c.args.out.now.items _ (codes "{") (appended c.extend_from_slice.result c.args.out.now.items _ (codes "{") (codes "{") c.extend_from_slice.ensures.items refl))

pub returns-in-Boolean : goal.returns-in-Boolean
returns-in-Boolean c = rw c.in-Boolean.is (said-eq c.put_truth.result _ _ _ c.put_truth.ensures)

pub returns-in-Char : goal.returns-in-Char
returns-in-Char c = rw c.in-Char.is (said-eq c.put_unit.result _ _ _ c.put_unit.ensures)

pub returns-in-Signed : goal.returns-in-Signed
returns-in-Signed c =
    let fits : SFits w64 c.in-Signed.number = search rules in
    rw c.in-Signed.is (said-eq c.put_signed.result _ _ _ (rw (to_z-of_z w64 c.in-Signed.number fits) at c.put_signed.ensures))

pub returns-in-Unsigned : goal.returns-in-Unsigned
returns-in-Unsigned c = rw c.in-Unsigned.is (said-eq c.put_digits.result _ _ _ c.put_digits.ensures)

pub returns-in-Decimal : goal.returns-in-Decimal
returns-in-Decimal c = rw c.in-Decimal.is (said-eq c.put_hex.result _ _ _ c.put_hex.ensures)

pub returns-in-Date : goal.returns-in-Date
returns-in-Date c = rw c.in-Date.is (said-eq c.put_date.result _ _ _ c.put_date.ensures)

pub returns-in-Guid : goal.returns-in-Guid
returns-in-Guid c = rw c.in-Guid.is (said-eq c.put_guid.result _ _ _ c.put_guid.ensures)

pub returns-in-Text : goal.returns-in-Text
returns-in-Text c = rw c.in-Text.is (said-eq c.put_text.result _ _ _ c.put_text.ensures)
