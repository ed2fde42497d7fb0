use Rattle.std.proofs.Common.{rules, SFits}
use Rattle.std.specs.Int.{w64}
use Rattle.std.proofs.lemmas.Int.{to_z-of_z}
use Rattle.pt_lines.proofs.Steps.{said-eq}
use Rattle.pt_lines.proofs.json.value.put_value.Goals as goal

pub returns-in-Boolean : goal.returns-in-Boolean
returns-in-Boolean c = rw c.in-Boolean.is (said-eq c.put_truth.result _ _ _ c.put_truth.ensures)

pub returns-in-Char : goal.returns-in-Char
returns-in-Char c = rw c.in-Char.is (said-eq c.put_unit.result _ _ _ c.put_unit.ensures)

pub returns-in-Signed : goal.returns-in-Signed
returns-in-Signed c =
    let fits : SFits w64 c.in-Signed.number = search rules in
    rw c.in-Signed.is (said-eq c.put_signed_integer.result _ _ _ (rw (to_z-of_z w64 c.in-Signed.number fits) at c.put_signed_integer.ensures))

pub returns-in-Unsigned : goal.returns-in-Unsigned
returns-in-Unsigned c = rw c.in-Unsigned.is (said-eq c.put_integer.result _ _ _ c.put_integer.ensures)

pub returns-in-Decimal : goal.returns-in-Decimal
returns-in-Decimal c = rw c.in-Decimal.is (said-eq c.put_quoted_hex.result _ _ _ c.put_quoted_hex.ensures)

pub returns-in-Date : goal.returns-in-Date
returns-in-Date c = rw c.in-Date.is (said-eq c.put_quoted_date.result _ _ _ c.put_quoted_date.ensures)

pub returns-in-Guid : goal.returns-in-Guid
returns-in-Guid c = rw c.in-Guid.is (said-eq c.put_uuid.result _ _ _ c.put_uuid.ensures)

pub returns-in-Text : goal.returns-in-Text
returns-in-Text c = rw c.in-Text.is (said-eq c.put_text.result _ _ _ c.put_text.ensures)
