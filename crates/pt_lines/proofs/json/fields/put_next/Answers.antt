-- A field that has a value, or that has none.
use Rattle.std.proofs.Common.{◌≡◌, Some, None, decimal, refl, sym, ◌∙◌, rules}
use Rattle.pt_lines.proofs.Going.{no-kind}
use Rattle.pt_lines.proofs.json.fields.put_next.Goals as goal

pub returns-in_default : goal.returns-in_default
returns-in_default c =
    let none : c.of.result ≡ None = search (rules, c.in_default.is) in (
      λ others. no-kind c.args.field.now others c.args.bytes.now (sym (rw c.code.ensures at c.of.ensures) ∙ none),
      refl,
      refl,
    )

pub returns-in-Some-number_at : goal.returns-in-Some-number_at
returns-in-Some-number_at c =
    let held = c.in-Some-number_at.ensures in (
      held.0,
      record { kind = c.in-Some.kind; known = sym (rw c.code.ensures at c.in-Some.ensures); within = held.1; read = held.2 },
      Some (decimal c.in-Some-number_at.held.number),
      held.4,
      c.in_ok-put_number.ensures,
    )

pub put_other-requires : goal.put_other-requires
put_other-requires c = sym (rw c.code.ensures at c.in-Some.ensures)

pub returns : goal.returns
returns c = c.put_other.ensures
