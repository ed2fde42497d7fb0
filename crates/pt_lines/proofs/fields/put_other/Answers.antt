-- A field that has a value, or that has none.
use Rattle.std.proofs.Common.{◌≡◌, ℕ, List, ◌++◌, None, refl, ap, ◌∙◌, rules}
use Rattle.pt_lines.proofs.Going.{no-value}
use Rattle.pt_lines.proofs.fields.put_other.Goals as goal

pub returns-in_default : goal.returns-in_default
returns-in_default c =
    let none : c.take.result ≡ None = search (rules, c.in_default.is) in (
      λ others. no-value c.args.field.now others c.args.bytes.now c.args.kind c.requires (rw none at c.take.ensures),
      refl,
    )

pub returns : goal.returns
returns c =
    let read = c.in-Some.ensures in
    let put = c.in_ok-put_value.ensures in (
      _,
      record { kind = c.args.kind; known = c.requires; within = read.0; read = read.2 },
      (put.0, put.1, put.2 ∙ ap (λ (xs : List ℕ). xs ++ put.0) c.in_ok-put_field_name.ensures),
    )
