-- A part of a payload that is put by a call of its own.
use Rattle.std.specs.Prelude.{ℕ, ◌+◌, List, [], ◌++◌, length, count_by, ◌==◌, if◌then◌else◌}
use Rattle.std.specs.Int.{w32}
use Rattle.ep_defs.specs.declared.event.TheConstants.{OBJECT_CODE}
use Rattle.ep_defs.specs.declared.event.FieldDef.{FieldDef}
use Rattle.pt_num.specs.Numbers.{fixed}
use Rattle.nt_meta.specs.Meta.{fields_bytes}

-- What a field has of these fields inside it, of which there are no more than their number.
abbrev pub inside_bytes : FieldDef → List FieldDef → List ℕ
inside_bytes field fields =
    if field.code == OBJECT_CODE
    then fixed w32 (count_by (λ f. f.depth == field.depth + 1) fields) ++ fields_bytes (length fields) fields
    else []
