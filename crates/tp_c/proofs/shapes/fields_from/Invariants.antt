-- The fields so far, and those to come, whose names are the rest.
use Rattle.std.proofs.Common.{◌≡◌, ◌++◌, drop}
use Rattle.std.specs.Prelude.{IsTrue}
use Rattle.tp_c.specs.Shapes.{are_named, fields_of}
use Rattle.tp_c.proofs.shapes.fields_from.Given as goal

abbrev pub invariant-loop-field : goal.invariant-loop-field
invariant-loop-field l =
    (l.list.items ++ fields_of (drop l.field-index l.fields) l.rest ≡ fields_of l.fields l.names)
    × IsTrue (are_named (drop l.field-index l.fields) l.rest)
