-- The fields so far have their names, and the rest decides.
use Rattle.std.proofs.Common.{◌≡◌, drop}
use Rattle.tp_c.specs.Shapes.{are_named}
use Rattle.tp_c.proofs.shapes.are_named.Given as goal

abbrev pub invariant-loop-field : goal.invariant-loop-field
invariant-loop-field l = are_named l.fields l.names ≡ are_named (drop l.field-index l.fields) l.rest
