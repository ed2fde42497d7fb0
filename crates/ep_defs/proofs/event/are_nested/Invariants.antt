-- The fields so far are nested, and the rest decides.
use Rattle.std.proofs.Common.{◌≡◌, drop}
use Rattle.ep_defs.specs.Event.{are_nested}
use Rattle.ep_defs.proofs.event.are_nested.Given as goal

abbrev pub invariant-loop-field : goal.invariant-loop-field
invariant-loop-field l = are_nested 0 l.fields ≡ are_nested l.deepest (drop l.field-index l.fields)
