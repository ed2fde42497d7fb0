use Rattle.std.proofs.Common.{◌≡◌, map, take}
use Rattle.pt_load.proofs.events.outermost.Given as goal

abbrev pub invariant-loop-field : goal.invariant-loop-field
invariant-loop-field l = l.defs.items ≡ map (λ field. record { depth = 0; code = field.1; name = field.0.now }) (take l.field-index l.fields)
