use Rattle.std.proofs.Common.{◌≡◌, take}
use Rattle.pt_lines.proofs.named.name_fields.Given as goal

abbrev pub invariant-loop-field : goal.invariant-loop-field
invariant-loop-field l = l.named.items ≡ take l.field-index l.fields
