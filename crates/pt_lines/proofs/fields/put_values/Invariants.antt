use Rattle.std.proofs.Common.{drop}
use Rattle.pt_lines.proofs.Going.{Going}
use Rattle.pt_lines.proofs.fields.put_values.Given as goal

abbrev pub invariant-loop-field : goal.invariant-loop-field
invariant-loop-field l = Going l.fields l.payload l.fn.out.items (drop l.field-index l.fields) l.bytes l.opened l.out.items
