use Rattle.std.proofs.Common.{drop}
use Rattle.pt_lines.proofs.Members.{Membering}
use Rattle.pt_lines.proofs.json.fields.put_members.Given as goal

abbrev pub invariant-loop-field : goal.invariant-loop-field
invariant-loop-field l = Membering l.fields l.payload l.fn.out.items (drop l.field-index l.fields) l.bytes l.nest l.out.items
