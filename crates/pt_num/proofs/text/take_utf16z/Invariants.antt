-- The units before this place are read.
use Rattle.std.proofs.Common.{◌*◌, drop}
use Rattle.pt_num.proofs.TextForms.{Skims}
use Rattle.pt_num.proofs.text.take_utf16z.Given as goal

abbrev pub invariant-loop-count : goal.invariant-loop-count
invariant-loop-count l = Skims l.bytes (drop (2 * l.count) l.bytes) l.count
