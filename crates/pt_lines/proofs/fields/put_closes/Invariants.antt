use Rattle.std.proofs.Common.{◌≡◌, ◌++◌}
use Rattle.pt_lines.specs.Texts.{closes}
use Rattle.pt_lines.proofs.fields.put_closes.Given as goal

abbrev pub invariant-loop : goal.invariant-loop
invariant-loop l = l.out.items ≡ l.fn.out.items ++ closes l.counter
