use Rattle.std.proofs.lemmas.Option.{IfSome_then}
use Rattle.pt_lines.proofs.Held.{signed-held, unsigned-held}
use Rattle.pt_lines.proofs.number.number_at.Goals as goal

pub returns-in-Signed : goal.returns-in-Signed
returns-in-Signed c = rw c.in-Signed.is (IfSome_then c.natural_at.result c.natural_at.ensures (λ held is. signed-held c.in-Signed.size c.args.bytes.now held is))

pub returns-in-Unsigned : goal.returns-in-Unsigned
returns-in-Unsigned c = rw c.in-Unsigned.is (IfSome_then c.natural_at-in-Unsigned.result c.natural_at-in-Unsigned.ensures (λ held is. unsigned-held c.in-Unsigned.size c.args.bytes.now held is))
