use Rattle.std.proofs.Common.{[], refl}
use Rattle.std.proofs.lemmas.Bool.{ne_eqb}
use Rattle.pt_lines.specs.Forms.{AreLines}
use Rattle.pt_lines.proofs.Lines.{lost-put}
use Rattle.pt_lines.proofs.Steps.{nothing}
use Rattle.pt_lines.proofs.line.put_lost.Goals as goal

pub returns-then-count-eq0 : goal.returns-then-count-eq0
returns-then-count-eq0 c = rw c.if-count-eq0.true (nothing (AreLines c.args.form []) c.args.out.now.items refl)

pub returns : goal.returns
returns c = lost-put c.args.form c.put_one_lost.result c.args.out.now.items _ c.args.origin c.args.stamp c.args.thread c.args.count (ne_eqb c.args.count 0 c.if-count-eq0.false) c.put_one_lost.ensures
