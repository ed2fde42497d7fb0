use Rattle.std.proofs.Common.{sym, ◌∙◌}
use Rattle.nt_read.proofs.Steps.{begun-refused, begun-turns}
use Rattle.nt_read.proofs.judge.begun.Goals as goal

pub returns-then-not-begins_well : goal.returns-then-not-begins_well
returns-then-not-begins_well c = λ pending.
    rw c.bad.ensures (begun-refused c.args.has_trace c.args.at pending c.args.unit.now c.requires.whole (sym c.begins_well.ensures ∙ c.if-not-begins_well.true))

pub returns : goal.returns
returns c = λ pending.
    rw (c.number_at.ensures, c.version_in.ensures, c.version_in-2.ensures)
    (begun-turns c.args.has_trace c.args.at pending c.args.unit.now c.requires.whole (sym c.begins_well.ensures ∙ c.if-not-begins_well.false))
