use Rattle.std.proofs.Common.{sym, ◌∙◌}
use Rattle.nt_read.proofs.Steps.{head-refused, head-turns}
use Rattle.nt_read.proofs.judge.head.Goals as goal

pub returns-then-not-is_head : goal.returns-then-not-is_head
returns-then-not-is_head c = λ pending.
    rw c.bad.ensures (head-refused c.args.at pending c.args.unit.now c.requires (sym c.is_head.ensures ∙ c.if-not-is_head.true))

pub returns : goal.returns
returns c = λ pending. head-turns c.args.at pending c.args.unit.now c.requires (sym c.is_head.ensures ∙ c.if-not-is_head.false)
