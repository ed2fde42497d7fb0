use Rattle.std.proofs.Common.{sym, ap, ◌∙◌, ◌++◌}
use Rattle.ep_locks.specs.Row.{in_its_line}
use Rattle.ep_locks.proofs.Lines.{spread-append}
use Rattle.ep_locks.proofs.locks.spread_out.Goals as goal

pub loop-value-preserved : goal.loop-value-preserved
loop-value-preserved g c =
    c.in_ok-push_line.ensures ∙ ap (λ l. l ++ in_its_line c.in-Some.value) c.loop-value.invariant ∙ sym (spread-append c.loop-value.yielded c.in-Some.value)
