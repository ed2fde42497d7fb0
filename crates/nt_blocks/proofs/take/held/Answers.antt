use Rattle.std.proofs.Common.{◌≡◌, ◌∙◌}
use Rattle.nt_blocks.proofs.take.held.Goals as goal

pub returns-in_ok-from_slice-in-Event-clause-ok : goal.returns-in_ok-from_slice-in-Event-clause-ok
returns-in_ok-from_slice-in-Event-clause-ok c = λ at.
    let payload : c.new.result ≡ c.args.payload.now = c.new.ensures ∙ c.in_ok-from_slice-in-Event.ensures.items in
    rw c.in-Event.is (rw payload at (c.event.ensures at))
