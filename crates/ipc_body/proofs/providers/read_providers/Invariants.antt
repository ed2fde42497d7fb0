use Rattle.ipc_body.proofs.Provided.{AreRead}
use Rattle.ipc_body.proofs.providers.read_providers.Given as goal

abbrev pub invariant-loop-place : goal.invariant-loop-place
invariant-loop-place l = AreRead l.count l._place l.used l.bytes l.rules.items
