use Rattle.ipc_body.proofs.Back.{collect-back, stop-back}
use Rattle.ipc_body.proofs.laws.what_is_put_is_read.Goals as goal

pub returns-clause-collect : goal.returns-clause-collect
returns-clause-collect c =
    let t = c.what_is_put_is_taken.ensures in
    λ megabytes rules h. collect-back (record { fixed32 = t.fixed32; fixed64 = t.fixed64; text = t.text_c }) megabytes rules h

pub returns-clause-stop : goal.returns-clause-stop
returns-clause-stop c =
    let t = c.what_is_put_is_taken.ensures in
    λ id h. stop-back (record { fixed32 = t.fixed32; fixed64 = t.fixed64; text = t.text_c }) id h
