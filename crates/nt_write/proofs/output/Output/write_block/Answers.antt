use Rattle.std.proofs.Common.{◌≡◌, ◌+◌, ◌%◌, length, ◌∙◌, ap, sym}
use Rattle.nt_write.proofs.Answered.{on_err}
use Rattle.nt_write.proofs.Placing.{block-put, block-written, block-broken}
use Rattle.nt_write.proofs.output.Output.write_block.Goals as goal

pub returns-in_err-write-clause-part : goal.returns-in_err-write-clause-part
returns-in_err-write-clause-part g c start blocks h =
    let old = c.args.self.now in
    let body = c.args.body.now in
    let piece = block-put c.deref.result.now c.put_block.new.out.items c.clear.new.self.items body old.alignment c.from.result c.args.kind c.deref.ensures.value c.in_ok-put_block.ensures.ok c.clear.ensures.items c.from.ensures in
    on_err c.from_residual-in_err-write.result
    (block-broken g.S.Sink.tells_taken g.S.Sink.taken start blocks c.args.kind body c.deref.result.now old c.write.new.self h piece c.in_err-write.ensures.told c.in_err-write.ensures.part)

pub returns-clause-ok : goal.returns-clause-ok
returns-clause-ok g c start blocks h =
    let old = c.args.self.now in
    let body = c.args.body.now in
    let piece = block-put c.deref.result.now c.put_block.new.out.items c.clear.new.self.items body old.alignment c.from.result c.args.kind c.deref.ensures.value c.in_ok-put_block.ensures.ok c.clear.ensures.items c.from.ensures in
    let len : c.len.result ≡ length c.deref.result.now = c.len.ensures ∙ sym c.deref.ensures.len in
    block-written g.S.Sink.tells_taken g.S.Sink.taken start blocks c.args.kind body c.deref.result.now old _ h piece c.in_ok-write.ensures.told c.in_ok-write.ensures.taken
    (ap (λ n. (n + c.len.result) % 4) c.from-2.ensures ∙ ap (λ n. (old.alignment + n) % 4) len)
