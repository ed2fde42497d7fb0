use Rattle.std.proofs.Common.{◌≡◌, ◌+◌, ◌*◌, length, ap, ◌∙◌, arith}
use Rattle.nt_object.specs.declared.object.BlockKind.TheVariants as block
use Rattle.nt_object.specs.Stream.{blocks_bytes}
use Rattle.nt_blocks.specs.Bodies.{point_body}
use Rattle.nt_write.specs.Layout.{with_block, flushed}
use Rattle.nt_write.proofs.Answered.{on_err}
use Rattle.nt_write.proofs.BlockSteps.{point-len}
use Rattle.nt_write.proofs.Placing.{with_block-extends}
use Rattle.nt_write.proofs.Prefixes.{some-all, some-longer}
use Rattle.nt_write.proofs.Flushing.{point-put}
use Rattle.nt_write.proofs.writer.TraceWriter.write_point.Goals as goal

pub returns-in_err-flush-clause-part : goal.returns-in_err-flush-clause-part
returns-in_err-flush-clause-part g c start defs layout h =
    let blocks = (flushed layout).blocks in
    let body = point_body c.args.stamp c.args.threads.now in
    on_err c.from_residual.result
    (some-longer g.S.Sink.tells_taken g.S.Sink.taken start (blocks_bytes blocks) (blocks_bytes (with_block block.Point body blocks)) c.flush.new.self.sink
    (with_block-extends block.Point body blocks)
    (c.in_err-flush.ensures.part start layout h.kept.output h.kept.pending))

pub returns-in_err-put_point-clause-part : goal.returns-in_err-put_point-clause-part
returns-in_err-put_point-clause-part g c start defs layout h =
    let blocks = (flushed layout).blocks in
    let body = point_body c.args.stamp c.args.threads.now in
    let sink = c.flush.new.self.sink in
    on_err c.from_residual-in_err-put_point.result
    (some-longer g.S.Sink.tells_taken g.S.Sink.taken start (blocks_bytes blocks) (blocks_bytes (with_block block.Point body blocks)) sink
    (with_block-extends block.Point body blocks)
    (some-all g.S.Sink.tells_taken g.S.Sink.taken start (blocks_bytes blocks) sink (c.in_ok-flush.ensures.ok start layout h.kept.output h.kept.pending h.kept.flushes).0.took))

pub write_block-requires : goal.write_block-requires
write_block-requires g c =
    let put = point-put c.deref.result.now c.put_point.new.out.items c.new-body.result.items c.args.stamp c.args.threads.now c.deref.ensures.value c.in_ok-put_point.ensures.ok c.new-body.ensures.items in
    let long : length c.deref.result.now ≡ 12 + 12 * length c.args.threads.now = ap length put ∙ point-len c.args.stamp c.args.threads.now in
    omega (arith, long, c.requires)
