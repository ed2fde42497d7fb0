use Rattle.std.proofs.Common.{List, subst}
use Rattle.nt_object.specs.Object.{Block}
use Rattle.nt_object.specs.Stream.{blocks_bytes}
use Rattle.nt_write.specs.Layout.{new_metas, flushed}
use Rattle.nt_write.specs.Writing.{HasWritten, TookSome}
use Rattle.nt_write.proofs.Answered.{on_err, on_err-then, on_ok-then, on_ok-both}
use Rattle.nt_write.proofs.Prefixes.{some-longer}
use Rattle.nt_write.proofs.Flushing.{with_metas, with_stacks, metas-extend, stacks-extend, metas-written, stacks-written, events-written, flush-pending, flush-empties, flush-keeps}
use Rattle.nt_write.proofs.output.Output.flush.Goals as goal

pub returns-in_err-write_blobs-clause-part : goal.returns-in_err-write_blobs-clause-part
returns-in_err-write_blobs-clause-part g c start layout h p =
    let T : List Block → Type 0 = λ blocks. TookSome g.S.Sink.tells_taken g.S.Sink.taken start (blocks_bytes blocks) c.write_blobs.new.self.sink in
    on_err c.from_residual.result
    (some-longer g.S.Sink.tells_taken g.S.Sink.taken start (blocks_bytes (with_metas layout)) (blocks_bytes (flushed layout).blocks) c.write_blobs.new.self.sink (metas-extend layout)
    (subst T (metas-written layout c.args.pending.now.metadata.kind c.args.pending.now.of_metadata) (c.in_err-write_blobs.ensures.part (new_metas layout) p.metadata start layout.blocks h)))

pub returns-in_err-write_stacks-clause-part : goal.returns-in_err-write_stacks-clause-part
returns-in_err-write_stacks-clause-part g c start layout h p =
    let W : List Block → Type 0 = λ blocks. HasWritten g.S.Sink.tells_taken g.S.Sink.taken start blocks c.write_blobs.new.self in
    let T : List Block → Type 0 = λ blocks. TookSome g.S.Sink.tells_taken g.S.Sink.taken start (blocks_bytes blocks) c.write_stacks.new.self.sink in
    let first = subst W (metas-written layout c.args.pending.now.metadata.kind c.args.pending.now.of_metadata) (c.in_ok-write_blobs.ensures.ok (new_metas layout) p.metadata start layout.blocks h) in
    on_err c.from_residual-in_err-write_stacks.result
    (some-longer g.S.Sink.tells_taken g.S.Sink.taken start (blocks_bytes (with_stacks layout)) (blocks_bytes (flushed layout).blocks) c.write_stacks.new.self.sink (stacks-extend layout)
    (subst T (stacks-written layout c.args.pending.now p) (c.in_err-write_stacks.ensures.part start (with_metas layout) first)))

pub returns-clause-ok : goal.returns-clause-ok
returns-clause-ok g c start layout h p can =
    let old = c.args.pending.now in
    let W : List Block → Type 0 = λ blocks. HasWritten g.S.Sink.tells_taken g.S.Sink.taken start blocks c.write_blobs.new.self in
    let V : List Block → Type 0 = λ blocks. HasWritten g.S.Sink.tells_taken g.S.Sink.taken start blocks c.write_stacks.new.self in
    let U : List Block → Type 0 = λ blocks. HasWritten g.S.Sink.tells_taken g.S.Sink.taken start blocks c.write_blobs-2.new.self in
    let first = subst W (metas-written layout old.metadata.kind old.of_metadata) (c.in_ok-write_blobs.ensures.ok (new_metas layout) p.metadata start layout.blocks h) in
    let second = subst V (stacks-written layout old p) (c.in_ok-write_stacks.ensures.ok start (with_metas layout) first) in
    on_ok-both c.write_blobs-2.result
    (λ written events. (subst U (events-written layout old.events.kind old.of_events) written, flush-pending layout old _ p can c.in_ok-write_blobs.ensures.empty events c.in_ok-write_stacks.ensures.settled))
    (c.write_blobs-2.ensures.ok layout.events p.events start (with_stacks layout) second)
    c.write_blobs-2.ensures.empty

pub returns-clause-part : goal.returns-clause-part
returns-clause-part g c start layout h p =
    let old = c.args.pending.now in
    let W : List Block → Type 0 = λ blocks. HasWritten g.S.Sink.tells_taken g.S.Sink.taken start blocks c.write_blobs.new.self in
    let V : List Block → Type 0 = λ blocks. HasWritten g.S.Sink.tells_taken g.S.Sink.taken start blocks c.write_stacks.new.self in
    let T : List Block → Type 0 = λ blocks. TookSome g.S.Sink.tells_taken g.S.Sink.taken start (blocks_bytes blocks) c.write_blobs-2.new.self.sink in
    let first = subst W (metas-written layout old.metadata.kind old.of_metadata) (c.in_ok-write_blobs.ensures.ok (new_metas layout) p.metadata start layout.blocks h) in
    let second = subst V (stacks-written layout old p) (c.in_ok-write_stacks.ensures.ok start (with_metas layout) first) in
    on_err-then c.write_blobs-2.result (λ took. subst T (events-written layout old.events.kind old.of_events) took) (c.write_blobs-2.ensures.part layout.events p.events start (with_stacks layout) second)

pub returns-clause-empty : goal.returns-clause-empty
returns-clause-empty g c =
    on_ok-then c.write_blobs-2.result (λ events. flush-empties c.args.pending.now _ c.in_ok-write_blobs.ensures.empty events c.in_ok-write_stacks.ensures.settled) c.write_blobs-2.ensures.empty

pub returns-clause-keeps : goal.returns-clause-keeps
returns-clause-keeps g c =
    on_ok-then c.write_blobs-2.result (λ events. flush-keeps c.args.pending.now _ c.in_ok-write_stacks.ensures.settled) c.write_blobs-2.ensures.empty
