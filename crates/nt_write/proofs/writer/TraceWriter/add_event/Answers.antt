use Rattle.std.proofs.Common.{refl}
use Rattle.nt_write.specs.Writer.{entry_of}
use Rattle.nt_write.proofs.Answered.{on_err}
use Rattle.nt_write.proofs.Entries.{nothing-more}
use Rattle.nt_write.proofs.Ready.{ready-for, ready-known}
use Rattle.nt_write.proofs.writer.TraceWriter.add_event.Goals as goal

pub returns-in_err-stack-clause-part : goal.returns-in_err-stack-clause-part
returns-in_err-stack-clause-part g c start defs layout h distinct at =
    on_err c.from_residual.result
    (nothing-more g.S.Sink.tells_taken g.S.Sink.taken start defs layout (entry_of c.args.def.now c.args.out.now) c.args.self.now h.kept)

pub returns-then-not-stack-clause-ok : goal.returns-then-not-stack-clause-ok
returns-then-not-stack-clause-ok g c start defs layout h distinct at =
    c.add_known-then-not-stack.ensures.ok c.args.def.now start defs layout
    (ready-known g.S.Sink.tells_taken g.S.Sink.taken start defs layout c.args.out.now.frames.now c.in_ok-stack.stack _ (ready-for g.S.Sink.tells_taken g.S.Sink.taken start defs layout c.args.out.now.frames.now c.args.self.now _ c.in_ok-stack.stack h refl refl c.in_ok-stack.ensures.ok c.in_ok-stack.ensures.id c.in_ok-stack.ensures.is_new c.in_ok-stack.ensures.few) c.if-not-stack.true)
    distinct at

pub returns-then-not-stack-clause-part : goal.returns-then-not-stack-clause-part
returns-then-not-stack-clause-part g c start defs layout h distinct at =
    c.add_known-then-not-stack.ensures.part c.args.def.now start defs layout
    (ready-known g.S.Sink.tells_taken g.S.Sink.taken start defs layout c.args.out.now.frames.now c.in_ok-stack.stack _ (ready-for g.S.Sink.tells_taken g.S.Sink.taken start defs layout c.args.out.now.frames.now c.args.self.now _ c.in_ok-stack.stack h refl refl c.in_ok-stack.ensures.ok c.in_ok-stack.ensures.id c.in_ok-stack.ensures.is_new c.in_ok-stack.ensures.few) c.if-not-stack.true)
    distinct at

pub returns-clause-ok : goal.returns-clause-ok
returns-clause-ok g c start defs layout h distinct at =
    c.add_copied.ensures.ok start defs layout
    (ready-for g.S.Sink.tells_taken g.S.Sink.taken start defs layout c.args.out.now.frames.now c.args.self.now _ c.in_ok-stack.stack h refl refl c.in_ok-stack.ensures.ok c.in_ok-stack.ensures.id c.in_ok-stack.ensures.is_new c.in_ok-stack.ensures.few)
    distinct at

pub returns-clause-part : goal.returns-clause-part
returns-clause-part g c start defs layout h distinct at =
    c.add_copied.ensures.part start defs layout
    (ready-for g.S.Sink.tells_taken g.S.Sink.taken start defs layout c.args.out.now.frames.now c.args.self.now _ c.in_ok-stack.stack h refl refl c.in_ok-stack.ensures.ok c.in_ok-stack.ensures.id c.in_ok-stack.ensures.is_new c.in_ok-stack.ensures.few)
    distinct at
