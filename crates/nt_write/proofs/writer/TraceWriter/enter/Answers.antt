use Rattle.std.proofs.Common.{subst}
use Rattle.nt_write.specs.Layout.{Layout}
use Rattle.nt_write.specs.Arriving.{with_new_stack, with_definition}
use Rattle.nt_write.specs.Writing.{IsKept}
use Rattle.nt_write.specs.Writer.{entry_of}
use Rattle.nt_write.proofs.Answered.{on_ok-then}
use Rattle.nt_write.proofs.Defining.{stack-flushes, event-is}
use Rattle.nt_write.proofs.writer.TraceWriter.enter.Goals as goal

pub returns-clause-ok : goal.returns-clause-ok
returns-clause-ok g c start defs layout def h distinct at is_new interned =
    let tells = g.S.Sink.tells_taken in
    let taken = g.S.Sink.taken in
    let event = entry_of def c.args.out.now in
    let stacked = with_new_stack layout event.stack in
    let first : IsKept tells taken start defs stacked (record c.args.self.now { pending = c.keep_stack.new.self }) = record {
      output = h.output;
      pending = c.in_ok-keep_stack.ensures.ok layout h.pending h.flushes.stacks interned;
      ids = h.ids;
      flushes = stack-flushes layout event.stack h.flushes;
    } in
    let second = c.in_ok-id.ensures.ok start defs stacked def first distinct at is_new in
    let id = c.in_ok-id.ensures.id start defs stacked def first distinct at is_new in
    on_ok-then c.add_event.result
    (λ pending.
    subst (λ (l : Layout). IsKept tells taken start defs l (record c.define.new.self { pending = c.add_event.new.self })) (event-is layout event c.event_head.result c.in_ok-id.id c.args.stack.now.id (c.event_head.ensures.state def) id interned.id)
    (record { output = second.output; pending = pending; ids = second.ids; flushes = record { definitions = second.flushes.definitions; stacks = second.flushes.stacks } }))
    (c.add_event.ensures.ok (with_definition stacked def) second.pending)
