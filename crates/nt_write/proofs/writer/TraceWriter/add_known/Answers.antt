use Rattle.std.proofs.Common.{ℕ, Bool, false, List, ap, sym, ◌∙◌, subst}
use Rattle.nt_object.specs.Stream.{blocks_bytes}
use Rattle.nt_stacks.specs.declared.interner.Interned.{Interned}
use Rattle.nt_stacks.specs.Stacks.{with_stack}
use Rattle.nt_write.specs.Value.{StacksSeen, AreFew}
use Rattle.nt_write.specs.Layout.{Layout, needs_flush}
use Rattle.nt_write.specs.Arriving.{flushed_if, roomy}
use Rattle.nt_write.specs.Writing.{TookSome, IsKept}
use Rattle.nt_write.specs.Writer.{entry_of}
use Rattle.nt_write.proofs.Answered.{on_err}
use Rattle.nt_write.proofs.Prefixes.{some-all}
use Rattle.nt_write.proofs.Flushing.{flushed_if-stacks}
use Rattle.nt_write.proofs.Defining.{interned-after}
use Rattle.nt_write.proofs.Entries.{kept-roomy}
use Rattle.nt_write.proofs.Known.{event-known, known-needs}
use Rattle.nt_write.proofs.writer.TraceWriter.add_known.Goals as goal

pub returns-in_err-make_room-clause-part : goal.returns-in_err-make_room-clause-part
returns-in_err-make_room-clause-part g c def start defs layout h distinct at =
    let out = c.args.out.now in
    let needs = known-needs g.S.Sink.tells_taken g.S.Sink.taken start defs layout def out c.args.id c.args.stack c.args.self.now h at c.requires.given in
    on_err c.from_residual.result
    (subst (λ (full : Bool). TookSome g.S.Sink.tells_taken g.S.Sink.taken start (blocks_bytes (flushed_if full layout).blocks) c.make_room.new.self.sink) needs
    (c.in_err-make_room.ensures.part start layout h.kept.output h.kept.pending))

pub returns-in_err-add_event-clause-part : goal.returns-in_err-add_event-clause-part
returns-in_err-add_event-clause-part g c def start defs layout h distinct at =
    let tells = g.S.Sink.tells_taken in
    let taken = g.S.Sink.taken in
    let out = c.args.out.now in
    let event = entry_of def out in
    let needs = known-needs tells taken start defs layout def out c.args.id c.args.stack c.args.self.now h at c.requires.given in
    let kept = kept-roomy tells taken start defs layout event c.args.self.now c.make_room.new.self c.make_room.new.pending _ h.kept needs (c.in_ok-make_room.ensures.ok start layout h.kept.output h.kept.pending h.kept.flushes) in
    on_err c.from_residual-in_err-add_event.result
    (some-all tells taken start (blocks_bytes (roomy layout event).blocks) c.make_room.new.self.sink kept.output.took)

pub returns-clause-ok : goal.returns-clause-ok
returns-clause-ok g c def start defs layout h distinct at =
    let tells = g.S.Sink.tells_taken in
    let taken = g.S.Sink.taken in
    let out = c.args.out.now in
    let event = entry_of def out in
    let stack : Interned = record { id = c.args.stack; is_new = false } in
    let needs = known-needs tells taken start defs layout def out c.args.id c.args.stack c.args.self.now h at c.requires.given in
    let full = needs_flush layout event in
    let room = roomy layout event in
    let kept = kept-roomy tells taken start defs layout event c.args.self.now c.make_room.new.self c.make_room.new.pending _ h.kept needs (c.in_ok-make_room.ensures.ok start layout h.kept.output h.kept.pending h.kept.flushes) in
    let keeps = c.in_ok-make_room.ensures.keeps in
    let stacks = c.add_event.ensures.stacks in
    let known = ap (λ (s : StacksSeen). s.known) stacks ∙ keeps.known in
    let framed = ap (λ (s : StacksSeen). s.framed) stacks ∙ keeps.framed in
    record {
      kept =
          subst (λ (l : Layout). IsKept tells taken start defs l (record c.args.self.now { output = c.make_room.new.self; pending = c.add_event.new.self }))
          (event-known room event c.event_head.result c.args.id c.args.stack (interned-after full layout event.stack stack h.interned) c.requires.given.0 (c.requires.given.1 ∙ kept.ids.id_is out.event def at) (c.event_head.ensures.state def))
          (record { output = kept.output; pending = c.in_ok-add_event.ensures.ok room kept.pending; ids = kept.ids; flushes = record { definitions = kept.flushes.definitions; stacks = kept.flushes.stacks } });
      known = known ∙ h.known ∙ ap (λ (ss : List (List ℕ)). with_stack ss event.stack) (sym (flushed_if-stacks full layout));
      few =
          subst (λ (n : ℕ). AreFew c.add_event.new.self.stacks.known n) (sym framed)
          (subst (λ (ss : List (List ℕ)). AreFew ss c.args.self.now.pending.stacks.framed) (sym known) h.few);
    }
