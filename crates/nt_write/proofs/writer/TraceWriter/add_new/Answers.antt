use Rattle.std.proofs.Common.{ℕ, Bool, List, ap, sym, ◌∙◌, subst}
use Rattle.nt_object.specs.Stream.{blocks_bytes}
use Rattle.nt_stacks.specs.Stacks.{with_stack}
use Rattle.nt_write.specs.declared.pending.Arrival.{Arrival}
use Rattle.nt_write.specs.Value.{AreFew}
use Rattle.nt_write.specs.Layout.{needs_flush}
use Rattle.nt_write.specs.Arriving.{flushed_if, roomy}
use Rattle.nt_write.specs.Writing.{TookSome, IsSmall, lacks_room}
use Rattle.nt_write.specs.Writer.{entry_of}
use Rattle.nt_write.proofs.Answered.{on_err}
use Rattle.nt_write.proofs.Prefixes.{some-all}
use Rattle.nt_write.proofs.Flushing.{flushed_if-stacks}
use Rattle.nt_write.proofs.Defining.{needs-is, small-arrival, new-after, interned-after}
use Rattle.nt_write.proofs.Entries.{nothing-more, kept-roomy}
use Rattle.nt_write.proofs.writer.TraceWriter.add_new.Goals as goal

pub returns-in_err-meta-clause-part : goal.returns-in_err-meta-clause-part
returns-in_err-meta-clause-part g c start defs layout h distinct at =
    on_err c.from_residual.result
    (nothing-more g.S.Sink.tells_taken g.S.Sink.taken start defs layout (entry_of c.args.def.now c.args.out.now) c.args.self.now h.kept)

pub make_room-requires : goal.make_room-requires
make_room-requires g c =
    subst (λ (a : Arrival). IsSmall a) (sym c.arrival_of-arrival.ensures)
    (small-arrival c.args.def.now c.args.out.now c.in_ok-meta.meta c.args.stack.now c.requires.payload c.requires.frames c.in_ok-meta.ensures.defining)

pub returns-in_err-make_room-clause-part : goal.returns-in_err-make_room-clause-part
returns-in_err-make_room-clause-part g c start defs layout h distinct at =
    let def = c.args.def.now in
    let out = c.args.out.now in
    let needs = ap (λ (a : Arrival). lacks_room layout a) c.arrival_of-arrival.ensures ∙ needs-is layout def out c.in_ok-meta.meta c.args.stack.now (c.in_ok-meta.ensures.new defs layout.definitions h.kept.ids at) h.interned in
    on_err c.from_residual-in_err-make_room.result
    (subst (λ (full : Bool). TookSome g.S.Sink.tells_taken g.S.Sink.taken start (blocks_bytes (flushed_if full layout).blocks) c.make_room.new.self.sink) needs
    (c.in_err-make_room.ensures.part start layout h.kept.output h.kept.pending))

pub returns-in_err-enter-clause-part : goal.returns-in_err-enter-clause-part
returns-in_err-enter-clause-part g c start defs layout h distinct at =
    let tells = g.S.Sink.tells_taken in
    let taken = g.S.Sink.taken in
    let def = c.args.def.now in
    let out = c.args.out.now in
    let event = entry_of def out in
    let needs = ap (λ (a : Arrival). lacks_room layout a) c.arrival_of-arrival.ensures ∙ needs-is layout def out c.in_ok-meta.meta c.args.stack.now (c.in_ok-meta.ensures.new defs layout.definitions h.kept.ids at) h.interned in
    let kept = kept-roomy tells taken start defs layout event c.args.self.now c.make_room.new.self c.make_room.new.pending _ h.kept needs (c.in_ok-make_room.ensures.ok start layout h.kept.output h.kept.pending h.kept.flushes) in
    let bytes = blocks_bytes (roomy layout event).blocks in
    on_err c.from_residual-in_err-enter.result
    (subst (λ sink. TookSome tells taken start bytes sink) (sym c.enter.ensures.sink)
    (some-all tells taken start bytes c.make_room.new.self.sink kept.output.took))

pub returns-clause-ok : goal.returns-clause-ok
returns-clause-ok g c start defs layout h distinct at =
    let def = c.args.def.now in
    let out = c.args.out.now in
    let event = entry_of def out in
    let is_new = c.in_ok-meta.ensures.new defs layout.definitions h.kept.ids at in
    let needs = ap (λ (a : Arrival). lacks_room layout a) c.arrival_of-arrival.ensures ∙ needs-is layout def out c.in_ok-meta.meta c.args.stack.now is_new h.interned in
    let made = c.in_ok-make_room.ensures.ok start layout h.kept.output h.kept.pending h.kept.flushes in
    let full = needs_flush layout event in
    let kept = kept-roomy g.S.Sink.tells_taken g.S.Sink.taken start defs layout event c.args.self.now c.make_room.new.self c.make_room.new.pending _ h.kept needs made in
    let keeps = c.in_ok-make_room.ensures.keeps in
    let known = c.in_ok-enter.ensures.known ∙ keeps.known in
    let framed = c.in_ok-enter.ensures.framed ∙ keeps.framed in
    record {
      kept = c.in_ok-enter.ensures.ok start defs (roomy layout event) def kept distinct at (new-after full layout def c.in_ok-meta.meta is_new) (interned-after full layout event.stack c.args.stack.now h.interned);
      known = known ∙ h.known ∙ ap (λ (ss : List (List ℕ)). with_stack ss event.stack) (sym (flushed_if-stacks full layout));
      few =
          subst (λ (n : ℕ). AreFew c.enter.new.self.pending.stacks.known n) (sym framed)
          (subst (λ (ss : List (List ℕ)). AreFew ss c.args.self.now.pending.stacks.framed) (sym known) h.few);
    }
