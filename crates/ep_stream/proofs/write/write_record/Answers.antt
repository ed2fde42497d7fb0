use Rattle.std.proofs.Common.{◌≡◌, ℕ, List, [], ◌∷◌, Some, refl, ap, sym, ◌∙◌, subst}
use Rattle.std.specs.Prelude.{if◌then◌else◌}
use Rattle.ep_defs.specs.Definitions.{definition_at}
use Rattle.ep_defs.specs.Entry.{Entry, Event}
use Rattle.nt_write.specs.declared.writer.EventOut.{EventOut}
use Rattle.nt_write.specs.Writer.{fault_of, entry_of as written_entry}
use Rattle.ep_stream.specs.Telling.{Tells, entry_of}
use Rattle.ep_stream.proofs.Telling.{tells_one, entry_is, definition_is, spent_with}
use Rattle.ep_stream.proofs.write.write_record.Goals as goal

pub returns-clause-writes : goal.returns-clause-writes
returns-clause-writes g c r of_record before info told telling =
    let events = c.args.events.now in
    let rec = c.args.rec.now in
    let def = c.index-events-rec.result in
    let out : EventOut = record { event = rec.event; thread = rec.thread; number = rec.number; stamp = rec.stamp; activity = rec.activity; related = rec.related; frames = c.stack.result; payload = rec.payload } in
    let defined : definition_at events rec.event ≡ Some def = definition_is events rec.event def c.requires.record.some c.requires.record.defined c.index-events-rec.is in
    let frames : out.frames.now ≡ (if c.args.stacks then _ else []) = c.stack.ensures ∙ ap (λ (f : List ℕ). if c.args.stacks then f else []) of_record.frames in
    let e : entry_of events c.args.stacks r ≡ Event (written_entry def out) ∷ [] =
    entry_is events c.args.stacks r def out (ap (definition_at events) (sym of_record.event) ∙ defined) of_record.thread of_record.number of_record.stamp of_record.activity of_record.related frames of_record.payload
    in
    subst (λ (es : List Entry). Tells g.S.Sink.tells_taken g.S.Sink.taken before (definition_at events) info told es c.event.result c.event.new.self) (sym e)
    (tells_one g.S.Sink.tells_taken g.S.Sink.taken before (definition_at events) info told (Event (written_entry def out)) c.args.writer.now c.event.new.self (fault_of c.args.writer.now) c.event.result refl telling
    (λ w. c.event.ensures.ok before (definition_at events) info told w c.requires.distinct defined)
    (λ w. c.event.ensures.part before (definition_at events) info told w c.requires.distinct defined)
    (λ w e. let long = (c.event.ensures.too_long before (definition_at events) info told w).0 e in spent_with told (written_entry def out) long.0 long.1)
    c.event.ensures.fails c.event.ensures.sound c.event.ensures.stays)
