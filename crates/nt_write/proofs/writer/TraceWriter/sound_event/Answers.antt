use Rattle.std.proofs.Common.{◌++◌, refl, ◌∙◌}
use Rattle.nt_object.specs.Stream.{stream_start, blocks_bytes}
use Rattle.ep_defs.specs.Entry.{Event}
use Rattle.nt_write.specs.Layout.{empty_layout, with_entries}
use Rattle.nt_write.specs.Arriving.{roomy}
use Rattle.nt_write.specs.Writer.{entry_of}
use Rattle.nt_write.proofs.Prefixes.{prefix-same}
use Rattle.nt_write.proofs.Entries.{writing-more, writing-canonical-more, part-more}
use Rattle.nt_write.proofs.writer.TraceWriter.sound_event.Goals as goal

pub returns-in-Ok-clause-ok : goal.returns-in-Ok-clause-ok
returns-in-Ok-clause-ok g c before defs info entries h distinct at =
    let tells = g.S.Sink.tells_taken in
    let taken = g.S.Sink.taken in
    let entry = Event (entry_of c.args.def.now c.args.out.now) in
    let new = c.take_event.new.self in
    let next = c.in-Ok.ensures.ok (before ++ stream_start info) defs (with_entries empty_layout entries) h.at distinct at in
    writing-more tells taken before defs info entries entry c.args.self.now new new h (c.take_event.ensures.fault ∙ c.requires.sound) c.note_ranges.ensures c.in-Ok.ensures.framed next refl refl refl

pub returns-in-Err-clause-part : goal.returns-in-Err-clause-part
returns-in-Err-clause-part g c before defs info entries h distinct at =
    let tells = g.S.Sink.tells_taken in
    let taken = g.S.Sink.taken in
    let event = entry_of c.args.def.now c.args.out.now in
    let layout = with_entries empty_layout entries in
    let bytes = blocks_bytes (roomy layout event).blocks in
    part-more tells taken before info entries (Event event) bytes c.take_event.new.self.output.sink
    (writing-canonical-more tells taken before defs info entries (Event event) c.args.self.now h c.note_ranges.ensures) (prefix-same bytes)
    (c.in-Err.ensures.part (before ++ stream_start info) defs layout h.at distinct at)
