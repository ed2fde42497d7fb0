-- One event more, with this header.
use Rattle.std.proofs.Common.{◌≡◌, refl, sym}
use Rattle.std.specs.List.{flat_map}
use Rattle.ep_defs.specs.Entry.{EventEntry}
use Rattle.nt_blocks.specs.Ordered.{no_names}
use Rattle.nt_blocks.specs.Placed.{event_of}
use Rattle.nt_check.specs.Faults.{disorder_of}
use Rattle.nt_check.specs.state.Took.{names_at}
use Rattle.pt_events.specs.Lines.{sighted, unsaid}
use Rattle.pt_events.specs.state.Known.{IsFound}
use Rattle.pt_events.specs.state.Listed.{origin_at}
use Rattle.pt_events.proofs.Items.{listed-kind, refused-kind, event-lines, found-told, passed-fault}
use Rattle.pt_events.proofs.listing.Listing.event.Goals as goal

pub returns-in_err-def-clause-refused : goal.returns-in_err-def-clause-refused
returns-in_err-def-clause-refused c = λ kinds had fault is.
    let e = c.args.head.now in
    let payload = c.args.payload.now in
    let unknown = c.in_err-def.ensures (names_at no_names kinds) had.names in
    let same : unknown.0 ≡ fault = passed-fault c.from_residual.result c.in_err-def.field-0.0 unknown.0 fault c.from_residual.ensures.1 unknown.1 is in
    rw (sym same)
    (refused-kind kinds (event_of e payload) c.args.self.now (disorder_of unknown.0) had (unknown.2 e.number e.capture e.processor e.thread e.stamp e.activity e.related payload))

pub returns-clause-listed : goal.returns-clause-listed
returns-clause-listed c = λ kinds had.
    let e = c.args.head.now in
    let payload = c.args.payload.now in
    let names = names_at no_names kinds in
    let found = c.in_ok-def.ensures names had.names in
    listed-kind kinds (event_of e payload) c.args.self.now _ had
    (found-told names e.metadata e.number e.capture e.processor e.thread e.stack e.stamp e.activity e.related payload _ _ found)
    had.names (c.in_ok-put_all.ensures.seen (flat_map sighted kinds) had.lasts) refl

pub returns-clause-lines : goal.returns-clause-lines
returns-clause-lines c = λ kinds had.
    let e = c.args.head.now in
    let payload = c.args.payload.now in
    let names = names_at no_names kinds in
    let past = flat_map sighted kinds in
    let def = c.in_ok-def.def.now in
    let bytes = c.in_ok-def.stack.now in
    let found : IsFound names e.metadata e.stack def bytes = rw (c.in_ok-def.def-is, c.in_ok-def.stack-is) (c.in_ok-def.ensures names had.names) in
    let entry : EventEntry = record { thread = e.capture; number = e.number; stamp = e.stamp; def = def; activity = e.activity; related = e.related; stack = bytes; payload = payload } in
    event-lines c.args.form names past (origin_at unsaid kinds) e.metadata e.number e.capture e.processor e.thread e.stack e.stamp e.activity e.related payload def bytes c.args.out.now.items c.put_all.new.out.items found
    (c.in_ok-put_all.ensures.lines past had.lasts (origin_at unsaid kinds) e.processor e.thread entry
    (record {
      origin = had.origin;
      processor = refl;
      thread_id = refl;
      stamp = refl;
      thread = refl;
      number = refl;
      def = refl;
      activity = refl;
      related = refl;
      stack = refl;
      payload = refl;
    }))
