-- What was placed is when and where the event was, its fields, and its end.
use Rattle.std.proofs.Common.{◌≡◌, List, ℕ, [], ◌++◌, drop, ap, ◌∙◌, sym, arith}
use Rattle.std.specs.Prelude.{codes}
use Rattle.std.proofs.lemmas.List.{drop_all}
use Rattle.ep_defs.specs.declared.event.EventDef.{EventDef}
use Rattle.pt_lines.specs.Chromium.{microseconds, nanoseconds}
use Rattle.pt_lines.specs.state.Opening.{opening}
use Rattle.pt_lines.specs.state.Pieces.{ids_of}
use Rattle.pt_lines.proofs.Entries.{placed-on}
use Rattle.pt_lines.proofs.Placing.{last-of, payload-ends}
use Rattle.pt_lines.proofs.chromium.line.place_event.Goals as goal

pub returns : goal.returns
returns c =
    let event = c.args.event.now in
    let end = c.place_word-end in
    let placed = c.in_ok-members.ensures.placed in
    let process = c.place_ids-process in
    let time = c.place_time in (
      omega (arith, time.ensures.before, process.ensures.before, placed.4, end.ensures.start),
      λ origin processor thread entry tells.
          let fields = c.fields.result.now in
          let payload = event.payload.now in
          let last : List ℕ = opening ++ (placed.1 ++ (codes "}" ++ codes "}}")) in
          let moment = microseconds (nanoseconds event.origin.frequency event.stamp) in
          let ids = ids_of event.origin.process event.thread event.number in
          let none : drop 256 c.args.text.now ≡ [] = drop_all 256 c.args.text.now (omega (arith, c.requires)) in
          let behind = placed.5 ∙ ap (λ (xs : List ℕ). placed.1 ++ xs) (end.ensures.written ∙ ap (λ (xs : List ℕ). codes "}}}" ++ xs) none) in
          let where_it_was = process.ensures.written ∙ ap (λ (xs : List ℕ). ids ++ (opening ++ xs)) behind in
          let all =
          time.ensures.written
          ∙ ap (λ (n : ℕ). codes ",\"ts\":" ++ (microseconds n ++ drop process.result process.new.text)) c.in_ok-nanos.ensures
          ∙ ap (λ (xs : List ℕ). codes ",\"ts\":" ++ (moment ++ xs)) where_it_was
          ∙ placed-on (codes ",\"ts\":") moment ids last in (
            last,
            last-of fields payload entry.def.fields entry.payload (codes "}}") last (c.fields.ensures ∙ ap (λ (def : EventDef). def.fields) tells.def) tells.payload
                (payload-ends fields payload (codes "}}") placed.0 placed.1 placed.2 placed.3),
            rw (sym tells.origin, sym tells.stamp, sym tells.thread, sym tells.number) all,
          ),
    )
