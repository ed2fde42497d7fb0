use Rattle.std.proofs.Common.{◌≡◌, ◌+◌, List, [], ◌∷◌, ◌++◌, get_or, take, sym, ap, ◌∙◌, subst, add-one, append_assoc, arith}
use Rattle.std.proofs.lemmas.List.{take_all}
use Rattle.ep_defs.specs.declared.item.Item.{Item}
use Rattle.nt_names.specs.declared.take.EventAt.{EventAt}
use Rattle.nt_names.specs.Told.{item_of}
use Rattle.pt_report.specs.state.Read.{IsChecked}
use Rattle.pt_report.proofs.Told.{events-many, events-next}
use Rattle.pt_report.proofs.reading.check_events.Goals as goal

pub loop-event-preserved : goal.loop-event-preserved
loop-event-preserved c = λ before items are checked.
    let events = c.args.events.now in
    let count = c.loop-event.event-index in
    let nothing : EventAt = record { at = 0; names = record { metadata = 0; number = 0; capture = 0; stack = 0 } } in
    let next = events-next events items count nothing are c.loop-event-test.true in
    let item : Item = item_of (get_or events count nothing) next.0 in
    let more : take (count + 1) items ≡ take count items ++ item ∷ [] = rw add-one next.1 in
    let all : before ++ take (count + 1) items ≡ (before ++ take count items) ++ item ∷ [] =
    ap (λ (last : List Item). before ++ last) more ∙ sym (append_assoc before (take count items) (item ∷ [])) in
    subst (λ (given : List Item). IsChecked given c.check_event.new.report c.check_event.new.misplaced) (sym all) (c.in_ok-check_event.ensures (before ++ take count items) next.0 (c.loop-event.invariant before items are checked))

pub returns : goal.returns
returns c = λ before items are checked.
    subst (λ (given : List Item). IsChecked (before ++ given) c.loop-event.report c.loop-event.misplaced) (take_all c.loop-event.event-index items (omega (arith, c.loop-event-test.false, events-many c.args.events.now items are))) (c.loop-event.invariant before items are checked)
