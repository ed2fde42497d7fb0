-- The members are the pieces that were put.
use Rattle.std.proofs.Common.{List, ℕ, ◌++◌, drop, ap, ◌∙◌, sym, arith}
use Rattle.std.specs.Prelude.{codes}
use Rattle.std.proofs.lemmas.List.{take_all, length-drop}
use Rattle.std.proofs.lemmas.Result.{on_ok_weaker}
use Rattle.pt_print.proofs.Numbers.{appended}
use Rattle.pt_lines.specs.Chromium.{microseconds, nanoseconds}
use Rattle.pt_lines.specs.state.Opening.{opening}
use Rattle.pt_lines.specs.state.Pieces.{ids_of}
use Rattle.pt_lines.proofs.Entries.{late-is, placed-on}
use Rattle.pt_lines.proofs.Steps.{then}
use Rattle.pt_lines.proofs.chromium.line.put_place.Goals as goal

pub returns-in_default : goal.returns-in_default
returns-in_default c = λ origin processor thread entry tells.
    let event = c.args.event.now in
    let first = c.place_ids-process in
    let time = microseconds (nanoseconds event.origin.frequency event.stamp) in
    let behind = first.ensures.written in
    let ids = ids_of event.origin.process event.thread event.number in
    rw (sym tells.origin, sym tells.stamp, sym tells.thread, sym tells.number)
    (on_ok_weaker c.extend_from_slice.result
    (λ e.
    then (ids ++ opening) (then (codes "\"ts\":" ++ time) c.in_ok-push.ensures.items c.in_ok-put_time.ensures) e
    ∙ late-is c.args.out.now.items (codes ",") (codes "\"ts\":") time ids opening)
    (appended c.extend_from_slice.result c.put_time.new.out.items _ _ (ids ++ opening) c.extend_from_slice.ensures.items
    (take_all _ (drop first.result first.new.text)
    (omega (arith, length-drop first.result first.new.text, first.ensures.len))
    ∙ behind)))

pub returns : goal.returns
returns c = λ origin processor thread entry tells.
    let event = c.args.event.now in
    let first = c.place_ids-process in
    let start = c.place_time-start in
    let time = microseconds (nanoseconds event.origin.frequency event.stamp) in
    let ids = ids_of event.origin.process event.thread event.number in
    let behind = first.ensures.written in
    rw (sym tells.origin, sym tells.stamp, sym tells.thread, sym tells.number)
    (appended c.extend_from_slice-2.result c.args.out.now.items _ _ ((codes ",\"ts\":" ++ (time ++ ids)) ++ opening) c.extend_from_slice-2.ensures.items
    (take_all _ (drop start.result start.new.text)
    (omega (arith, length-drop start.result start.new.text, start.ensures.len, first.ensures.len))
    ∙ start.ensures.written
    ∙ ap (λ (n : ℕ). codes ",\"ts\":" ++ (microseconds n ++ drop first.result first.new.text)) c.in-Some.ensures
    ∙ ap (λ (xs : List ℕ). codes ",\"ts\":" ++ (time ++ xs)) behind
    ∙ placed-on (codes ",\"ts\":") time ids opening))
