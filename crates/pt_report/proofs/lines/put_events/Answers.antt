use Rattle.std.proofs.Common.{◌≡◌, ℕ, List, [], ◌∷◌, ◌++◌, sym, ap, ◌∙◌, append_assoc}
use Rattle.std.proofs.lemmas.List.{append-nil}
use Rattle.std.proofs.lemmas.Map.Iter.{rest_all, rest_more}
use Rattle.std.specs.Map.Iter.{deref}
use Rattle.std.specs.List.{flat_map}
use Rattle.pt_report.specs.declared.key.EventKey.{EventKey}
use Rattle.pt_report.specs.Keys.{key_order}
use Rattle.pt_report.specs.Order.{uses_of}
use Rattle.pt_report.specs.Report.{event_line}
use Rattle.pt_report.proofs.lines.put_events.Goals as goal

pub loop-event-preserved : goal.loop-event-preserved
loop-event-preserved c = λ names uses h.
    let lines : EventKey → List ℕ = λ (key : EventKey). event_line key (uses_of key_order uses key) in
    let rest : c.loop-event.event-iterator ≡ c.in-Some.event.now ∷ c.next.new.self = rest_more deref _ _ _ _ c.in-Some.is c.next.ensures.steps in
    let put : event_line c.in-Some.event.now c.uses.result ≡ lines c.in-Some.event.now = ap (event_line c.in-Some.event.now) (c.uses.ensures names uses h) in
    ap (λ (out : List ℕ). out ++ flat_map lines c.next.new.self) (c.in_ok-put_event.ensures ∙ ap (λ (l : List ℕ). c.loop-event.out.items ++ l) put)
    ∙ append_assoc c.loop-event.out.items (lines c.in-Some.event.now) (flat_map lines c.next.new.self)
    ∙ ap (λ (left : List (EventKey)). c.loop-event.out.items ++ flat_map lines left) (sym rest)
    ∙ c.loop-event.invariant names uses h

pub returns : goal.returns
returns c = λ names uses h.
    let lines : EventKey → List ℕ = λ (key : EventKey). event_line key (uses_of key_order uses key) in
    let none : c.loop-event.event-iterator ≡ [] = rest_all deref _ _ _ c.in-None.is c.next.ensures.steps in
    sym (append-nil c.loop-event.out.items)
    ∙ ap (λ (left : List (EventKey)). c.loop-event.out.items ++ flat_map lines left) (sym none)
    ∙ c.loop-event.invariant names uses h
    ∙ ap (λ (keys : List (EventKey)). c.args.out.now.items ++ flat_map lines keys) h.ordered
