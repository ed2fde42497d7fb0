use Rattle.std.proofs.Common.{rules, tests, ◌≡◌, Some, ◌-◌, slice_get, sym, ◌∙◌}
use Rattle.std.proofs.lemmas.Iterator.Adapters.{YieldsList-from_vec}
use Rattle.std.proofs.lemmas.Iterator.Consumers.{YieldsList-end}
use Rattle.std.proofs.lemmas.List.{map-id}
use Rattle.ep_journal.specs.declared.limits.TheConstants.{CONNECTIONS}
use Rattle.ep_registry.proofs.Tied.{shown-known}
use Rattle.ep_registry.proofs.Things.{nobody-has, none-more}
use Rattle.ep_registry.proofs.registry.meet_waiting.Goals as goal

pub unreachable-requires : goal.unreachable-requires
unreachable-requires g c =
    let hold = c.open-holder.result.0 in
    let shown : slice_get c.args.holds.now (CONNECTIONS - hold.id) ≡ Some (Some (Some hold)) = rw (← c.loop-place.invariant.0) c.meet.ensures.equal in
    let known = shown-known c.args.holds.now c.args.journal.now.sessions hold c.requires.held c.meet.ensures.known.0 c.meet.ensures.known.1 shown in
    nobody-has c.args.journal.now.sessions hold c.requires.none known c.meet.ensures.on

pub loop-place-preserved : goal.loop-place-preserved
loop-place-preserved g c = (c.loop-place.invariant.0, none-more c.loop-place.yielded c.in-Some.place c.loop-place.invariant.1 (search (rules, tests)))

pub returns : goal.returns
returns g c =
    let gives = c.into_iter-place-iterator.ensures.into_iter_gives in
    let items = c.into_places-place-items.result in
    let ends = YieldsList-end (YieldsList-from_vec {s = c.into_iter-place-iterator.result} items.items gives.0 (gives.1 ∙ items.ok.0)) c.loop-place.yielded c.loop-place.place-iterator c.loop-place.yielded_by c.next.result c.next.new.self c.in-None.is c.next.ensures.steps in
    let whole : c.loop-place.yielded ≡ c.args.waiting = sym (map-id c.loop-place.yielded) ∙ ends.0 ∙ c.into_places-place-items.ensures in
    rw (← whole) c.loop-place.invariant.1
