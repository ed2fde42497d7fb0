use Rattle.std.proofs.Common.{◌≡◌, ℕ, List, Ok, map, ap, ◌∙◌, sym}
use Rattle.std.proofs.lemmas.Result.{on_ok_weaker}
use Rattle.nt_blocks.specs.Placed.{item_in}
use Rattle.nt_blocks.proofs.event_body.EventBody.take.Goals as goal

pub returns-else-is_err-clause-ok : goal.returns-else-is_err-clause-ok
returns-else-is_err-clause-ok c =
    let events = c.place_events-placed.new.events.items in
    let bytes : c.extend_from_slice.new.self.items ≡ c.args.body.now = rw c.clear-2.ensures.items at c.in_ok-extend_from_slice.ensures.items in
    on_ok_weaker c.place_events-placed.result
    (λ places. places.read ∙ ap (λ (kept : List ℕ). Ok (map (item_in kept) events)) (sym bytes))
    c.place_events-placed.ensures.ok
