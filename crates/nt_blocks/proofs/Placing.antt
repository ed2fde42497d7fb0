-- Where events stand, one after another.
use Rattle.std.proofs.Common.{◌≡◌, ℕ, ◌+◌, ◌<◌, ◌≤◌, Ok, List, [], ◌∷◌, ◌++◌, length, map, take, drop, refl, sym, ap, ◌∙◌, subst, arith, length-drop}
use Rattle.std.specs.Prelude.{All}
use Rattle.std.proofs.lemmas.List.{drop-drop, map-append}
use Rattle.std.proofs.lemmas.List.Elements.{All-nil, All-push}
use Rattle.ep_defs.specs.declared.item.Item.{Item}
use Rattle.nt_object.specs.declared.object.BlockKind.TheVariants as block
use Rattle.nt_head.specs.declared.head.HeadState.{HeadState}
use Rattle.nt_head.specs.Head.{zero_state}
use Rattle.nt_blocks.specs.declared.place.EventPlace.{EventPlace}
use Rattle.nt_blocks.specs.declared.take.BodyFault.{BodyFault}
use Rattle.nt_blocks.specs.Placed.{event_of, item_in}
use Rattle.nt_blocks.specs.Refusals.{blob_at, blob_body_at, header_at}
use Rattle.nt_blocks.specs.Taking.{IsFault}
use Rattle.nt_blocks.specs.state.Places.{Places}
use Rattle.nt_blocks.specs.state.Taken.{ReadsHead}
use Rattle.nt_blocks.proofs.TakeBlobs.{Going, blob_found, going_end, going_start, going_step, going_stop}

-- The events in front of this place stand there, and reading goes on here.
pub record Placing (at : ℕ) (body : List ℕ) (here : ℕ) (before : HeadState) (events : List EventPlace) : Type 0 where
  pub going : Going block.Event at body [] here before (drop here body) (map (item_in body) events)
  pub within : All (λ event. event.payload + event.head.size ≤ length body) events

pub placing_start : (at size : ℕ) (body : List ℕ) (events : List EventPlace) → events ≡ [] → header_at at body ≡ Ok size → size ≤ length body → Placing at body size zero_state events
placing_start at size body events none headed within =
    subst (λ (all : List EventPlace). Placing at body size zero_state all) (sym none)
    (record {
      going = going_start block.Event at size body [] headed within;
      within = All-nil (λ (event : EventPlace). event.payload + event.head.size ≤ length body);
    })

pub placing_step : (at here used : ℕ) (body : List ℕ) (events new : List EventPlace) (before head : HeadState) → Placing at body here before events → here < length body → ReadsHead block.Event before (drop here body) head used → new ≡ events ++ record { at = at + here; head = head; payload = here + used } ∷ [] → Placing at body (here + (used + head.size)) head new
placing_step at here used body events new before head placing some reads e =
    let rest : List ℕ = drop here body in
    let event : EventPlace = record { at = at + here; head = head; payload = here + used } in
    let item : Item = item_in body event in
    let payload : take head.size (drop used rest) ≡ take head.size (drop (here + used) body) = ap (take head.size) (drop-drop used here body) in
    let held = ap (event_of head) payload in
    let next = going_step block.Event at here body [] (map (item_in body) events) (map (item_in body) events ++ item ∷ []) before rest (record { kind = item.kind; head = head; used = used + head.size }) placing.going (omega (arith, length-drop here body))
    (record {
      some = omega (arith, reads.some);
      within = reads.within;
      read = blob_found block.Event at here used before head rest item.kind reads (λ place. ap (λ k. Ok k) held);
    })
    refl in
    let all : map (item_in body) new ≡ map (item_in body) events ++ item ∷ [] = ap (map (item_in body)) e ∙ map-append (item_in body) events (event ∷ []) in
    record {
      going = rw (all, sym (drop-drop (used + head.size) here body)) next;
      within = subst (λ (es : List EventPlace). All (λ place. place.payload + place.head.size ≤ length body) es) (sym e)
          (All-push (λ (place : EventPlace). place.payload + place.head.size ≤ length body) events event placing.within (omega (arith, reads.within, length-drop here body, some)));
    }

pub placing_end : (at here : ℕ) (body : List ℕ) (before : HeadState) (events : List EventPlace) → Placing at body here before events → length body ≤ here → Places at body events
placing_end at here body before events placing none =
    let all = going_end block.Event at here body [] (map (item_in body) events) before (drop here body) placing.going (omega (arith, length-drop here body)) in
    record {
      read = all.reads ∙ ap (λ (items : List Item). Ok items) (sym all.added);
      within = placing.within;
    }

pub placing_stop : (at here : ℕ) (body : List ℕ) (before : HeadState) (events : List EventPlace) (why : BodyFault) → Placing at body here before events → here < length body → IsFault (blob_at block.Event (record { at = at + here; before = before }) (drop here body)) at why → IsFault (blob_body_at block.Event at body) at why
placing_stop at here body before events why placing some stops =
    going_stop block.Event at here body [] (map (item_in body) events) before (drop here body) why placing.going (omega (arith, length-drop here body)) stops
