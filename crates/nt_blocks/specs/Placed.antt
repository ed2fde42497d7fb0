-- The events of a body that keeps its bytes.
use Rattle.std.specs.Prelude.{ℕ, List, map, take, drop}
use Rattle.ep_defs.specs.declared.item.Item.{Item}
use Rattle.ep_defs.specs.declared.item.ItemKind.{ItemKind}
use Rattle.ep_defs.specs.declared.item.ItemKind.TheVariants as item
use Rattle.nt_head.specs.declared.head.HeadState.{HeadState}
use Rattle.nt_blocks.specs.declared.place.EventPlace.{EventPlace}
use Rattle.nt_blocks.specs.declared.event_body.EventBody.{EventBody}

-- The event that a header and a payload tell.
abbrev pub event_of : HeadState → List ℕ → ItemKind
event_of head payload =
    item.Event head.metadata head.number head.capture head.processor head.thread head.stack head.stamp head.activity head.related payload

-- The item of an event that stands there in these bytes of a body.
abbrev pub item_in : List ℕ → EventPlace → Item
item_in bytes event = record { at = event.at; kind = event_of event.head (take event.head.size (drop event.payload bytes)) }

-- The items of the events.
abbrev pub items_in : EventBody → List Item
items_in body = map (item_in body.bytes.items) body.events.items
