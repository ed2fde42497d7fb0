-- What items say of a thread's numbers. In ordered items it is what their entries say.
use Rattle.std.specs.Prelude.{ℕ, List, [], ◌∷◌, filter, map, ◌==◌, if◌then◌else◌}
use Rattle.std.specs.List.{flat_map}
use Rattle.ep_defs.specs.declared.item.Item.{Item}
use Rattle.ep_defs.specs.declared.item.ItemKind.{ItemKind}
use Rattle.ep_defs.specs.declared.item.ItemKind.TheVariants as item
use Rattle.ep_defs.specs.Gaps.{Sighting, Seen, Known, missing, last_number}
use Rattle.nt_blocks.specs.Ordered.{kinds_of}

-- What an item says of a thread: an event of which it is the capture thread its number, a point its last numbers.
abbrev pub seen_in : ℕ → ItemKind → List Sighting
seen_in thread (item.Trace info) = []
seen_in thread (item.Meta id def) = []
seen_in thread (item.Stack id bytes) = []
seen_in thread (item.Event metadata number capture processor other stack stamp activity related payload) = if capture == thread then Seen number ∷ [] else []
seen_in thread (item.Point stamp threads) = map (λ t. Known t.1) (filter (λ t. t.0 == thread) threads)

-- What the items say of it, in order.
abbrev pub seen : ℕ → List Item → List Sighting
seen thread items = flat_map (seen_in thread) (kinds_of items)

-- How many of the thread's events are missing among the items.
abbrev pub item_gaps : ℕ → List Item → ℕ
item_gaps thread items = missing 0 (seen thread items)

-- The last number of the thread, 0 where no event of it is there and no point names it.
abbrev pub last_item_number : ℕ → List Item → ℕ
last_item_number thread items = last_number 0 (seen thread items)
