-- For private functions: where the events of a body stand.
use Rattle.std.specs.Prelude.{◌≡◌, ℕ, ◌+◌, ◌≤◌, List, All, length, map, Ok}
use Rattle.nt_object.specs.declared.object.BlockKind.TheVariants as block
use Rattle.nt_blocks.specs.declared.place.EventPlace.{EventPlace}
use Rattle.nt_blocks.specs.Placed.{item_in}
use Rattle.nt_blocks.specs.Refusals.{body_at}

-- The events of a body that stands at this offset are those of these places, and each payload ends in the body.
pub record Places (at : ℕ) (body : List ℕ) (events : List EventPlace) : Type 0 where
  pub read : body_at block.Event at body ≡ Ok (map (item_in body) events)
  pub within : All (λ event. event.payload + event.head.size ≤ length body) events
