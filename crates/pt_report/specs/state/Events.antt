-- What is kept of the definitions.
use Rattle.std.specs.Prelude.{◌≡◌, ℕ, List, map, Some}
use Rattle.std.specs.Ordering.{nat_cmp}
use Rattle.std.specs.Cmp.Lexicographic.{slice_cmp}
use Rattle.std.specs.BTreeMap.{get}
use Rattle.ep_defs.specs.declared.event.EventDef.{EventDef}
use Rattle.nt_blocks.specs.Ordered.{lookup}
use Rattle.nt_check.specs.state.Ids.{value_at}
use Rattle.pt_report.specs.declared.events.EventPlaces.{EventPlaces}
use Rattle.pt_report.specs.declared.events.Events.{Events}
use Rattle.pt_report.specs.Keys.{key_of, key_order}
use Rattle.pt_report.specs.state.Counts.{Counts}

-- The provider of a definition.
abbrev pub provider_of : EventDef → List ℕ
provider_of def = def.provider

-- The id has the places of this definition's provider and event.
pub record IsPlaced (def : EventDef) (id : ℕ) (events : Events) : Type 0 where
  pub places : EventPlaces
  pub there : value_at events.metadata id ≡ Some places
  pub provider : get (slice_cmp nat_cmp) events.providers.places def.provider ≡ Some places.provider
  pub event : get key_order events.events.places (key_of def) ≡ Some places.event

-- These definitions were given, these ids stand for definitions, and the events were of these.
pub record ShowsEvents (defs uses : List EventDef) (named : List (ℕ × EventDef)) (events : Events) : Type 0 where
  pub found : (id : ℕ) (def : EventDef) → lookup id named ≡ Some def → IsPlaced def id events
  pub providers : Counts (slice_cmp nat_cmp) (map provider_of defs) (map provider_of uses) events.providers
  pub events_are : Counts key_order (map key_of defs) (map key_of uses) events.events
