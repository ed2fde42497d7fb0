-- What a listing stands for.
use Rattle.std.specs.Prelude.{◌≡◌, ℕ, List, [], ◌∷◌, ◌++◌, IsOk, OnOk, Result}
use Rattle.std.specs.List.{flat_map}
use Rattle.ep_defs.specs.declared.item.ItemKind.{ItemKind}
use Rattle.nt_blocks.specs.Ordered.{no_names, told_after}
use Rattle.nt_check.specs.state.Took.{names_at}
use Rattle.pt_events.specs.declared.listing.Listing.{Listing}
use Rattle.ep_defs.specs.Entry.{EventEntry}
use Rattle.ep_defs.specs.Gaps.{Sighting, Seen}
use Rattle.pt_lines.specs.declared.line.EventLine.{EventLine}
use Rattle.pt_lines.specs.declared.origin.Origin.{Origin}
use Rattle.pt_lines.specs.Line.{Line, Event, lost_if}
use Rattle.pt_events.specs.Lines.{sighted, last_of, left_out, origin_after, unsaid, item_lines}
use Rattle.pt_lines.specs.declared.form.Form.{Form}
use Rattle.pt_lines.specs.Forms.{AreLines}
use Rattle.pt_lines.specs.Appends.{Appends, Tells}
use Rattle.pt_events.specs.state.Known.{Knows, HasSeen}

-- What a stream has said of the program after items.
abbrev pub origin_at : Origin → List ItemKind → Origin
origin_at origin [] = origin
origin_at origin (kind ∷ kinds) = origin_at (origin_after origin kind) kinds

-- These items were listed, in this order.
pub record HasListed (kinds : List ItemKind) (listing : Listing) : Type 0 where
  pub ordered : IsOk (told_after no_names kinds)
  pub names : Knows (names_at no_names kinds) listing.names
  pub lasts : HasSeen (flat_map sighted kinds) listing.lasts
  pub origin : listing.origin ≡ origin_at unsaid kinds

-- The lines of one item more were put, in this form.
abbrev pub ListsOne : Form → List ItemKind → ItemKind → List ℕ → List ℕ → Type 0
ListsOne form kinds kind old new = Appends (AreLines form (item_lines (names_at no_names kinds) (flat_map sighted kinds) (origin_at unsaid kinds) kind)) old new

-- The lines of an event after these numbers: of what is lost before it, and its own.
abbrev pub event_lines : List (ℕ × Sighting) → Origin → ℕ → ℕ → EventEntry → List Line
event_lines past origin processor thread event =
    lost_if origin event.stamp event.thread (left_out (last_of event.thread past) (Seen event.number)) ++ Event origin processor thread event ∷ []

-- Those lines were put, in this form, of each event that this says, unless the answer is an error.
abbrev pub ListsEvent : {A E : Type 0} → Form → List (ℕ × Sighting) → EventLine → Result A E → List ℕ → List ℕ → Type 0
ListsEvent form past line answer old new =
    (origin : Origin) (processor thread : ℕ) (entry : EventEntry)
    → Tells line origin processor thread entry
    → OnOk answer (Appends (AreLines form (event_lines past origin processor thread entry)) old new)
