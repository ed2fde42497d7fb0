-- What an event brings to a layout, and the room for it.
use Rattle.std.specs.Prelude.{◌≡◌, ◌≢◌, ℕ, ◌+◌, ◌≤◌, ◌++◌, Bool, false, List, [], ◌∷◌, length, nat_lt, Option, Some, None, if◌then◌else◌}
use Rattle.ep_defs.specs.declared.event.EventDef.{EventDef}
use Rattle.ep_defs.specs.declared.limits.TheConstants.{PAYLOAD_BYTES}
use Rattle.ep_defs.specs.Event.{is_same_event}
use Rattle.ep_defs.specs.Entry.{EventEntry}
use Rattle.nt_head.specs.declared.limits.TheConstants.{HEAD_BYTES}
use Rattle.nt_meta.specs.Meta.{meta_payload, IsMeta}
use Rattle.nt_blocks.specs.declared.limits.TheConstants.{HEADER_BYTES, WRITTEN_BYTES}
use Rattle.nt_blocks.specs.Value.{Making}
use Rattle.nt_blocks.specs.Drafts.{Draft}
use Rattle.nt_stacks.specs.declared.interner.Interned.{Interned}
use Rattle.nt_stacks.specs.Stacks.{stack_id, with_stack}
use Rattle.nt_write.specs.Layout.{Layout, id_in, with_member, passes, needs_flush, flushed}

-- ---- layouts

-- The layout after a flush, where there is to be one.
abbrev pub flushed_if : Bool → Layout → Layout
flushed_if full layout = if full then flushed layout else layout

-- The layout with room for an event.
abbrev pub roomy : Layout → EventEntry → Layout
roomy layout event = flushed_if (needs_flush layout event) layout

-- The layout with a definition.
abbrev pub with_definition : Layout → EventDef → Layout
with_definition layout def =
    record layout { definitions = with_member is_same_event layout.definitions def }

-- The layout with a stack.
abbrev pub with_new_stack : Layout → List ℕ → Layout
with_new_stack layout stack =
    record layout { stacks = with_stack layout.stacks stack }

-- The layout with one event more that is not flushed.
abbrev pub with_draft : Layout → Draft → Layout
with_draft layout draft = record layout { events = layout.events ++ draft ∷ [] }

-- No more is flushed of the layout than there is.
pub record CanFlush (layout : Layout) : Type 0 where
  pub definitions : layout.definitions_flushed ≤ length layout.definitions
  pub stacks : layout.stacks_flushed ≤ length layout.stacks

-- ---- room

-- A body would pass its limit by this many bytes more, if any come.
abbrev pub passes_by : List ℕ → ℕ → Option ℕ → Bool
passes_by body head None = false
passes_by body head (Some size) = passes body (head + size)

-- The size, if there is one, is no more than this.
abbrev pub IsAtMost : ℕ → Option ℕ → Type 0
IsAtMost most None = Unit {0}
IsAtMost most (Some size) = size ≤ most

-- A body of blobs has room for one more with this many bytes of payload.
abbrev pub HasRoomFor : ℕ → Making → Type 0
HasRoomFor size making = HEADER_BYTES + length making.bytes + HEAD_BYTES + size ≤ WRITTEN_BYTES

-- ---- the payload of a definition

-- A payload of the definition, which a body can hold.
pub record IsDefining (def : EventDef) (payload : List ℕ) : Type 0 where
  pub id : ℕ
  pub meta : IsMeta id def payload
  pub short : length payload ≤ PAYLOAD_BYTES

-- The payload of a definition that is new, under the next id.
abbrev pub IsNew : List EventDef → EventDef → Option (List ℕ) → Type 0
IsNew definitions def None = id_in is_same_event def definitions ≢ 0
IsNew definitions def (Some payload) =
    (id_in is_same_event def definitions ≡ 0) × (payload ≡ meta_payload (length definitions + 1) def)

-- ---- the stack of an event

-- The id of the stack, once it is one of them, and whether it was none of them.
pub record IsInterned (stacks : List (List ℕ)) (frames : List ℕ) (stack : Interned) : Type 0 where
  pub id : stack.id ≡ stack_id (with_stack stacks frames) frames
  pub is_new : stack.is_new ≡ nat_lt (length stacks) (length (with_stack stacks frames))
