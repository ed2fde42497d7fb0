-- Which entries can be written: the format's ranges (the NetTrace format document of PerfView (version 4)), and the
-- bounds of this project's profile.
use Rattle.std.specs.Prelude.{◌≡◌, ℕ, ◌%◌, ◌^◌, ◌<◌, ◌≤◌, List, [], ◌∷◌, length, fold}
use Rattle.std.specs.List.{AllByRecursion}
use Rattle.ep_defs.specs.declared.limits.TheConstants.{FRAME_BYTES, PAYLOAD_BYTES}
use Rattle.ep_defs.specs.declared.event.EventDef.{EventDef}
use Rattle.ep_defs.specs.Entry.{Entry, Event, Point, EventEntry, PointEntry}
use Rattle.ep_defs.specs.Ranges.{AreBytes, IsId}
use Rattle.nt_meta.specs.Meta.{meta_payload, FitsPayload}
use Rattle.nt_blocks.specs.declared.limits.TheConstants.{POINT_THREADS}
use Rattle.nt_write.specs.declared.limits.TheConstants.{STACK_BYTES}
use Rattle.nt_write.specs.Layout.{Layout, with_entry}
use Rattle.nt_write.specs.Value.{framed_with}

-- A definition whose payload fits a body.
pub record CanDefine (def : EventDef) : Type 0 where
  pub fits : FitsPayload def
  pub short : (id : ℕ) → length (meta_payload id def) ≤ PAYLOAD_BYTES

-- At most 100 frames of 8 bytes each.
pub record IsStack (stack : List ℕ) : Type 0 where
  pub short : length stack ≤ STACK_BYTES
  pub whole : length stack % FRAME_BYTES ≡ 0
  pub bytes : AreBytes stack

-- An event with such a stack and at most 60,000 bytes of payload.
pub record CanWrite (e : EventEntry) : Type 0 where
  pub thread : e.thread < 2 ^ 64
  pub number : e.number < 2 ^ 32
  pub stamp : e.stamp < 2 ^ 64
  pub activity : IsId e.activity
  pub related : IsId e.related
  pub stack : IsStack e.stack
  pub short : length e.payload ≤ PAYLOAD_BYTES
  pub payload : AreBytes e.payload
  pub def : CanDefine e.def

-- A point can be written: its numbers fit, and it does not name too many threads.
pub record CanPoint (p : PointEntry) : Type 0 where
  pub stamp : p.stamp < 2 ^ 64
  pub few : length p.threads ≤ POINT_THREADS
  pub fit : AllByRecursion (λ thread. (thread.0 < 2 ^ 64) × (thread.1 < 2 ^ 32)) p.threads

-- An entry can be written.
abbrev pub CanTell : Entry → Type 0
CanTell (Event e) = CanWrite e
CanTell (Point p) = CanPoint p

-- While these entries are laid out, the ids of the stacks since each point fit (the NetTrace format document of
-- PerfView (version 4): signed numbers of 32 bits).
abbrev pub StacksFit : Layout → List Entry → Type 0
StacksFit layout [] = Unit {0}
StacksFit layout (entry ∷ entries) =
    (length (with_entry layout entry).stacks < 2 ^ 31) × StacksFit (with_entry layout entry) entries

-- How many events with a stack there are since the last point, with those before the entry.
abbrev pub framed_after : ℕ → Entry → ℕ
framed_after before (Event e) = framed_with before e.stack
framed_after before (Point p) = 0

-- How many events with a stack there are since the last point.
abbrev pub framed : List Entry → ℕ
framed entries = fold framed_after 0 entries
