-- Where records stand in a chunk: one after another from place 0, with no byte between them (this project's profile).
use Rattle.std.specs.Prelude.{◌≡◌, ℕ, ◌+◌, ◌-◌, List, [], ◌∷◌, Option, None, Some, nat_le, ◌==◌, if◌then◌else◌}
use Rattle.ep_chunk.specs.Record.{Record, size_of, frame_bytes}
use Rattle.ep_chunk.specs.declared.rec.RecOut.{RecOut}

-- The records from a place on, where one begins there or the last one ends there.
abbrev pub records_at : List Record → ℕ → Option (List Record)
records_at [] place = if place == 0 then Some [] else None
records_at (r ∷ records) place =
    if place == 0
    then Some (r ∷ records)
    else (if nat_le (size_of r) place then records_at records (place - size_of r) else None)

-- A record that was read is this one. Of the frames it has the bytes.
pub record Tells (r : Record) (out : RecOut) : Type 0 where
  pub event : out.event ≡ r.event
  pub number : out.number ≡ r.number
  pub thread : out.thread ≡ r.thread
  pub stamp : out.stamp ≡ r.stamp
  pub activity : out.activity ≡ r.activity
  pub related : out.related ≡ r.related
  pub frames : out.frames.now ≡ frame_bytes r.frames
  pub payload : out.payload.now ≡ r.payload

-- A record that was read at a place is the one that begins there, and the others stand after it.
pub record TellsAt (records : List Record) (place : ℕ) (out : RecOut) : Type 0 where
  pub told : Record
  pub others : List Record
  pub parts : Tells told out
  pub here : records_at records place ≡ Some (told ∷ others)
  pub behind : records_at records out.next ≡ Some others
  pub next : out.next ≡ place + size_of told
