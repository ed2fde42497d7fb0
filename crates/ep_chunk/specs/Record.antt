-- What a record is, and the bytes that it takes in a chunk (this project's profile).
use Rattle.std.specs.Prelude.{◌≡◌, ℕ, ◌+◌, ◌*◌, ◌^◌, ◌<◌, List, [], ◌∷◌, ◌++◌, length, All}
use Rattle.std.specs.List.{flat_map}
use Rattle.byteorder.specs.Endian.{little_bytes}
use Rattle.ep_chunk.specs.declared.limits.TheConstants.{HEAD_LEN, FRAME_LEN}
use Rattle.ep_chunk.specs.declared.rec.RecIn.{RecIn}

-- A write as it is kept until a session's stream takes it.
pub record Record : Type 0 where
  -- the number of the event's definition
  pub event : ℕ
  -- the write's number among those of its thread that the session admits
  pub number : ℕ
  pub thread : ℕ
  pub stamp : ℕ
  pub activity : List ℕ
  pub related : List ℕ
  pub frames : List ℕ
  pub payload : List ℕ

-- The record that is to be appended.
abbrev pub record_of : RecIn → Record
record_of rec =
    record {
      event = rec.event;
      number = rec.number;
      thread = rec.thread;
      stamp = rec.stamp;
      activity = rec.activity;
      related = rec.related;
      frames = rec.frames.now;
      payload = rec.payload.now;
    }

-- The bytes of a record: 68, 8 for each frame, and the payload.
abbrev pub size_of : Record → ℕ
size_of r = HEAD_LEN + FRAME_LEN * length r.frames + length r.payload

-- The bytes of all records together.
abbrev pub total_size : List Record → ℕ
total_size [] = 0
total_size (r ∷ records) = size_of r + total_size records

-- Frames are addresses of 64 bits.
abbrev pub AreFrames : List ℕ → Type 0
AreFrames frames = All (λ frame. frame < 2 ^ 64) frames

-- The parts of a record fit the fields in which they are written.
pub record IsRecord (r : Record) : Type 0 where
  pub event : r.event < 2 ^ 32
  pub number : r.number < 2 ^ 32
  pub thread : r.thread < 2 ^ 64
  pub stamp : r.stamp < 2 ^ 64
  pub activity : length r.activity ≡ 16
  pub related : length r.related ≡ 16
  pub frames : AreFrames r.frames
  pub size : size_of r < 2 ^ 32

-- The frames, eight bytes each, the low byte first.
abbrev pub frame_bytes : List ℕ → List ℕ
frame_bytes frames = flat_map (little_bytes 8) frames

-- What stands before the frames. Numbers have their low byte first.
unfoldable pub head_bytes : Record → List ℕ
head_bytes r =
    little_bytes 4 (size_of r)
    ++ little_bytes 4 r.event
    ++ little_bytes 4 r.number
    ++ little_bytes 4 (length r.frames)
    ++ little_bytes 4 (length r.payload)
    ++ little_bytes 8 r.thread
    ++ little_bytes 8 r.stamp
    ++ r.activity
    ++ r.related

-- The bytes of a record, in the order in which they stand.
abbrev pub bytes_of : Record → List ℕ
bytes_of r = head_bytes r ++ (frame_bytes r.frames ++ r.payload)
