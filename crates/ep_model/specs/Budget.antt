-- How much of a session's chunks one thread has: the words for what is counted since the thread's last Steal.
use Rattle.std.specs.Prelude.{ℕ, ◌+◌, ◌*◌, Bool, ◌||◌, length, nat_lt, ◌==◌, if◌then◌else◌}
use Rattle.ep_defs.specs.declared.limits.TheConstants.{CHUNK_BYTES, FRAME_BYTES, RECORD_BYTES}
use Rattle.ep_defs.specs.declared.session.Write.{Write}

-- The bytes of a write's record: 68, 8 for each frame, and the payload (this project's profile).
abbrev pub record_size : Write → ℕ
record_size write = RECORD_BYTES + FRAME_BYTES * length write.frames + length write.payload

-- What a thread has of a session's chunks since the session's last Steal from it, or its Open there.
pub record Pending : Type 0 where
  -- how many chunks its records began
  pub chunks : ℕ
  -- the bytes of its records from the one that began the last of these chunks on
  pub used : ℕ

-- Nothing is pending.
abbrev pub no_pending : Pending
no_pending = record { chunks = 0; used = 0 }

-- A record of this size needs a chunk where nothing is pending, or where the last chunk lacks the room for it.
abbrev pub needs_chunk : Pending → ℕ → Bool
needs_chunk pending size = (pending.chunks == 0) || nat_lt CHUNK_BYTES (pending.used + size)

-- How many chunks a record of this size begins.
abbrev pub chunks_begun : Pending → ℕ → ℕ
chunks_begun pending size = if needs_chunk pending size then 1 else 0

-- What the thread has after a record of this size that is written: it begins the chunk that it needs.
abbrev pub pending_with : Pending → ℕ → Pending
pending_with pending size =
    if needs_chunk pending size
    then record { chunks = pending.chunks + 1; used = size }
    else record { chunks = pending.chunks; used = pending.used + size }
