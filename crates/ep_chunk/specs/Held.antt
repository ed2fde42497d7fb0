-- How a chunk's bytes give its records. Callers see the list of records alone.
use Rattle.std.specs.Prelude.{◌≡◌, ℕ, zero, suc, ◌+◌, ◌*◌, ◌≤◌, List, [], ◌∷◌, ◌++◌, length, take, drop, All}
use Rattle.std.specs.List.{flat_map}
use Rattle.byteorder.specs.Endian.{little_number}
use Rattle.ep_chunk.specs.declared.limits.TheConstants.{CHUNK_LEN}
use Rattle.ep_chunk.specs.Record.{Record, IsRecord, size_of, bytes_of}

-- This many numbers of eight bytes each.
abbrev pub numbers_in : ℕ → List ℕ → List ℕ
numbers_in zero bytes = []
numbers_in (suc more) bytes = little_number 8 bytes ∷ numbers_in more (drop 8 bytes)

-- The record with which these bytes begin.
unfoldable pub record_in : List ℕ → Record
record_in bytes =
    let count = little_number 4 (drop 12 bytes) in
    record {
      event = little_number 4 (drop 4 bytes);
      number = little_number 4 (drop 8 bytes);
      thread = little_number 8 (drop 20 bytes);
      stamp = little_number 8 (drop 28 bytes);
      activity = take 16 (drop 36 bytes);
      related = take 16 (drop 52 bytes);
      frames = numbers_in count (drop 68 bytes);
      payload = take (little_number 4 (drop 16 bytes)) (drop (68 + 8 * count) bytes);
    }

-- At most this many records, one after another.
abbrev pub records_within : ℕ → List ℕ → List Record
records_within zero bytes = []
records_within (suc more) [] = []
records_within (suc more) (b ∷ bytes) =
    record_in (b ∷ bytes) ∷ records_within more (drop (little_number 4 (b ∷ bytes)) (b ∷ bytes))

-- The records that stand in a chunk's bytes. There are fewer of them than bytes.
unfoldable pub records_in : List ℕ → List Record
records_in bytes = records_within (length bytes) bytes

-- What holds of a chunk's bytes, of which this many are reserved.
pub record IsHeld (bytes : List ℕ) (room : ℕ) : Type 0 where
  -- records and nothing else stand in them
  pub spelled : bytes ≡ flat_map bytes_of (records_in bytes)
  pub fitting : All IsRecord (records_in bytes)
  pub within : length bytes ≤ CHUNK_LEN
  pub reserved : CHUNK_LEN ≤ room

-- A record stands at the head of these bytes.
pub record HasRecord (bytes : List ℕ) : Type 0 where
  pub spelled : bytes ≡ bytes_of (record_in bytes) ++ drop (size_of (record_in bytes)) bytes
  pub fitting : IsRecord (record_in bytes)
