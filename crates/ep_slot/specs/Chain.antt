-- What a chain of chunks holds (this project's profile).
use Rattle.std.specs.Prelude.{ℕ, ◌<◌, List, [], ◌∷◌, ◌++◌, length}
use Rattle.std.specs.List.{flat_map}
use Rattle.ep_chunk.specs.Record.{Record, total_size}
use Rattle.ep_model.specs.Budget.{Pending}

-- The records of all chunks, in their order.
abbrev pub records_of : List (List Record) → List Record
records_of chain = flat_map (λ chunk. chunk) chain

-- The bytes of the records in the last chunk.
abbrev pub last_size : List (List Record) → ℕ
last_size [] = 0
last_size (chunk ∷ []) = total_size chunk
last_size (chunk ∷ next ∷ chunks) = last_size (next ∷ chunks)

-- What the budget counts of a chain.
abbrev pub pending_of : List (List Record) → Pending
pending_of chain = record { chunks = length chain; used = last_size chain }

-- A record more in the last chunk.
abbrev pub with_last : List (List Record) → Record → List (List Record)
with_last [] r = []
with_last (chunk ∷ []) r = (chunk ++ r ∷ []) ∷ []
with_last (chunk ∷ next ∷ chunks) r = chunk ∷ with_last (next ∷ chunks) r

-- A chunk is pending only for a record.
abbrev pub HasRecords : List Record → Type 0
HasRecords chunk = 0 < length chunk
