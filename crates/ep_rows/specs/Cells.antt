-- What is open on a row, in the list of one session's slots (this project's profile).
use Rattle.std.specs.Prelude.{ℕ, zero, suc, ◌+◌, List, [], ◌∷◌, Option, None, Some, slice_index_or}
use Rattle.ep_rows.specs.declared.opened.Open.{Open}

-- What is open on a row. Rows are numbered from 1.
abbrev pub cell_at : List (Option Open) → ℕ → Option Open
cell_at cells zero = None
cell_at cells (suc place) = slice_index_or cells place None

-- How many chunks a slot has pending.
abbrev pub chunks_in : Option Open → ℕ
chunks_in None = 0
chunks_in (Some o) = o.slot.pending.chunks

-- How many all of them have.
abbrev pub pending_chunks : List (Option Open) → ℕ
pending_chunks [] = 0
pending_chunks (cell ∷ cells) = chunks_in cell + pending_chunks cells
