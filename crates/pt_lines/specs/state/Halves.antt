-- The text of sixteen bytes as a UUID, by halves.
use Rattle.std.specs.Prelude.{ℕ, ◌/◌, ◌%◌, List, [], ◌∷◌, slice_index}
use Rattle.pt_print.specs.Printed.{hex_digit}

-- Its first three parts, of which each has its low byte first.
abbrev pub front_digits : List ℕ → List ℕ
front_digits bytes =
    hex_digit (slice_index bytes 3 / 16) ∷ hex_digit (slice_index bytes 3 % 16) ∷ hex_digit (slice_index bytes 2 / 16) ∷ hex_digit (slice_index bytes 2 % 16) ∷ hex_digit (slice_index bytes 1 / 16) ∷ hex_digit (slice_index bytes 1 % 16) ∷ hex_digit (slice_index bytes 0 / 16) ∷ hex_digit (slice_index bytes 0 % 16) ∷ 45 ∷ hex_digit (slice_index bytes 5 / 16) ∷ hex_digit (slice_index bytes 5 % 16) ∷ hex_digit (slice_index bytes 4 / 16) ∷ hex_digit (slice_index bytes 4 % 16) ∷ 45 ∷ hex_digit (slice_index bytes 7 / 16) ∷ hex_digit (slice_index bytes 7 % 16) ∷ hex_digit (slice_index bytes 6 / 16) ∷ hex_digit (slice_index bytes 6 % 16) ∷ []

-- Its other parts, and the hyphens before them.
abbrev pub back_digits : List ℕ → List ℕ
back_digits bytes =
    45 ∷ hex_digit (slice_index bytes 8 / 16) ∷ hex_digit (slice_index bytes 8 % 16) ∷ hex_digit (slice_index bytes 9 / 16) ∷ hex_digit (slice_index bytes 9 % 16) ∷ 45 ∷ hex_digit (slice_index bytes 10 / 16) ∷ hex_digit (slice_index bytes 10 % 16) ∷ hex_digit (slice_index bytes 11 / 16) ∷ hex_digit (slice_index bytes 11 % 16) ∷ hex_digit (slice_index bytes 12 / 16) ∷ hex_digit (slice_index bytes 12 % 16) ∷ hex_digit (slice_index bytes 13 / 16) ∷ hex_digit (slice_index bytes 13 % 16) ∷ hex_digit (slice_index bytes 14 / 16) ∷ hex_digit (slice_index bytes 14 % 16) ∷ hex_digit (slice_index bytes 15 / 16) ∷ hex_digit (slice_index bytes 15 % 16) ∷ []
