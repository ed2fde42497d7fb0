-- The words of a command whose one option is `--session`.
use Rattle.std.specs.Prelude.{ℕ, Bool, ◌&&◌, not, nat_eq, if◌then◌else◌, List, [], ◌∷◌, drop, length, codes, Option, Some, None}
use Rattle.std.specs.List.{list_any, starts_with}
use Rattle.std.specs.Str.{bytes_eq}
use Rattle.pt_words.specs.Words.{is_option}

-- The word is the option alone, whose text is the next word.
abbrev pub is_alone : List ℕ → Bool
is_alone word = bytes_eq word (codes "--session")

-- The word is the option with its text.
abbrev pub is_attached : List ℕ → Bool
is_attached word = starts_with nat_eq word (codes "--session=")

-- The text of such a word.
abbrev pub attached_text : List ℕ → List ℕ
attached_text word = drop (length (codes "--session=")) word

-- The word begins with `-` and is not the option.
abbrev pub is_foreign : List ℕ → Bool
is_foreign word = is_option word && (not (is_alone word) && not (is_attached word))

-- One of the words is.
abbrev pub has_foreign : List (List ℕ) → Bool
has_foreign words = list_any is_foreign words

-- No words have no text of the option. One word has it after `=`, two have it as the second, which begins with no `-`.
-- All others are refused.
abbrev pub session_in : List (List ℕ) → Option (Option (List ℕ))
session_in [] = Some None
session_in (word ∷ []) = if is_attached word then Some (Some (attached_text word)) else None
session_in (option ∷ text ∷ []) = if is_alone option && not (is_option text) then Some (Some text) else None
session_in words = None
