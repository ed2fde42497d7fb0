-- Words that are positions and options with texts.
use Rattle.std.specs.Prelude.{ℕ, ◌+◌, Bool, ◌&&◌, ◌||◌, not, nat_eq, if◌then◌else◌, List, [], ◌∷◌, ◌++◌, drop, find, filter, length, map, Option, Some, None, option_map}
use Rattle.std.specs.List.{list_any, starts_with}
use Rattle.std.specs.Str.{bytes_eq}
use Rattle.pt_words.specs.Words.{is_option}

-- The word is this option alone, whose text is the next word.
abbrev pub is_alone : List ℕ → List ℕ → Bool
is_alone word option = bytes_eq word option

-- The word is this option with its text, after `=`, which is 61.
abbrev pub is_attached : List ℕ → List ℕ → Bool
is_attached word option = starts_with nat_eq word (option ++ 61 ∷ [])

-- The text of such a word.
abbrev pub attached_text : List ℕ → List ℕ → List ℕ
attached_text word option = drop (length option + 1) word

-- The word is one of the options, alone or with its text.
abbrev pub is_known : List (List ℕ) → List ℕ → Bool
is_known options word = list_any (λ option. is_alone word option || is_attached word option) options

-- The word begins with `-` and is none of the options.
abbrev pub is_foreign : List (List ℕ) → List ℕ → Bool
is_foreign options word = is_option word && not (is_known options word)

-- One of the words is.
abbrev pub has_foreign : List (List ℕ) → List (List ℕ) → Bool
has_foreign options words = list_any (is_foreign options) words

-- ---- what words hold

-- The texts of the positions, and of the options each with its option, in the order of the words.
pub record Told : Type 0 where
  pub positions : List (List ℕ)
  pub options : List (List ℕ × List ℕ)

-- No word was read.
abbrev pub nothing : Told
nothing = record { positions = []; options = [] }

-- One more position, in front of the others.
abbrev pub with_position : List ℕ → Told → Told
with_position text told = record told { positions = text ∷ told.positions }

-- One more option with its text.
abbrev pub with_option : List ℕ → List ℕ → Told → Told
with_option option text told = record told { options = (option, text) ∷ told.options }

-- A word that needs no other, before words that hold this: an option with its text, or a position.
abbrev pub one_by : Option (List ℕ) → List ℕ → Option Told → Option Told
one_by (Some option) word told = option_map (with_option option (attached_text word option)) told
one_by None word told = if is_option word then None else option_map (with_position word) told

abbrev pub one_word : List (List ℕ) → List ℕ → Option Told → Option Told
one_word options word told = one_by (find (is_attached word) options) word told

-- An option alone has the next word as its text, unless that begins with `-`. Any other word needs no other. What the
-- words hold behind both, and behind the first alone, is the fourth and the fifth.
abbrev pub first_by : List (List ℕ) → Option (List ℕ) → List ℕ → List ℕ → Option Told → Option Told → Option Told
first_by options (Some option) word text behind rest = if is_option text then None else option_map (with_option option text) behind
first_by options None word text behind rest = one_word options word rest

abbrev pub told_in : List (List ℕ) → List (List ℕ) → Option Told
told_in options [] = Some nothing
told_in options (word ∷ []) = one_word options word (Some nothing)
told_in options (word ∷ text ∷ words) =
    first_by options (find (is_alone word) options) word text (told_in options words) (told_in options (text ∷ words))

-- The texts of an option, in the order of the words.
abbrev pub texts_of : List ℕ → Told → List (List ℕ)
texts_of option told = map (λ given. given.1) (filter (λ given. bytes_eq given.0 option) told.options)
