-- The words of a command of three positions with the options `--seed` and `--mb`.
use Rattle.std.specs.Prelude.{ℕ, ◌+◌, Bool, ◌&&◌, ◌||◌, not, nat_eq, if◌then◌else◌, List, [], ◌∷◌, ◌++◌, drop, length, codes, Option, Some, None, option_map, option_and_then}
use Rattle.std.specs.List.{list_any, starts_with}
use Rattle.std.specs.Str.{bytes_eq}
use Rattle.pt_words.specs.Words.{is_option}

-- The option of a seed.
abbrev pub seed_option : List ℕ
seed_option = codes "--seed"

-- The option of a budget.
abbrev pub megabytes_option : List ℕ
megabytes_option = codes "--mb"

-- The word is this option alone, whose text is the next word.
abbrev pub is_alone : List ℕ → List ℕ → Bool
is_alone option word = bytes_eq word option

-- The word is this option with its text, after `=`, which is 61.
abbrev pub is_attached : List ℕ → List ℕ → Bool
is_attached option word = starts_with nat_eq word (option ++ 61 ∷ [])

-- The text of such a word.
abbrev pub attached_text : List ℕ → List ℕ → List ℕ
attached_text option word = drop (length option + 1) word

-- The word is this option, alone or with its text.
abbrev pub is_known : List ℕ → List ℕ → Bool
is_known option word = is_alone option word || is_attached option word

-- The word begins with `-` and is no option of the command.
abbrev pub is_foreign : List ℕ → Bool
is_foreign word = is_option word && (not (is_known seed_option word) && not (is_known megabytes_option word))

-- One of the words is.
abbrev pub has_foreign : List (List ℕ) → Bool
has_foreign words = list_any is_foreign words

-- ---- what words hold

-- The texts of the positions and of each option, in the order of the words.
pub record Told : Type 0 where
  pub positions : List (List ℕ)
  pub seeds : List (List ℕ)
  pub megabytes : List (List ℕ)

-- No word was read.
abbrev pub nothing : Told
nothing = record { positions = []; seeds = []; megabytes = [] }

-- One more position, in front of the others.
abbrev pub with_position : List ℕ → Told → Told
with_position text told = record told { positions = text ∷ told.positions }

-- One more text of `--seed`.
abbrev pub with_seed : List ℕ → Told → Told
with_seed text told = record told { seeds = text ∷ told.seeds }

-- One more text of `--mb`.
abbrev pub with_megabytes : List ℕ → Told → Told
with_megabytes text told = record told { megabytes = text ∷ told.megabytes }

-- A word that needs no other, before words that hold this: an option with its text, or a position.
abbrev pub one_word : List ℕ → Option Told → Option Told
one_word word told =
    if is_attached seed_option word then option_map (with_seed (attached_text seed_option word)) told
    else if is_attached megabytes_option word then option_map (with_megabytes (attached_text megabytes_option word)) told
    else if is_option word then None
    else option_map (with_position word) told

-- An option alone has the next word as its text, unless that begins with `-`.
abbrev pub told_in : List (List ℕ) → Option Told
told_in [] = Some nothing
told_in (word ∷ []) = one_word word (Some nothing)
told_in (word ∷ text ∷ words) =
    if is_alone seed_option word then (if is_option text then None else option_map (with_seed text) (told_in words))
    else if is_alone megabytes_option word then (if is_option text then None else option_map (with_megabytes text) (told_in words))
    else one_word word (told_in (text ∷ words))

-- ---- what a command line says

-- The texts of the three positions, and of the options that are there.
pub record TraceTexts : Type 0 where
  pub threads : List ℕ
  pub writes : List ℕ
  pub text : List ℕ
  pub seed : Option (List ℕ)
  pub megabytes : Option (List ℕ)

-- An option stands once at most.
abbrev pub at_most_one : List (List ℕ) → Option (Option (List ℕ))
at_most_one [] = Some None
at_most_one (text ∷ []) = Some (Some text)
at_most_one texts = None

-- The texts, where there are three positions and neither option stands twice.
abbrev pub trace_of : Option (Option (List ℕ)) → Option (Option (List ℕ)) → List (List ℕ) → Option TraceTexts
trace_of (Some seed) (Some megabytes) (threads ∷ writes ∷ text ∷ []) =
    Some (record { threads = threads; writes = writes; text = text; seed = seed; megabytes = megabytes })
trace_of seed megabytes positions = None

-- The same of all words that were read.
abbrev pub said : Told → Option TraceTexts
said told = trace_of (at_most_one told.seeds) (at_most_one told.megabytes) told.positions

-- Three positions, with each option before, between or after them, or not at all.
abbrev pub trace_in : List (List ℕ) → Option TraceTexts
trace_in words = option_and_then said (told_in words)
