-- The words after a command's name, as texts.
use Rattle.std.specs.Prelude.{ℕ, Bool, false, ◌==◌, if◌then◌else◌, List, [], ◌∷◌, map, Option, Some, None}
use Rattle.std.specs.List.{list_any}
use Rattle.std.specs.Borrow.{Bor}
use Rattle.pt_words.specs.declared.positions.Several.{Several}

-- A word that begins with `-` is an option.
abbrev pub is_option : List ℕ → Bool
is_option [] = false
is_option (byte ∷ word) = byte == 45

-- One of the words is an option.
abbrev pub has_option : List (List ℕ) → Bool
has_option words = list_any is_option words

-- Two texts, and one or more after them.
pub record SeveralTexts : Type 0 where
  pub one : List ℕ
  pub two : List ℕ
  pub rest : List (List ℕ)

-- The text of the only word, which is no option.
abbrev pub one_in : List (List ℕ) → Option (List ℕ)
one_in (one ∷ []) = if is_option one then None else Some one
one_in words = None

-- The texts of two words, none of them an option.
abbrev pub two_in : List (List ℕ) → Option (List ℕ × List ℕ)
two_in (one ∷ two ∷ []) = if has_option (one ∷ two ∷ []) then None else Some (one, two)
two_in words = None

-- The texts of three words or more, none of them an option.
abbrev pub several_in : List (List ℕ) → Option SeveralTexts
several_in (one ∷ two ∷ three ∷ more) =
    if has_option (one ∷ two ∷ three ∷ more) then None
    else Some (record { one = one; two = two; rest = three ∷ more })
several_in words = None

-- ---- what is answered, as texts

-- The texts of a pair.
abbrev pub pair_of : Bor (List ℕ) × Bor (List ℕ) → List ℕ × List ℕ
pair_of pair = (pair.0.now, pair.1.now)

-- The texts of three words or more.
abbrev pub texts_of : Several → SeveralTexts
texts_of several =
    record { one = several.one.now; two = several.two.now; rest = map (λ text. text.now) several.rest.items }

-- Three texts, where each is there.
abbrev pub several_from : Option (List ℕ) → Option (List ℕ) → Option (List (List ℕ)) → Option SeveralTexts
several_from (Some one) (Some two) (Some rest) = Some (record { one = one; two = two; rest = rest })
several_from one two rest = None
