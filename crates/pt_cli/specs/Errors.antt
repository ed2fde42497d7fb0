-- The error line of words (this project's profile).
use Rattle.std.specs.Prelude.{ℕ, List, [], ◌∷◌, ◌++◌, codes}

-- The line for words that ask for nothing, with its line feed.
abbrev pub words_error : List ℕ
words_error = codes "error: words" ++ 10 ∷ []
