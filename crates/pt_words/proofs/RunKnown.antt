-- The options of a run are those of any run, and those of one that calls a tool.
use Rattle.std.proofs.Common.{◌≡◌, Bool, true, false, ◌||◌, ℕ, List, codes, refl}
use Rattle.pt_words.specs.Options.{is_alone, is_attached, is_known}
use Rattle.pt_words.specs.Run.{run_options, common_options, calling_options}

or-four : (a b c d rest : Bool) → (a || (b || (c || (d || rest)))) ≡ ((a || (b || (c || (d || false)))) || rest)
or-four true b c d rest = refl
or-four false true c d rest = refl
or-four false false true d rest = refl
or-four false false false true rest = refl
or-four false false false false rest = refl

abbrev is-named : List ℕ → List ℕ → Bool
is-named word option = is_alone word option || is_attached word option

pub known_run : (word : List ℕ) → is_known run_options word ≡ (is_known common_options word || is_known calling_options word)
known_run word =
    or-four (is-named word (codes "--seed")) (is-named word (codes "--wait")) (is-named word (codes "--streamers")) (is-named word (codes "--lives")) (is_known calling_options word)
