-- The words of a command of two positions with the options `--seed`, `--wait`, `--streamers`, `--lives`, `--reverse` and
-- `--calls`.
use Rattle.std.specs.Prelude.{ℕ, List, [], ◌∷◌, codes, Option, Some, None, option_and_then}
use Rattle.pt_words.specs.Options.{Told, texts_of, told_in}
use Rattle.pt_words.specs.Trace.{at_most_one}

-- Those of a run, whether it listens or calls.
abbrev pub common_options : List (List ℕ)
common_options = codes "--seed" ∷ codes "--wait" ∷ codes "--streamers" ∷ codes "--lives" ∷ []

-- Those of one that calls a tool.
abbrev pub calling_options : List (List ℕ)
calling_options = codes "--reverse" ∷ codes "--calls" ∷ []

-- The options.
abbrev pub run_options : List (List ℕ)
run_options = codes "--seed" ∷ codes "--wait" ∷ codes "--streamers" ∷ codes "--lives" ∷ codes "--reverse" ∷ codes "--calls" ∷ []

-- The texts of the two positions, and of the options that are there.
pub record RunTexts : Type 0 where
  pub threads : List ℕ
  pub writes : List ℕ
  pub seed : Option (List ℕ)
  pub wait : Option (List ℕ)
  pub streamers : Option (List ℕ)
  pub lives : Option (List ℕ)
  pub reverse : Option (List ℕ)
  pub calls : Option (List ℕ)

-- The texts, where there are two positions and no option stands twice.
abbrev pub run_of : (seed wait streamers lives reverse calls : Option (Option (List ℕ))) → List (List ℕ) → Option RunTexts
run_of (Some seed) (Some wait) (Some streamers) (Some lives) (Some reverse) (Some calls) (threads ∷ writes ∷ []) =
    Some (record {
      threads = threads;
      writes = writes;
      seed = seed;
      wait = wait;
      streamers = streamers;
      lives = lives;
      reverse = reverse;
      calls = calls;
    })
run_of seed wait streamers lives reverse calls positions = None

-- The same of all words that were read.
abbrev pub said : Told → Option RunTexts
said told =
    run_of (at_most_one (texts_of (codes "--seed") told)) (at_most_one (texts_of (codes "--wait") told))
    (at_most_one (texts_of (codes "--streamers") told)) (at_most_one (texts_of (codes "--lives") told))
    (at_most_one (texts_of (codes "--reverse") told)) (at_most_one (texts_of (codes "--calls") told)) told.positions

-- Two positions, with each option before, between or after them, or not at all.
abbrev pub run_in : List (List ℕ) → Option RunTexts
run_in words = option_and_then said (told_in run_options words)
