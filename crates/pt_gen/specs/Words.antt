-- The words of the command (this project's profile).
use Rattle.std.specs.Prelude.{ℕ, ◌-◌, ◌^◌, ◌&&◌, not, if◌then◌else◌, List, [], ◌∷◌, codes, Option, Some, None}
use Rattle.ep_defs.specs.Event.{is_same_text}
use Rattle.ep_plan.specs.Words.{number_in, at_least, at_most}
use Rattle.pt_words.specs.Words.{has_option}
use Rattle.pt_gen.specs.declared.limits.TheConstants.{MOST_WRITES}
use Rattle.pt_gen.specs.declared.words.Asked.{Asked}

-- A seed is any number of 64 bits.
abbrev pub seed_in : List ℕ → Option ℕ
seed_in word = number_in (2 ^ 64 - 1) word

-- From 1 to 1,000,000 writes.
abbrev pub writes_in : List ℕ → Option ℕ
writes_in word = at_least 1 (at_most MOST_WRITES (number_in (2 ^ 64 - 1) word))

-- What is asked for, where both numbers are good.
abbrev pub asked_by : Option ℕ → Option ℕ → Option Asked
asked_by (Some seed) (Some writes) = Some (record { seed = seed; writes = writes })
asked_by seed writes = None

-- The words are `gen SEED N`, of which none is an option.
abbrev pub asked_in : List (List ℕ) → Option Asked
asked_in (name ∷ seed ∷ writes ∷ []) =
    if is_same_text name (codes "gen") && not (has_option (seed ∷ writes ∷ [])) then asked_by (seed_in seed) (writes_in writes)
    else None
asked_in words = None
