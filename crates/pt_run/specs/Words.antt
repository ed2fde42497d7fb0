-- The words of the command (this project's profile).
use Rattle.std.specs.Prelude.{ℕ, ◌≤◌, if◌then◌else◌, List, [], ◌∷◌, codes, Option, Some, None, option_and_then, IfSome}
use Rattle.ep_defs.specs.Event.{is_same_text}
use Rattle.pt_load.specs.declared.plan.Plan.{Plan}
use Rattle.pt_words.specs.Run.{RunTexts, run_in}
use Rattle.pt_words.specs.Target.{target_in}
use Rattle.pt_run.specs.declared.limits.TheConstants.{USUAL_WAIT, MOST_WAIT, USUAL_STREAMERS, MOST_STREAMERS, USUAL_LIVES, MOST_LIVES, USUAL_CALLS, MOST_CALLS}
use Rattle.pt_run.specs.declared.words.Asked.{Asked}
use Rattle.pt_run.specs.declared.words.Reverse.{Reverse}
use Rattle.pt_run.specs.Plans.{number_from, plan_in, FitsPlan}

-- A number from 1 to a bound, and a usual one where none is named.
abbrev pub count_in : ℕ → ℕ → Option (List ℕ) → Option ℕ
count_in usual most None = Some usual
count_in usual most (Some word) = number_from 1 most word

-- The threads wait for 1 to 64 sessions, for one where none is named.
abbrev pub wait_in : Option (List ℕ) → Option ℕ
wait_in word = count_in USUAL_WAIT MOST_WAIT word

-- 1 to 64 roles write streams, four where none is named.
abbrev pub streamers_in : Option (List ℕ) → Option ℕ
streamers_in word = count_in USUAL_STREAMERS MOST_STREAMERS word

-- A row has 1 to 100 lives, one where none is named.
abbrev pub lives_in : Option (List ℕ) → Option ℕ
lives_in word = count_in USUAL_LIVES MOST_LIVES word

-- There are 1 to 500 links to a tool that is called, up to 500 where no number is named.
abbrev pub calls_in : Option (List ℕ) → Option ℕ
calls_in word = count_in USUAL_CALLS MOST_CALLS word

-- The tool that is called, where both words are good.
abbrev pub reverse_of : Option (List ℕ) → Option ℕ → Option (Option Reverse)
reverse_of (Some target) (Some calls) = Some (Some (record { target = target; calls = calls }))
reverse_of target calls = None

-- None is called where none is named, and then no number of calls is.
abbrev pub reverse_in : Option (List ℕ) → Option (List ℕ) → Option (Option Reverse)
reverse_in (Some word) calls = reverse_of (target_in word) (calls_in calls)
reverse_in None (Some calls) = None
reverse_in None None = Some None

-- What is asked for, where all of it is good.
abbrev pub asked_from : Option Plan → Option ℕ → Option ℕ → Option ℕ → Option (Option Reverse) → Option Asked
asked_from (Some plan) (Some wait) (Some streamers) (Some lives) (Some reverse) =
    Some (record { plan = plan; wait = wait; streamers = streamers; lives = lives; reverse = reverse })
asked_from plan wait streamers lives reverse = None

abbrev pub asked_by : RunTexts → Option Asked
asked_by texts =
    asked_from (plan_in texts.threads texts.writes texts.seed) (wait_in texts.wait) (streamers_in texts.streamers) (lives_in texts.lives)
    (reverse_in texts.reverse texts.calls)

-- The words are `run THREADS WRITES`, with the options `--seed S`, `--wait N`, `--streamers K`, `--lives L`, `--reverse TARGET`
-- and `--calls M` anywhere behind `run`.
abbrev pub asked_in : List (List ℕ) → Option Asked
asked_in [] = None
asked_in (name ∷ words) = if is_same_text name (codes "run") then option_and_then asked_by (run_in words) else None

-- ---- what such words keep to

-- A number from 1 to a bound.
abbrev pub IsCount : ℕ → ℕ → Type 0
IsCount most count = (1 ≤ count) × (count ≤ most)

-- So many calls can be made of the tool that is called, if one is.
abbrev pub FitsReverse : Option Reverse → Type 0
FitsReverse reverse = IfSome reverse (λ tool. IsCount MOST_CALLS tool.calls)

-- What is asked for can be done.
pub record Fits (asked : Asked) : Type 0 where
  pub plan : FitsPlan asked.plan
  pub wait : IsCount MOST_WAIT asked.wait
  pub streamers : IsCount MOST_STREAMERS asked.streamers
  pub lives : IsCount MOST_LIVES asked.lives
  pub reverse : FitsReverse asked.reverse
