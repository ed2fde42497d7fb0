-- The schedule that `gen` makes of a seed and a number of rounds (this project's profile). The events are those of the
-- sample program.
use Rattle.std.specs.Prelude.{◌≡◌, ℕ, ◌+◌, ◌-◌, ◌%◌, ◌^◌, Bool, true, false, List, [], ◌∷◌, ◌++◌, codes, map, filter, count_by, Option, Some, None, ◌==◌, if◌then◌else◌}
use Rattle.std.specs.List.{flat_map, range_with_len}
use Rattle.ep_defs.specs.declared.limits.TheConstants.{WRITES}
use Rattle.ep_defs.specs.declared.session.Config.{Config}
use Rattle.ep_defs.specs.declared.session.Rule.{Rule}
use Rattle.ep_defs.specs.declared.session.Write.{Write}
use Rattle.ep_model.specs.declared.step.Step.{Step}
use Rattle.ep_model.specs.declared.step.Step.TheVariants as step
use Rattle.ep_model.specs.History.{admits_write}
use Rattle.pt_load.specs.declared.plan.Plan.{Plan}
use Rattle.pt_load.specs.Sample.{sample, nth}
use Rattle.pt_gen.specs.declared.limits.TheConstants.{NARROW, NARROW_CHUNKS, SWEEP_ROUNDS, THREADS, WIDE, WIDE_CHUNKS}

-- ---- sessions and threads

-- Both sessions, ascending.
abbrev pub sessions : List ℕ
sessions = WIDE ∷ NARROW ∷ []

-- The threads that write, ascending.
abbrev pub threads : List ℕ
threads = range_with_len 1 THREADS

-- All events of a provider.
abbrev pub all_of : List ℕ → Rule
all_of provider = record { name = provider; keywords = 2 ^ 64 - 1; level = 5 }

-- The first session asks for all events of all three providers.
abbrev pub wide : Config
wide =
    record {
      rules = all_of (codes "Sample-Web") ∷ all_of (codes "Sample-Store") ∷ all_of (codes "Sample-Jobs") ∷ [];
      chunks = WIDE_CHUNKS;
      stackwalk = true;
      rundown = false;
    }

-- The second one for those of the store that have keyword 1, up to level 4.
abbrev pub narrow : Config
narrow =
    record {
      rules = record { name = codes "Sample-Store"; keywords = 1; level = 4 } ∷ [];
      chunks = NARROW_CHUNKS;
      stackwalk = true;
      rundown = false;
    }

-- The configuration of each of the two sessions.
abbrev pub config_of : ℕ → Config
config_of session = if session == WIDE then wide else narrow

-- Both sessions are accepted, and then each is opened on all threads.
abbrev pub opening : List Step
opening =
    map (λ session. step.Accept session (config_of session)) sessions
    ++ flat_map (λ session. map (λ thread. step.Open session thread) threads) sessions

-- ---- rounds

-- The threads write in turn, the seed says which of them begins.
abbrev pub thread_at : ℕ → ℕ → ℕ
thread_at seed round = 1 + (seed % THREADS + round) % THREADS

-- How many writes the thread of this round made in the rounds before.
abbrev pub writes_before : ℕ → ℕ → ℕ
writes_before seed round = count_by (λ earlier. thread_at seed earlier == thread_at seed round) (range_with_len 0 round)

-- A plan of as many writes as a thread can make.
abbrev pub plan_of : ℕ → Plan
plan_of seed = record { seed = seed; threads = THREADS; writes = WRITES }

-- The thread's next write.
abbrev pub write_at : ℕ → ℕ → Write
write_at seed round = nth (plan_of seed) (thread_at seed round) (writes_before seed round)

-- The session gets the write.
abbrev pub gets : Write → ℕ → Bool
gets write session = admits_write sample (Some (config_of session)) write

-- A thread makes a write, which is shown to the sessions that get it.
abbrev pub made : ℕ → ℕ → Write → List Step
made thread stamp write =
    step.Begin thread stamp write ∷ []
    ++ map (λ session. step.Show thread session) (filter (gets write) sessions)
    ++ step.End thread ∷ []

-- From each thread something is taken, and given back each time.
abbrev pub from_each : ℕ → (ℕ → Step) → List Step
from_each session take = flat_map (λ thread. take thread ∷ step.Give session ∷ []) threads

-- Each session steals from each thread, and has a point.
abbrev pub sweep : ℕ → List Step
sweep stamp = flat_map (λ session. from_each session (step.Steal session) ++ step.Point session stamp ∷ []) sessions

-- After this many rounds.
abbrev pub sweep_after : ℕ → List Step
sweep_after rounds = if rounds % SWEEP_ROUNDS == 0 then sweep rounds else []

-- The round's number is its stamp.
abbrev pub round_at : ℕ → ℕ → List Step
round_at seed round = made (thread_at seed round) round (write_at seed round) ++ sweep_after (round + 1)

-- ---- the whole

-- Each session is closed on each thread, and finished.
abbrev pub closing : ℕ → List Step
closing stamp = flat_map (λ session. from_each session (step.Close session) ++ step.Finish session stamp ∷ []) sessions

-- Rounds are numbered from 0.
unfoldable pub generated : ℕ → ℕ → List Step
generated seed rounds = opening ++ flat_map (round_at seed) (range_with_len 0 rounds) ++ closing rounds

-- Of a list of steps the first is given, and the list is then what stands after it; None is given where there is none.
abbrev pub Gives : List Step → Option Step → List Step → Type 0
Gives before None after = (before ≡ []) × (after ≡ [])
Gives before (Some step) after = before ≡ step ∷ after
