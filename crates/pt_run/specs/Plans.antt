-- The words that say what the sample program writes (this project's profile).
use Rattle.std.specs.Prelude.{ℕ, ◌-◌, ◌^◌, ◌≤◌, List, Option, Some, None}
use Rattle.ep_defs.specs.declared.limits.TheConstants.{THREADS, WRITES}
use Rattle.ep_plan.specs.Words.{number_in, at_least}
use Rattle.pt_load.specs.declared.plan.Plan.{Plan}
use Rattle.pt_run.specs.declared.limits.TheConstants.{USUAL_SEED}

-- A decimal number that is at least the first and at most the second.
abbrev pub number_from : ℕ → ℕ → List ℕ → Option ℕ
number_from least most word = at_least least (number_in most word)

-- 1 to 256 threads.
abbrev pub threads_in : List ℕ → Option ℕ
threads_in word = number_from 1 THREADS word

-- Each thread makes 0 to 4,000,000,000 writes.
abbrev pub writes_in : List ℕ → Option ℕ
writes_in word = number_from 0 WRITES word

-- A seed is any number of 64 bits, and 0 where none is named.
abbrev pub seed_in : Option (List ℕ) → Option ℕ
seed_in None = Some USUAL_SEED
seed_in (Some word) = number_in (2 ^ 64 - 1) word

-- What the threads write, where each number is good.
abbrev pub plan_of : Option ℕ → Option ℕ → Option ℕ → Option Plan
plan_of (Some threads) (Some writes) (Some seed) = Some (record { seed = seed; threads = threads; writes = writes })
plan_of threads writes seed = None

abbrev pub plan_in : List ℕ → List ℕ → Option (List ℕ) → Option Plan
plan_in threads writes seed = plan_of (threads_in threads) (writes_in writes) (seed_in seed)

-- ---- what such words keep to

-- The numbers of a plan are within their bounds.
pub record FitsPlan (plan : Plan) : Type 0 where
  pub some : 1 ≤ plan.threads
  pub few : plan.threads ≤ THREADS
  pub short : plan.writes ≤ WRITES
