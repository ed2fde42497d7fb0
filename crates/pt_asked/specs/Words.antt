-- The words of the command (this project's profile).
use Rattle.std.specs.Prelude.{ℕ, ◌-◌, ◌^◌, ◌≤◌, if◌then◌else◌, IsTrue, List, [], ◌∷◌, Option, Some, None, option_and_then}
use Rattle.ep_defs.specs.declared.limits.TheConstants.{THREADS, WRITES}
use Rattle.ep_defs.specs.declared.session.Config.{Config}
use Rattle.ep_defs.specs.Event.{is_same_text}
use Rattle.ep_defs.specs.Session.{is_valid_config}
use Rattle.ep_plan.specs.Words.{number_in, at_least}
use Rattle.ep_auto.specs.StartUp.{config_in}
use Rattle.ipc_body.specs.Request.{chunks_of}
use Rattle.pt_load.specs.declared.plan.Plan.{Plan}
use Rattle.pt_words.specs.Trace.{TraceTexts, trace_in}
use Rattle.pt_asked.specs.declared.limits.TheConstants.{USUAL_MEGABYTES, USUAL_SEED}
use Rattle.pt_asked.specs.declared.words.Asked.{Asked}

-- A decimal number that is at least the first and at most the second.
abbrev pub number_from : ℕ → ℕ → List ℕ → Option ℕ
number_from least most word = at_least least (number_in most word)

-- 1 to 256 threads.
abbrev pub threads_in : List ℕ → Option ℕ
threads_in word = number_from 1 THREADS word

-- Each thread makes 0 to 4,000,000,000 writes.
abbrev pub writes_in : List ℕ → Option ℕ
writes_in word = number_from 0 WRITES word

-- A seed is any number of 64 bits, and 0 where none is named.
abbrev pub seed_in : Option (List ℕ) → Option ℕ
seed_in None = Some USUAL_SEED
seed_in (Some word) = number_in (2 ^ 64 - 1) word

-- A budget has 1 to 4,294,967,295 megabytes, and 256 where none is named.
abbrev pub megabytes_in : Option (List ℕ) → Option ℕ
megabytes_in None = Some USUAL_MEGABYTES
megabytes_in (Some word) = number_from 1 (2 ^ 32 - 1) word

-- What the threads write, where each number is good.
abbrev pub plan_of : Option ℕ → Option ℕ → Option ℕ → Option Plan
plan_of (Some threads) (Some writes) (Some seed) = Some (record { seed = seed; threads = threads; writes = writes })
plan_of threads writes seed = None

abbrev pub plan_in : TraceTexts → Option Plan
plan_in texts = plan_of (threads_in texts.threads) (writes_in texts.writes) (seed_in texts.seed)

-- The session that the start-up text asks for, with this budget. Chunks are counted as a server counts those that it is asked for.
abbrev pub session_in : List ℕ → Option ℕ → Option Config
session_in text None = None
session_in text (Some megabytes) = config_in (chunks_of megabytes) text

-- What is asked for, where all of it is good.
abbrev pub asked_from : Option Plan → Option Config → Option Asked
asked_from (Some plan) (Some config) = Some (record { plan = plan; config = config })
asked_from plan config = None

abbrev pub asked_by : TraceTexts → Option Asked
asked_by texts = asked_from (plan_in texts) (session_in texts.text (megabytes_in texts.megabytes))

-- The words are a command's name and `THREADS WRITES TEXT`, with the options `--seed S` and `--mb MB` anywhere behind the name.
abbrev pub asked_in : List ℕ → List (List ℕ) → Option Asked
asked_in command [] = None
asked_in command (name ∷ words) = if is_same_text name command then option_and_then asked_by (trace_in words) else None

-- ---- what such words keep to

-- The numbers of a plan are within their bounds.
pub record FitsPlan (plan : Plan) : Type 0 where
  pub some : 1 ≤ plan.threads
  pub few : plan.threads ≤ THREADS
  pub short : plan.writes ≤ WRITES

-- What is asked for can be done.
pub record Fits (asked : Asked) : Type 0 where
  pub plan : FitsPlan asked.plan
  pub config : IsTrue (is_valid_config asked.config)
