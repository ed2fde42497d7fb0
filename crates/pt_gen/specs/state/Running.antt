-- What is known while a schedule is made. All of it is this project's own.
use Rattle.std.specs.Prelude.{◌≡◌, ℕ, ◌+◌, false, List, ◌++◌, length, reverse, filter, Some, slice_get}
use Rattle.ep_defs.specs.Session.{standard_info_of}
use Rattle.ep_core.specs.declared.machine.Machine.{Machine}
use Rattle.ep_core.specs.Machine.{Follows, has_failed}
use Rattle.ep_core.specs.Writes.{with_write}
use Rattle.ep_model.specs.declared.step.Step.{Step}
use Rattle.ep_model.specs.History.{Past}
use Rattle.ep_model.specs.Lawful.{IsLawful}
use Rattle.pt_load.specs.Sample.{sample}
use Rattle.pt_load.specs.Shape.{Drafted}
use Rattle.pt_gen.specs.declared.limits.TheConstants.{THREADS}
use Rattle.pt_gen.specs.Schedule.{generated, gets, plan_of, sessions, thread_at, write_at}

-- The draft of each thread, the first being thread 1.
pub record HasDrafts (seed : ℕ) (drafts : List Drafted) : Type 0 where
  pub count : length drafts ≡ THREADS
  pub each : (k : ℕ) (draft : Drafted) → slice_get drafts k ≡ Some draft → draft ≡ record { plan = plan_of seed; thread = k + 1 }

-- After these steps the write of the round was made, and shown to the sessions that get it.
abbrev pub with_round : ℕ → ℕ → Past → Past
with_round seed round past =
    with_write (thread_at seed round) round (write_at seed round) (filter (gets (write_at seed round)) sessions) past

-- The write of the round was made, whatever the steps before were.
abbrev pub Writes : ℕ → ℕ → Machine → Machine → Type 0
Writes seed round old new =
    (past : Past) → Follows sample (standard_info_of 1 1) past old → IsLawful sample (with_round seed round past)
    → Follows sample (standard_info_of 1 1) (with_round seed round past) new

-- The machine stands for the steps that were made, and these and those that are still to come are the whole schedule.
pub record Runs (seed rounds : ℕ) (machine : Machine) (steps : List Step) : Type 0 where
  pub past : Past
  pub follows : Follows sample (standard_info_of 1 1) past machine
  pub working : has_failed machine ≡ false
  pub whole : generated seed rounds ≡ reverse past ++ steps
