-- The drafts of the threads so far.
use Rattle.std.proofs.Common.{◌≡◌, ◌+◌, ℕ, length, Some}
use Rattle.std.specs.Prelude.{slice_get}
use Rattle.pt_load.specs.Shape.{Drafted}
use Rattle.pt_gen.specs.Schedule.{plan_of}
use Rattle.pt_gen.proofs.drafts.drafts_of.Given as goal

abbrev pub invariant-loop-before : goal.invariant-loop-before
invariant-loop-before l =
    record {
      count : length l.drafts.items ≡ l.before;
      each : (k : ℕ) (draft : Drafted) → slice_get l.drafts.items k ≡ Some draft → draft ≡ record { plan = plan_of l.fn.rounds.seed; thread = k + 1 };
    }
