-- The machine runs, and no more steps are left than there were.
use Rattle.std.proofs.Common.{◌≤◌, length}
use Rattle.pt_gen.specs.state.Running.{HasDrafts, Runs}
use Rattle.pt_gen.proofs.run.make_writes.Given as goal

abbrev pub invariant-loop-round : goal.invariant-loop-round
invariant-loop-round l =
    record {
      runs : Runs l.rounds.seed l.rounds.count l.machine l.steps;
      fewer : length l.steps ≤ length l.fn.steps;
      drafts : HasDrafts l.rounds.seed l.drafts.items;
    }

abbrev pub decreases-loop-round : goal.decreases-loop-round
decreases-loop-round l = length l.steps
