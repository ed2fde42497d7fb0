-- The machine runs, and each thread has its draft.
use Rattle.std.proofs.Common.{length}
use Rattle.pt_gen.specs.state.Running.{HasDrafts, Runs}
use Rattle.pt_gen.proofs.run.run.Given as goal

abbrev pub invariant-loop-drafts : goal.invariant-loop-drafts
invariant-loop-drafts l =
    record {
      runs : Runs l.fn.asked.seed l.fn.asked.writes l.machine l.steps;
      drafts : HasDrafts l.fn.asked.seed l.drafts.items;
    }

abbrev pub decreases-loop-drafts : goal.decreases-loop-drafts
decreases-loop-drafts l = length l.steps
