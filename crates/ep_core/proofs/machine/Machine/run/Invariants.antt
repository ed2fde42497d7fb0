use Rattle.std.proofs.Common.{◌≡◌, ◌++◌, length}
use Rattle.std.specs.Vec.Iter.{into_iter_items, into_iter_len}
use Rattle.ep_core.proofs.Run.{Ran}
use Rattle.ep_core.proofs.machine.Machine.run.Given as goal

abbrev pub invariant-loop-step : goal.invariant-loop-step
invariant-loop-step l =
    record {
      can : (goal.iterator-loop-step).can_next l.step-iterator;
      finite : (goal.iterator-loop-step).is_finite l.step-iterator;
      ran : Ran l.initial.self l.yielded l.self;
      left : l.fn.steps.items ≡ l.yielded ++ into_iter_items l.step-iterator;
      size : into_iter_len l.step-iterator ≡ length (into_iter_items l.step-iterator);
    }
