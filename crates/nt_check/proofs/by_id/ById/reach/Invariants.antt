use Rattle.std.proofs.Common.{◌≡◌, ℕ, ◌+◌, ◌-◌}
use Rattle.std.specs.Vec.{vec_len}
use Rattle.nt_check.specs.state.Ids.{value_at}
use Rattle.nt_check.proofs.by_id.ById.reach.Given as goal

abbrev pub invariant-loop-self : goal.invariant-loop-self
invariant-loop-self g l =
    record {
      same : (id : ℕ) → value_at l.self id ≡ value_at l.fn.self id;
      first : l.self.first ≡ l.fn.self.first;
    }

abbrev pub decreases-loop-self : goal.decreases-loop-self
decreases-loop-self g l = l.place + 1 - vec_len l.self.row
