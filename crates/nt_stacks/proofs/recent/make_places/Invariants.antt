-- No place has a stack with an id.
use Rattle.std.proofs.Common.{List, ℕ}
use Rattle.nt_stacks.specs.Interning.{AreKnown}
use Rattle.nt_stacks.proofs.recent.make_places.Given as goal

abbrev pub invariant-loop : goal.invariant-loop
invariant-loop l = (entries : List (List ℕ × ℕ)) → AreKnown entries l.places.items
