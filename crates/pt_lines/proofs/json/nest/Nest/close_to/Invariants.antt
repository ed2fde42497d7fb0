-- What is still to come before a field of this depth is what the ends that were put leave of it.
use Rattle.std.proofs.Common.{◌≡◌, ℕ, List, ◌∷◌, ◌++◌, length}
use Rattle.pt_lines.specs.state.Nest.{still}
use Rattle.pt_lines.proofs.json.nest.Nest.close_to.Given as goal

abbrev pub invariant-loop-out : goal.invariant-loop-out
invariant-loop-out l =
    (piece : List ℕ)
    × (l.out.items ≡ l.fn.out.items ++ piece)
    × ((text : List ℕ) (behind : List (ℕ × List ℕ)) → piece ++ still l.self ((l.fn.depth, text) ∷ behind) ≡ still l.fn.self ((l.fn.depth, text) ∷ behind))

abbrev pub decreases-loop-out : goal.decreases-loop-out
decreases-loop-out l = length l.self.depths.items
