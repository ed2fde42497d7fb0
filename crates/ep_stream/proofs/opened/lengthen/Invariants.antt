use Rattle.std.proofs.Common.{◌≡◌, ◌≤◌, ℕ, vec_len}
use Rattle.ep_stream.specs.Hands.{hand_at, count_some}
use Rattle.ep_stream.proofs.opened.lengthen.Given as goal

abbrev pub invariant-loop-place : goal.invariant-loop-place
invariant-loop-place l =
    record {
      long : l.place ≤ vec_len l.hands;
      hands : (r : ℕ) → hand_at l.hands.items r ≡ hand_at l.fn.hands.items r;
      count : count_some l.hands.items ≡ count_some l.fn.hands.items;
    }
