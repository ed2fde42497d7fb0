use Rattle.std.proofs.Common.{◌≡◌, ℕ, ◌<◌, ◌≤◌, length}
use Rattle.std.specs.Prelude.{slice_index, ◌==◌, if◌then◌else◌}
use Rattle.std.specs.Int.{bit_at}
use Rattle.ep_row.specs.Bits.{one_if}
use Rattle.ep_row.specs.Row.{is_admitted}
use Rattle.ep_row.proofs.row.set_admitted.Given as goal

abbrev pub invariant-loop-place : goal.invariant-loop-place
invariant-loop-place l =
    record {
      count : length l.masks ≡ length l.fn.masks;
      done : (k s : ℕ) → k < l.place → s < 64 → bit_at (slice_index l.masks k) s ≡ (if s == l.slot then one_if (is_admitted l.admitted k) else bit_at (slice_index l.fn.masks k) s);
      left : (k : ℕ) → l.place ≤ k → slice_index l.masks k ≡ slice_index l.fn.masks k;
    }
