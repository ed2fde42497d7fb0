use Rattle.std.proofs.Common.{◌≡◌, ℕ, ◌<◌, ◌≤◌}
use Rattle.std.specs.Prelude.{slice_index, ◌==◌, if◌then◌else◌}
use Rattle.std.specs.Int.{bit_at}
use Rattle.ep_row.proofs.row.clear_masks.Given as goal

abbrev pub invariant-loop-mask : goal.invariant-loop-mask
invariant-loop-mask l =
    record {
      done : (k s : ℕ) → k < l.mask-index → s < 64 → bit_at (slice_index l.masks k) s ≡ (if s == l.slot then 0 else bit_at (slice_index l.fn.masks k) s);
      left : (k : ℕ) → l.mask-index ≤ k → slice_index l.masks k ≡ slice_index l.fn.masks k;
    }
