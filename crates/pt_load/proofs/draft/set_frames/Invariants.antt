use Rattle.std.proofs.Common.{◌≡◌, ◌<◌, ◌%◌, ℕ, length, get_or}
use Rattle.pt_load.specs.Sample.{frame_of}
use Rattle.pt_load.proofs.draft.set_frames.Given as goal

abbrev pub invariant-loop-place : goal.invariant-loop-place
invariant-loop-place l = (length l.frames ≡ l.index % 4) × ((k : ℕ) → k < l.place → get_or l.frames k 0 ≡ frame_of l.index k)
