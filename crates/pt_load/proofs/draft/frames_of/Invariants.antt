use Rattle.std.proofs.Common.{◌≡◌, ◌<◌, ℕ, length, get_or}
use Rattle.pt_load.specs.Sample.{frame_of}
use Rattle.pt_load.proofs.draft.frames_of.Given as goal

abbrev pub invariant-loop-place : goal.invariant-loop-place
invariant-loop-place l = (length l.frames.items ≡ l.place) × ((k : ℕ) → k < l.place → get_or l.frames.items k 0 ≡ frame_of l.index k)
