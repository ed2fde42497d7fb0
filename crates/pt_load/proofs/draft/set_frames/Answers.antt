use Rattle.std.proofs.Common.{arith}
use Rattle.pt_load.proofs.Writes.{frames_are}
use Rattle.pt_load.proofs.draft.set_frames.Goals as goal

pub returns : goal.returns
returns c = frames_are c.args.index c.loop-place.frames c.loop-place.invariant.0 (λ k h. c.loop-place.invariant.1 k (omega arith))
