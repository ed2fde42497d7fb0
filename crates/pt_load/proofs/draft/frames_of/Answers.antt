use Rattle.std.proofs.Common.{arith, ◌∙◌}
use Rattle.pt_load.proofs.Writes.{frames_are}
use Rattle.pt_load.proofs.draft.frames_of.Goals as goal

pub returns : goal.returns
returns c = c.new.ensures ∙ frames_are c.args.index c.loop-place.frames.items (omega arith) (λ k h. c.loop-place.invariant.1 k (omega arith))
