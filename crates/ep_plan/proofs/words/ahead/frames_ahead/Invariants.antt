-- The return addresses so far.
use Rattle.std.proofs.Common.{◌-◌, length}
use Rattle.ep_plan.proofs.Ahead.{FramesSoFar}
use Rattle.ep_plan.proofs.words.ahead.frames_ahead.Given as goal

abbrev pub invariant-frames : goal.invariant-frames
invariant-frames l = FramesSoFar l.text l.begin l.frames.items

abbrev pub decreases-frames : goal.decreases-frames
decreases-frames l = length l.text - l.begin
