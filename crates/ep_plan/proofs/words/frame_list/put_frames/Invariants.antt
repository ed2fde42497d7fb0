use Rattle.std.proofs.Common.{◌≡◌, ◌++◌}
use Rattle.ep_plan.proofs.Separated.{frames_so_far}
use Rattle.ep_plan.proofs.words.frame_list.put_frames.Given as goal

abbrev pub invariant-loop-frame : goal.invariant-loop-frame
invariant-loop-frame l = l.out.items ≡ l.fn.out.items ++ frames_so_far l.frames l.others l.frame-index
