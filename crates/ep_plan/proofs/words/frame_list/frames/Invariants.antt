use Rattle.std.proofs.Common.{◌≡◌}
use Rattle.ep_plan.specs.Words.{comma, all_in, hex_in, parts_at}
use Rattle.ep_plan.proofs.Separated.{read_and_rest, size_of}
use Rattle.ep_plan.proofs.words.frame_list.frames.Given as goal

abbrev pub invariant-loop-rest : goal.invariant-loop-rest
invariant-loop-rest l = all_in hex_in (parts_at comma l.fn.word) ≡ read_and_rest hex_in l.frames.items l.rest

abbrev pub decreases-loop-rest : goal.decreases-loop-rest
decreases-loop-rest l = size_of l.rest
