-- So far the stacks before this one are put.
use Rattle.std.proofs.Common.{◌≡◌, ◌++◌, take}
use Rattle.std.specs.List.{flat_map}
use Rattle.nt_blocks.specs.Bodies.{stack_bytes}
use Rattle.nt_blocks.proofs.put.append_stacks.Given as goal

abbrev pub invariant-loop-stack : goal.invariant-loop-stack
invariant-loop-stack l = l.out.items ≡ l.initial.out.items ++ flat_map stack_bytes (take l.stack-index l.stacks)
