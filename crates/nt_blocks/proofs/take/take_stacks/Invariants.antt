-- The stacks in front of this place were read as the items that are appended.
use Rattle.std.proofs.Common.{◌+◌, ◌-◌, drop}
use Rattle.nt_blocks.proofs.TakeLists.{GoingStacks}
use Rattle.nt_blocks.proofs.take.take_stacks.Given as goal

abbrev pub invariant-loop-id : goal.invariant-loop-id
invariant-loop-id l = GoingStacks l.at l.first l.count (drop 8 l.body) l.initial.items.items l.id (l.first + l.count - l.id) l.here (drop l.here l.body) l.items.items
