-- The blobs in front of this place were read as the items that are appended.
use Rattle.std.proofs.Common.{◌-◌, length, drop}
use Rattle.nt_blocks.proofs.TakeBlobs.{Going}
use Rattle.nt_blocks.proofs.take.take_blobs.Given as goal

abbrev pub invariant-loop-here : goal.invariant-loop-here
invariant-loop-here l = Going l.kind l.at l.body l.initial.items.items l.here l.before (drop l.here l.body) l.items.items

abbrev pub decreases-loop-here : goal.decreases-loop-here
decreases-loop-here l = length l.body - l.here
