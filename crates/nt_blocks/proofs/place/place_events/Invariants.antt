-- The events in front of this place were placed.
use Rattle.std.proofs.Common.{◌-◌, length}
use Rattle.nt_blocks.proofs.Placing.{Placing}
use Rattle.nt_blocks.proofs.place.place_events.Given as goal

abbrev pub invariant-loop-here : goal.invariant-loop-here
invariant-loop-here l = Placing l.at l.body l.here l.head l.events.items

abbrev pub decreases-loop-here : goal.decreases-loop-here
decreases-loop-here l = length l.body - l.here
