-- The events in front of this place were read.
use Rattle.std.proofs.Common.{◌-◌, length, drop}
use Rattle.nt_names.proofs.Events.{Skimmed}
use Rattle.nt_names.proofs.take.take_names.Given as goal

abbrev pub invariant-loop-here : goal.invariant-loop-here
invariant-loop-here l = Skimmed l.at l.body l.initial.events.items l.here l.before (drop l.here l.body) l.events.items

abbrev pub decreases-loop-here : goal.decreases-loop-here
decreases-loop-here l = length l.body - l.here
