-- The lines of what is lost at the threads so far were put.
use Rattle.std.proofs.Common.{ℕ, List, ◌++◌, take}
use Rattle.ep_defs.specs.Gaps.{Sighting}
use Rattle.pt_events.specs.Lines.{known_by, lost_lines}
use Rattle.pt_lines.specs.Forms.{AreLines}
use Rattle.pt_lines.specs.Appends.{Appends}
use Rattle.pt_events.specs.state.Known.{HasSeen}
use Rattle.pt_events.proofs.listing.put_all_lost.Given as goal

abbrev pub invariant-loop-thread : goal.invariant-loop-thread
invariant-loop-thread l =
    (past : List (ℕ × Sighting)) → HasSeen past l.fn.lasts
    → HasSeen (past ++ known_by (take l.thread-index l.threads)) l.lasts
    × Appends (AreLines l.fn.form (lost_lines l.origin l.stamp past (known_by (take l.thread-index l.threads)))) l.fn.out.items l.out.items
