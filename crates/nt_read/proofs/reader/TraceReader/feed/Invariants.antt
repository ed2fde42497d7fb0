-- What stands before this place was read, and its items were given.
use Rattle.std.proofs.Common.{◌≡◌, ℕ, ◌+◌, ◌-◌, ◌≤◌, List, length, take}
use Rattle.ep_defs.specs.declared.item.Item.{Item}
use Rattle.nt_blocks.specs.Refusals.{Refusal}
use Rattle.nt_blocks.specs.Verdict.{Bad, verdict}
use Rattle.nt_read.specs.Reading.{HasFailed, HasRead, used}
use Rattle.nt_read.specs.state.Reads.{Feeds}
use Rattle.nt_read.proofs.reader.TraceReader.feed.Given as goal

abbrev pub invariant-loop-here : goal.invariant-loop-here
invariant-loop-here l =
    record {
      within : l.here ≤ length l.piece;
      used : used l.self ≤ used l.fn.self + l.here;
      feeds : (bytes : List ℕ) → HasRead bytes l.fn.self → Feeds bytes (take l.here l.piece) l.self.objects l.fn.items.items l.items.items;
      failed : HasFailed l.fn.self → HasFailed l.self × (l.items.items ≡ l.fn.items.items);
      refused : (bytes : List ℕ) (why : Refusal) (told : List Item) → HasRead bytes l.fn.self → verdict bytes ≡ Bad why told → HasRead bytes l.self × (l.items.items ≡ l.fn.items.items);
    }

abbrev pub decreases-loop-here : goal.decreases-loop-here
decreases-loop-here l = length l.piece - l.here
