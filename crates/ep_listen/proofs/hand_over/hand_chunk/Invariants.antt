use Rattle.std.proofs.Common.{◌≡◌, ◌+◌, ◌-◌, List, ◌++◌, Some, length}
use Rattle.ep_chunk.specs.Record.{Record, total_size}
use Rattle.ep_chunk.specs.Places.{records_at}
use Rattle.ep_listen.specs.Heard.{HeardEvent, heard_in}
use Rattle.ep_listen.proofs.hand_over.hand_chunk.Given as goal

-- the records that were handed over, and those that stand behind them
abbrev pub invariant-loop-rec : goal.invariant-loop-rec
invariant-loop-rec g l =
    record {
      done : List Record;
      rest : List Record;
      split : done ++ rest ≡ l.chunk;
      at : records_at l.chunk l.place ≡ Some rest;
      size : l.place + total_size rest ≡ total_size l.chunk;
      count : l.count ≡ length done;
      heard : (before : List HeardEvent) → g.C.Callback.has_heard l.fn.callback before → g.C.Callback.has_heard l.callback (before ++ heard_in done);
    }

abbrev pub decreases-loop-rec : goal.decreases-loop-rec
decreases-loop-rec g l = total_size l.chunk - l.place
