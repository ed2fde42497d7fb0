use Rattle.std.proofs.Common.{◌≡◌, List, ◌++◌, length, take}
use Rattle.ep_slot.specs.Chain.{records_of}
use Rattle.ep_listen.specs.Heard.{HeardEvent, heard_in}
use Rattle.ep_listen.proofs.hand_over.hand_chain.Given as goal

-- the records of the first chunks were handed over
abbrev pub invariant-loop-place : goal.invariant-loop-place
invariant-loop-place g l =
    record {
      count : l.count ≡ length (records_of (take l.place l.chain));
      heard : (before : List HeardEvent) → g.C.Callback.has_heard l.fn.callback before → g.C.Callback.has_heard l.callback (before ++ heard_in (records_of (take l.place l.chain)));
    }
