-- What the command `watch` comes to (this project's theorem).
use Rattle.std.specs.Prelude.{◌≡◌, ◌≢◌, ℕ, ◌⊎◌, Bool, true, false, List, [], Option, None, IfSome}
use Rattle.ep_defs.specs.declared.session.Marks.{Marks}
use Rattle.ep_listen.specs.Heard.{HeardEvent}
use Rattle.ep_pool.specs.Shared.{SeatState}
use Rattle.pt_asked.specs.declared.words.Asked.{Asked}
use Rattle.pt_command.specs.declared.end.End.{End}
use Rattle.pt_command.specs.declared.end.End.TheVariants as ends
use Rattle.pt_command.specs.Says.{SaysLine}
use Rattle.pt_io.specs.declared.sink.Sink.{Ghosts as Sink}
use Rattle.pt_io.specs.Faults.{HasRisen}
use Rattle.pt_listen.specs.Watched.{AreWatched}
use Rattle.pt_writers.specs.Whole.{AreWhole, IsSpent}
use Rattle.pt_writers.specs.Written.{rows_of}
use Rattle.pt_watch.specs.Lines.{watch_text}

-- How it ends, and what is written: nothing where the callback was out of memory, and else this text.
abbrev pub Tells : {O : Type 0} → Sink O → O → O → List ℕ → Bool → End → Type 0
Tells sink old new text true end = (end ≡ ends.OutOfMemory) × (new ≡ old)
Tells sink old new text false end = SaysLine sink old new text ends.Done end

-- The run came to these rows and marks, and this seat of its session's pool. What was heard of each thread is what it wrote and
-- the session admits, in order, less what was refused; and the lines that tell it were written in one write, or in part, or
-- there was no memory for them.
pub record WatchedTo {O : Type 0} (sink : Sink O) (asked : Asked) (old new : O) (rows : List (ℕ × ℕ)) (marks : List Marks) (end : End) (seat : SeatState) : Type 0 where
  -- each thread made all its writes, and the session was open on it from the first to the last
  pub written : rows ≡ rows_of asked.plan
  pub whole : AreWhole asked.plan asked.config marks
  -- the session's pool had the budget's chunks, all of them back, and was found dry once for each event that was refused
  pub spent : IsSpent asked.config marks seat
  pub failed : Bool
  pub heard : List HeardEvent
  pub watched : AreWatched asked.plan asked.config failed marks heard
  pub told : Tells sink old new (watch_text marks heard) failed end

-- The command ended so, with these rows and marks, and this seat of the session's pool.
pub record Watches {O : Type 0} (sink : Sink O) (asked : Asked) (old new : O) (rows : List (ℕ × ℕ)) (seat : Option SeatState) (marks : List Marks) (end : End) : Type 0 where
  pub watched : IfSome seat (WatchedTo sink asked old new rows marks end)
  -- without the memory to begin nothing was written
  pub none : seat ≡ None → (end ≡ ends.OutOfMemory) × (new ≡ old) × (rows ≡ []) × (marks ≡ [])
  -- a fault comes only from the output, in this call
  pub write_fault : end ≡ ends.WriteFault → HasRisen (sink.write_faults old) (sink.write_faults new)
  pub all_written : end ≢ ends.WriteFault → sink.write_faults new ≡ sink.write_faults old
  pub ends : (end ≡ ends.Done) ⊎ (end ≡ ends.WriteFault) ⊎ (end ≡ ends.OutOfMemory)
