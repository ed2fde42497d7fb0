-- What the command `trace` comes to (this project's theorem).
use Rattle.std.specs.Prelude.{◌≡◌, ◌≢◌, ℕ, ◌*◌, ◌≤◌, ◌⊎◌, List, [], Option, IsTrue}
use Rattle.ep_defs.specs.declared.session.Marks.{Marks}
use Rattle.ep_defs.specs.Session.{standard_info_of}
use Rattle.ep_pool.specs.Shared.{SeatState}
use Rattle.ep_stream.specs.declared.session.Fate.{Fate}
use Rattle.ep_stream.specs.declared.session.Fate.TheVariants as fates
use Rattle.nt_write.specs.declared.limits.TheConstants.{FRAMED_EVENTS}
use Rattle.pt_io.specs.declared.sink.Sink.{Ghosts as Sink}
use Rattle.pt_io.specs.Faults.{HasRisen}
use Rattle.pt_command.specs.declared.end.End.{End}
use Rattle.pt_command.specs.declared.end.End.TheVariants as ends
use Rattle.pt_live.specs.Trace.{rows_of, AreWhole, HasSpent, IsLong, TookSome, TookTrace, TookUnwritten}
use Rattle.pt_asked.specs.declared.words.Asked.{Asked}

-- How the command ends where the session over the run ended so. Nobody asks for the end of that session.
abbrev pub IsEndOf : Fate → End → Type 0
IsEndOf fates.ProgramEnd end = end ≡ ends.Done
IsEndOf fates.LinkFault end = end ≡ ends.WriteFault
IsEndOf fates.TooLong end = end ≡ ends.TooLong
IsEndOf fates.OutOfMemory end = end ≡ ends.OutOfMemory
IsEndOf (fates.Requested conn) end = ⊥

-- The command ended so, with these rows and marks, and this seat of the session's pool.
pub record TracesTo {O : Type 0} (sink : Sink O) (asked : Asked) (old new : O) (rows : List (ℕ × ℕ)) (seat : Option SeatState) (marks : List Marks) (end : End) : Type 0 where
  -- the output took the stream of all that the session got of the threads' writes, from each thread's first to its last
  pub done : end ≡ ends.Done → IsTrue (sink.tells_taken old)
      → TookTrace (standard_info_of 1 1) asked.plan asked.config marks (sink.taken old) (sink.taken new)
  -- it took a part of such a stream
  pub part : (end ≡ ends.WriteFault) ⊎ (end ≡ ends.TooLong) → IsTrue (sink.tells_taken old)
      → TookSome (standard_info_of 1 1) asked.plan asked.config marks (sink.taken old) (sink.taken new)
  pub memory : end ≡ ends.OutOfMemory → IsTrue (sink.tells_taken old)
      → TookSome (standard_info_of 1 1) asked.plan asked.config marks (sink.taken old) (sink.taken new)
      ⊎ TookUnwritten (standard_info_of 1 1) asked.plan asked.config (sink.taken old) (sink.taken new)
  -- each thread made all its writes, and the session was open on it from the first to the last
  pub written : end ≢ ends.OutOfMemory → rows ≡ rows_of asked.plan
  pub whole : (end ≡ ends.Done) ⊎ (end ≡ ends.TooLong) → AreWhole asked.plan asked.config marks
  -- or on none
  pub whole_or_none : (end ≡ ends.WriteFault) ⊎ (end ≡ ends.OutOfMemory) → AreWhole asked.plan asked.config marks ⊎ (marks ≡ [])
  -- the session's pool had the budget's chunks, all of them back, and was found dry once for each event that was refused
  pub spent : HasSpent asked.config marks seat
  -- a stream is too long only for more events than it has ids for stacks
  pub too_long : end ≡ ends.TooLong → IsLong asked.plan asked.config marks
  pub short : asked.plan.threads * asked.plan.writes ≤ FRAMED_EVENTS → end ≢ ends.TooLong
  -- a fault comes only from the output, in this call, and no write of it failed where the run ended otherwise
  pub write_fault : end ≡ ends.WriteFault → HasRisen (sink.write_faults old) (sink.write_faults new)
  pub all_written : (end ≡ ends.Done) ⊎ (end ≡ ends.TooLong) → sink.write_faults new ≡ sink.write_faults old
  pub ends : (end ≡ ends.Done) ⊎ (end ≡ ends.WriteFault) ⊎ (end ≡ ends.OutOfMemory) ⊎ (end ≡ ends.TooLong)
