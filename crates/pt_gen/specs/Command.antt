-- What the command `gen` comes to (this project's profile).
use Rattle.std.specs.Prelude.{◌≡◌, ◌≢◌, ◌⊎◌}
use Rattle.pt_io.specs.declared.sink.Sink.{Ghosts as Sink}
use Rattle.pt_io.specs.Faults.{HasRisen}
use Rattle.pt_io.specs.Taken.{TookAll, TookPart}
use Rattle.pt_command.specs.declared.end.End.{End}
use Rattle.pt_command.specs.declared.end.End.TheVariants as ends
use Rattle.pt_gen.specs.declared.words.Asked.{Asked}
use Rattle.pt_gen.specs.Summary.{gen_text}

-- The command ended so. A schedule is made whole before anything is written.
pub record Generates {O : Type 0} (sink : Sink O) (asked : Asked) (output_old output_new : O) (end : End) : Type 0 where
  pub done : end ≡ ends.Done → TookAll sink.tells_taken sink.taken output_old output_new (gen_text asked.seed asked.writes)
  pub written_part : end ≡ ends.WriteFault → TookPart sink.tells_taken sink.taken output_old output_new (gen_text asked.seed asked.writes)
  pub memory : end ≡ ends.OutOfMemory → output_new ≡ output_old
  -- a fault comes only from the output, in this call
  pub write_fault : end ≡ ends.WriteFault → HasRisen (sink.write_faults output_old) (sink.write_faults output_new)
  pub all_written : end ≢ ends.WriteFault → sink.write_faults output_new ≡ sink.write_faults output_old
  pub ends : (end ≡ ends.Done) ⊎ (end ≡ ends.WriteFault) ⊎ (end ≡ ends.OutOfMemory)
