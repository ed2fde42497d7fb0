-- A text that is written in one write (this project's profile).
use Rattle.std.specs.Prelude.{◌≡◌, ℕ, ◌⊎◌, List}
use Rattle.pt_io.specs.declared.sink.Sink.{Ghosts as Sink}
use Rattle.pt_io.specs.Faults.{HasRisen}
use Rattle.pt_io.specs.Taken.{TookAll, TookPart}
use Rattle.pt_command.specs.declared.end.End.{End}
use Rattle.pt_command.specs.declared.end.End.TheVariants as ends

-- The output took the whole text, and its count of faults is as before.
pub record TookText {O : Type 0} (sink : Sink O) (old new : O) (text : List ℕ) : Type 0 where
  pub took : TookAll sink.tells_taken sink.taken old new text
  pub sound : sink.write_faults new ≡ sink.write_faults old

-- A write of the text failed: the output took a part of it, and its count of faults has risen.
pub record BrokeOff {O : Type 0} (sink : Sink O) (old new : O) (text : List ℕ) : Type 0 where
  pub part : TookPart sink.tells_taken sink.taken old new text
  pub fault : HasRisen (sink.write_faults old) (sink.write_faults new)

-- The text was written and the command ended as it was to, or the write failed.
abbrev pub Says : {O : Type 0} → Sink O → O → O → List ℕ → End → End → Type 0
Says sink old new text end result =
    ((result ≡ end) × TookText sink old new text) ⊎ ((result ≡ ends.WriteFault) × BrokeOff sink old new text)

-- So it was with a line, or there was no memory for it and nothing was written.
abbrev pub SaysLine : {O : Type 0} → Sink O → O → O → List ℕ → End → End → Type 0
SaysLine sink old new text end result = Says sink old new text end result ⊎ ((result ≡ ends.OutOfMemory) × (new ≡ old))

-- One of these texts was said, each with its end, or there was no memory for it and nothing was written.
abbrev pub SaysOne : {O : Type 0} → Sink O → O → O → (List ℕ → End → Type 0) → End → Type 0
SaysOne sink old new IsAnswer result =
    ((text : List ℕ) × (end : End) × IsAnswer text end × Says sink old new text end result) ⊎ ((result ≡ ends.OutOfMemory) × (new ≡ old))
