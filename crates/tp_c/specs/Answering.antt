-- What a call of C finds in its handle and leaves there, and what it answers.
use Rattle.std.specs.Prelude.{◌≡◌, ℕ, ◌⊎◌, true, List, Result, Ok, Err}
use Rattle.ep_defs.specs.declared.session.TraceInfo.{TraceInfo}
use Rattle.ep_defs.specs.Entry.{Entry}
use Rattle.pt_io.specs.Taken.{IsPrefix}
use Rattle.nt_write.specs.Canonical.{IsCanonical}
use Rattle.tp_c.specs.declared.codes.TheConstants.{OK}
use Rattle.tp_c.specs.declared.handle.Handle.{Handle}
use Rattle.tp_c.specs.declared.recorder.Recorder.{Recorder}
use Rattle.tp_c.specs.declared.refusal.Refusal.{Refusal}
use Rattle.tp_c.specs.Codes.{code_of}
use Rattle.tp_c.specs.Recording.{IsRecording, IsCut}

-- The recorder of a live handle.
abbrev pub recorder_in : Handle → Recorder
recorder_in handle = handle.vault.value

-- All is as before.
pub record IsSame (old new : Handle) : Type 0 where
  pub live : new.live ≡ old.live
  pub recorder : recorder_in new ≡ recorder_in old

-- The handle is live, and stands for exactly these entries, of whose stream these bytes were pulled.
pub record Records (info : TraceInfo) (entries : List Entry) (pulled : List ℕ) (handle : Handle) : Type 0 where
  pub live : handle.live ≡ true
  pub recording : IsRecording info entries pulled (recorder_in handle)

-- The handle is live, and its stream was cut amid the last of these entries.
pub record WasCut (info : TraceInfo) (entries : List Entry) (pulled : List ℕ) (handle : Handle) : Type 0 where
  pub live : handle.live ≡ true
  pub cut : IsCut info entries pulled (recorder_in handle)

-- One of these: of the stream of these entries, whole so far or cut amid the last of them, these bytes were pulled.
abbrev pub HasPulled : TraceInfo → List Entry → List ℕ → Handle → Type 0
HasPulled info entries pulled handle = Records info entries pulled handle ⊎ WasCut info entries pulled handle

-- The bytes begin the canonical stream of the entries.
abbrev pub Begins : TraceInfo → List Entry → List ℕ → Type 0
Begins info entries bytes = (all : List ℕ) × IsCanonical info entries all × IsPrefix bytes all

-- The code of an answer.
abbrev pub answer_of : {A : Type 0} → Result A Refusal → ℕ
answer_of (Ok value) = OK
answer_of (Err refusal) = code_of refusal
