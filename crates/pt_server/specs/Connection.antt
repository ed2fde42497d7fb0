-- How one connection of a diagnostic server ends: by what was decided on it, what its link gave and what its link took
-- (the DOTNET_IPC_V1 protocol document of dotnet/diagnostics; that a connection carries one request, and which code
-- answers which finding, is this project's profile).
use Rattle.std.specs.Prelude.{◌≡◌, ◌≢◌, ℕ, Bool, ◌<◌, ◌++◌, ◌⊎◌, List, [], length, Ok, Err, IsTrue}
use Rattle.ep_defs.specs.declared.session.Config.{Config}
use Rattle.ep_defs.specs.declared.session.Facts.{Facts}
use Rattle.ep_defs.specs.declared.session.TraceInfo.{TraceInfo}
use Rattle.pt_io.specs.Sides.{ReadSide, WriteSide}
use Rattle.pt_io.specs.Taken.{IsPrefix, TookPartOf}
use Rattle.nt_write.specs.Canonical.{IsCanonical}
use Rattle.ipc_body.specs.declared.request.Request.{Request}
use Rattle.ipc_body.specs.declared.request.Request.TheVariants as request
use Rattle.ipc_body.specs.Answering.{error_reply, session_reply, info_reply}
use Rattle.ipc_take.specs.Own.{own_bytes}
use Rattle.ipc_serve.specs.declared.codes.TheConstants.{REFUSED, OUT_OF_MEMORY}
use Rattle.ipc_serve.specs.Decision.{asked_by}
use Rattle.ipc_serve.specs.Info.{info_of}
use Rattle.ep_journal.specs.declared.decision.Decision.{Decision}
use Rattle.ep_journal.specs.declared.decision.Decision.TheVariants as decision
use Rattle.pt_server.specs.declared.desk.ConnAnswer.{ConnAnswer}
use Rattle.pt_server.specs.declared.desk.ConnAnswer.TheVariants as answer

-- ---- before it is read

-- A link that was not used, but for the greeting that it took.
pub record IsFresh (greeting given taken : List ℕ) (read_faults write_faults : ℕ) : Type 0 where
  pub none : given ≡ []
  pub greeted : taken ≡ greeting
  pub reads : read_faults ≡ 0
  pub writes : write_faults ≡ 0

-- ---- what it gave

-- The link gave all of the message's own bytes and none after them, where it tells what it gives.
abbrev pub GaveMessage : ReadSide → Type 0
GaveMessage gave = IsTrue gave.tells → gave.given ≡ own_bytes (gave.given ++ gave.left)

-- The link gave no byte after the message, where it tells what it gives.
abbrev pub GavePart : ReadSide → Type 0
GavePart gave = IsTrue gave.tells → IsPrefix gave.given (own_bytes (gave.given ++ gave.left))

-- Its bytes are this request.
pub record HasAsked (gave : ReadSide) (asked : Request) : Type 0 where
  pub message : GaveMessage gave
  pub asks : IsTrue gave.tells → asked_by gave.given ≡ Ok asked
  pub sound : gave.faults ≡ 0

-- Its bytes are no request, by this code.
pub record HasFinding (gave : ReadSide) (code : ℕ) : Type 0 where
  pub message : GaveMessage gave
  pub finds : IsTrue gave.tells → asked_by gave.given ≡ Err code
  pub other : code ≢ REFUSED
  pub sound : gave.faults ≡ 0

-- It was not read to the end, or not answered as it asks, since memory was missing.
pub record LacksMemory (gave : ReadSide) (code : ℕ) : Type 0 where
  pub part : GavePart gave
  pub code_is : code ≡ OUT_OF_MEMORY
  pub sound : gave.faults ≡ 0

-- A read of it failed.
pub record HasReadFault (gave : ReadSide) : Type 0 where
  pub part : GavePart gave
  pub fault : 0 < gave.faults

-- ---- which answer is due

-- An error: a session was asked for while all slots were held, a stop was refused, or nothing was decided, since the
-- bytes are no request or memory was missing.
abbrev pub IsRefusal : Decision → ReadSide → ℕ → Type 0
IsRefusal decision.Nothing gave code = HasFinding gave code ⊎ LacksMemory gave code
IsRefusal (decision.Accepted id) gave code = ⊥
IsRefusal decision.Full gave code = (code ≡ REFUSED) × ((config : Config) × HasAsked gave (request.Collect config))
IsRefusal (decision.Ticket id) gave code = ⊥
IsRefusal (decision.Refused id) gave code = (code ≡ REFUSED) × HasAsked gave (request.Stop id)

-- The answer that is due, by what was decided and what the link gave.
abbrev pub IsDue : Decision → ReadSide → ConnAnswer → Type 0
IsDue d gave (answer.Error code) = IsRefusal d gave code
IsDue d gave answer.Info = (d ≡ decision.Nothing) × HasAsked gave request.Info
IsDue d gave (answer.Stopped id) = (d ≡ decision.Ticket id) × HasAsked gave (request.Stop id)
IsDue d gave answer.ReadFault = ⊥
IsDue d gave answer.WriteFault = ⊥

-- ---- what it took

-- The reply with which an answer is told.
abbrev pub reply_of : Facts → ConnAnswer → List ℕ
reply_of facts (answer.Error code) = error_reply code
reply_of facts answer.Info = info_reply (info_of facts)
reply_of facts (answer.Stopped id) = session_reply id
reply_of facts answer.ReadFault = []
reply_of facts answer.WriteFault = []

-- The link took these bytes after the greeting, where it tells what it takes, and no write of it failed.
pub record Took (greeting bytes : List ℕ) (took : WriteSide) : Type 0 where
  pub taken : IsTrue took.tells → took.taken ≡ greeting ++ bytes
  pub sound : took.faults ≡ 0

-- The link took a first part of these bytes, and then a write of it failed.
pub record TookCut (greeting bytes : List ℕ) (took : WriteSide) : Type 0 where
  pub part : IsTrue took.tells → TookPartOf bytes greeting took.taken
  pub fault : 0 < took.faults

-- What is told is the answer that is due, or that a write of the link failed.
abbrev pub IsTold : Facts → List ℕ → ConnAnswer → ConnAnswer → WriteSide → Type 0
IsTold facts greeting due told took =
    ((told ≡ due) × Took greeting (reply_of facts due) took)
    ⊎ ((told ≡ answer.WriteFault) × TookCut greeting (reply_of facts due) took)

-- ---- how it ends

-- It was answered as is due.
pub record WasAnswered (facts : Facts) (greeting : List ℕ) (d : Decision) (told : ConnAnswer) (gave : ReadSide) (took : WriteSide) : Type 0 where
  pub due : ConnAnswer
  pub is_due : IsDue d gave due
  pub is_told : IsTold facts greeting due told took

-- It was not read, and got no reply.
pub record WasLost (greeting : List ℕ) (d : Decision) (told : ConnAnswer) (gave : ReadSide) (took : WriteSide) : Type 0 where
  pub nothing : d ≡ decision.Nothing
  pub is_told : told ≡ answer.ReadFault
  pub lost : HasReadFault gave
  pub silent : Took greeting [] took

-- What was taken is the greeting and a first part of the reply of this session, or all of it and a first part of what
-- begins each stream of the process.
abbrev pub StartsWith : TraceInfo → List ℕ → ℕ → List ℕ → Type 0
StartsWith info greeting id taken =
    TookPartOf (session_reply id) greeting taken
    ⊎ ((start : List ℕ) × IsCanonical info [] start × TookPartOf start (greeting ++ session_reply id) taken)

-- The link took no more than a session's reply and what begins its stream, where it tells what it takes.
pub record TookStart (info : TraceInfo) (greeting : List ℕ) (tells : Bool) (taken : List ℕ) : Type 0 where
  pub id : ℕ
  pub part : IsTrue tells → StartsWith info greeting id taken

-- The link took more than the greeting, where it tells what it takes.
abbrev pub TookMore : List ℕ → WriteSide → Type 0
TookMore greeting took = IsTrue took.tells → length greeting < length took.taken

-- It asked for a session whose start failed: by a write, or for want of memory once something of it was written.
pub record WasCut (facts : Facts) (greeting : List ℕ) (d : Decision) (told : ConnAnswer) (gave : ReadSide) (took : WriteSide) : Type 0 where
  pub nothing : d ≡ decision.Nothing
  pub config : Config
  pub asked : HasAsked gave (request.Collect config)
  pub begun : TookStart facts.info greeting took.tells took.taken
  pub why : ((told ≡ answer.WriteFault) × (0 < took.faults)) ⊎ ((told ≡ answer.Error OUT_OF_MEMORY) × TookMore greeting took × (took.faults ≡ 0))

-- It ends in one of these ways.
abbrev pub IsEnded : Facts → List ℕ → Decision → ConnAnswer → ReadSide → WriteSide → Type 0
IsEnded facts greeting d told gave took =
    WasAnswered facts greeting d told gave took
    ⊎ WasLost greeting d told gave took
    ⊎ WasCut facts greeting d told gave took
