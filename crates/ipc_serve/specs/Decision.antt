-- The answer to the bytes of one connection, and the table of sessions after it (the DOTNET_IPC_V1 protocol document of
-- dotnet/diagnostics; codes of findings and their order are this project's profile).
use Rattle.std.specs.Prelude.{◌≡◌, ℕ, Bool, false, ◌⊎◌, List, Result, Ok, Err, IsTrue}
use Rattle.pt_num.specs.Steps.{◌>>=◌}
use Rattle.ep_defs.specs.declared.session.Config.{Config}
use Rattle.ep_defs.specs.declared.session.Facts.{Facts}
use Rattle.ep_table.specs.Sessions.{Sessions, accepted_by, after_accept, stop_answer, after_stop}
use Rattle.ep_table.specs.declared.table.Accepted.{Accepted}
use Rattle.ep_table.specs.declared.table.Accepted.TheVariants as accepted
use Rattle.ep_table.specs.declared.table.StopAnswer.{StopAnswer}
use Rattle.ep_table.specs.declared.table.StopAnswer.TheVariants as stopped
use Rattle.ipc_frame.specs.Message.{Message, Gap, Lacks, OtherMagic, SmallSize, found}
use Rattle.ipc_body.specs.declared.request.Request.{Request}
use Rattle.ipc_body.specs.declared.request.Request.TheVariants as request
use Rattle.ipc_body.specs.declared.request.RequestFault.{RequestFault}
use Rattle.ipc_body.specs.declared.request.RequestFault.TheVariants as fault
use Rattle.ipc_body.specs.Request.{request_of, is_collect}
use Rattle.ipc_body.specs.Answering.{error_reply, session_reply, info_reply}
use Rattle.ipc_serve.specs.declared.codes.TheConstants.{BAD_ENCODING, UNKNOWN_COMMAND, UNKNOWN_MAGIC, REFUSED, OUT_OF_MEMORY}
use Rattle.ipc_serve.specs.Info.{info_of}
use Rattle.ipc_serve.specs.declared.decision.Action.{Action}
use Rattle.ipc_serve.specs.declared.decision.Action.TheVariants as action

-- ---- what is asked for

-- Bytes that end before their message does, and a size that is too small, are badly encoded.
abbrev pub gap_code : Gap → ℕ
gap_code (Lacks bytes) = BAD_ENCODING
gap_code OtherMagic = UNKNOWN_MAGIC
gap_code (SmallSize size) = BAD_ENCODING

-- The code of a request that is refused.
abbrev pub fault_code : RequestFault → ℕ
fault_code fault.BadEncoding = BAD_ENCODING
fault_code fault.UnknownCommand = UNKNOWN_COMMAND
fault_code fault.OutOfMemory = OUT_OF_MEMORY

-- What is there, or the code of the fault.
abbrev pub or_code : {A E : Type 0} → (E → ℕ) → Result A E → Result A ℕ
or_code code (Ok value) = Ok value
or_code code (Err e) = Err (code e)

-- The request that the bytes begin with, or the code with which they are refused. The header is judged first, then the
-- command, then the body.
abbrev pub asked_by : List ℕ → Result Request ℕ
asked_by bytes = do
  message ← or_code gap_code (found bytes)
  or_code fault_code (request_of message.set message.command message.body)

-- The message is one that asks for a session.
abbrev pub asks_collect : Result Message Gap → Bool
asks_collect (Err gap) = false
asks_collect (Ok message) = is_collect message.set message.command

-- Memory is needed to read a request for a session, and to describe the program: for nothing else.
abbrev pub TakesMemory : List ℕ → Type 0
TakesMemory bytes = IsTrue (asks_collect (found bytes)) ⊎ (asked_by bytes ≡ Ok request.Info)

-- ---- what is answered

-- An error with this code is answered.
abbrev pub refused : ℕ → Action
refused code = action.Error code (error_reply code)

-- A session in its slot, or a refusal where all slots are held.
abbrev pub started : Config → Accepted → Action
started config (accepted.Seat slot id) = action.Start slot id config (session_reply id)
started config accepted.Full = refused REFUSED

-- A ticket for a live session, or a refusal.
abbrev pub ended : StopAnswer → Action
ended (stopped.Ticket ticket) = action.Stop ticket (session_reply ticket.id)
ended (stopped.NotLive id) = refused REFUSED

-- The program describes itself.
abbrev pub described : Facts → Action
described facts = action.Info (info_reply (info_of facts))

-- An answer and the table after it.
pub record Decision : Type 0 where
  pub action : Action
  pub table : Sessions

-- The answer to a request of this connection.
abbrev pub answer : Facts → Sessions → ℕ → Request → Decision
answer facts table conn (request.Collect config) =
    record { action = started config (accepted_by table); table = after_accept table }
answer facts table conn (request.Stop id) =
    record { action = ended (stop_answer table id conn); table = after_stop table id }
answer facts table conn request.Info = record { action = described facts; table = table }

-- A refused request leaves the table as it was.
abbrev pub answer_or_refuse : Facts → Sessions → ℕ → Result Request ℕ → Decision
answer_or_refuse facts table conn (Ok request) = answer facts table conn request
answer_or_refuse facts table conn (Err code) = record { action = refused code; table = table }

-- The answer to the bytes of this connection: the whole message, or what came before the link ended.
unfoldable pub decision : Facts → Sessions → ℕ → List ℕ → Decision
decision facts table conn bytes = answer_or_refuse facts table conn (asked_by bytes)

-- The answer and the table are those of the decision, unless memory is missing: it is answered with a code of its own,
-- and the table stays.
abbrev pub Decides : Decision → Sessions → Action → Sessions → Type 0
Decides wanted old done new =
    ((done ≡ wanted.action) × (new ≡ wanted.table)) ⊎ ((done ≡ refused OUT_OF_MEMORY) × (new ≡ old))

-- The same of a request that was read: only the description of the program still takes memory.
abbrev pub DecidesOn : Request → Decision → Sessions → Action → Sessions → Type 0
DecidesOn (request.Collect config) wanted old done new = (done ≡ wanted.action) × (new ≡ wanted.table)
DecidesOn (request.Stop id) wanted old done new = (done ≡ wanted.action) × (new ≡ wanted.table)
DecidesOn request.Info wanted old done new = Decides wanted old done new

-- What holds after an error.
abbrev pub OnError : Action → Type 0 → Type 0
OnError (action.Error code reply) P = P
OnError (action.Info reply) P = Unit {0}
OnError (action.Start slot id config reply) P = Unit {0}
OnError (action.Stop ticket reply) P = Unit {0}

-- The description of the process, unless memory is missing.
abbrev pub IsDescription : Facts → Action → Type 0
IsDescription facts done = (done ≡ described facts) ⊎ (done ≡ refused OUT_OF_MEMORY)
