-- What a client's command answers to the bytes of a peer, and what it writes (this project's profile).
use Rattle.std.specs.Prelude.{◌≡◌, ◌≢◌, ℕ, ◌+◌, ◌<◌, ◌≤◌, ◌++◌, Bool, true, false, ◌⊎◌, List, [], length, Result, Ok, Err, Option, Some, IsTrue, IfSome, IfNone}
use Rattle.pt_io.specs.declared.caller.Caller.{Ghosts as Caller}
use Rattle.pt_io.specs.declared.sink.Sink.{Ghosts as Sink}
use Rattle.pt_io.specs.declared.source.Source.{Ghosts as Source}
use Rattle.pt_io.specs.Faults.{HasRisen}
use Rattle.pt_io.specs.Taken.{TookAll, TookPart, IsPrefix}
use Rattle.pt_command.specs.declared.end.End.{End}
use Rattle.pt_command.specs.declared.end.End.TheVariants as ends
use Rattle.ipc_frame.specs.declared.limits.TheConstants.{MESSAGE_BYTES}
use Rattle.ipc_body.specs.Asking.{collect_request, stop_request, info_request}
use Rattle.ipc_body.specs.Reply.{reply_of}
use Rattle.ipc_body.specs.declared.reply.Reply.{Reply}
use Rattle.ipc_body.specs.declared.reply.Reply.TheVariants as reply
use Rattle.ipc_take.specs.Own.{own_bytes, later_bytes}
use Rattle.pt_client.specs.declared.words.Command.{Command}
use Rattle.pt_client.specs.declared.words.Command.TheVariants as command
use Rattle.pt_client.specs.Lines.{stopped_line, process_line, peer_error, reply_error}

-- ---- what is asked

-- Whom a command calls.
abbrev pub target_of : Command → List ℕ
target_of (command.Collect target megabytes rules) = target
target_of (command.Stop target id) = target
target_of (command.Ps target) = target

-- The request that it sends.
abbrev pub request_of : Command → List ℕ
request_of (command.Collect target megabytes rules) = collect_request megabytes rules
request_of (command.Stop target id) = stop_request id
request_of (command.Ps target) = info_request

-- The request fits a message.
abbrev pub Fits : Command → Type 0
Fits (command.Collect target megabytes rules) = length (collect_request megabytes rules) ≤ MESSAGE_BYTES
Fits (command.Stop target id) = Unit {0}
Fits (command.Ps target) = Unit {0}

-- Whether its reply describes a program, or else names a session.
abbrev pub wants_info : Command → Bool
wants_info (command.Collect target megabytes rules) = false
wants_info (command.Stop target id) = false
wants_info (command.Ps target) = true

-- ---- what is answered

-- How a command ends, and what it writes.
pub record Answer : Type 0 where
  pub end : End
  pub text : List ℕ

-- The answer to an OK reply.
abbrev pub done_with : List ℕ → Answer
done_with text = record { end = ends.Done; text = text }

-- The answer to an error.
abbrev pub to_peer_error : ℕ → Answer
to_peer_error code = record { end = ends.PeerError code; text = peer_error code }

-- The answer to what is no reply, with the offset of its first wrong field.
abbrev pub to_bad_reply : ℕ → Answer
to_bad_reply at = record { end = ends.BadReply at; text = reply_error at }

-- The text for an OK reply in these bytes: the stream after it, or a line.
abbrev pub text_for : Command → List ℕ → Reply → List ℕ
text_for (command.Collect target megabytes rules) bytes reply = later_bytes bytes
text_for (command.Stop target number) bytes (reply.Session id) = stopped_line id
text_for (command.Ps target) bytes (reply.Info info) = process_line info
text_for command bytes reply = []

-- The answer to what the bytes say.
abbrev pub answer_to : Command → List ℕ → Result Reply ℕ → Answer
answer_to command bytes (Ok (reply.Error code)) = to_peer_error code
answer_to command bytes (Ok (reply.Session id)) = done_with (text_for command bytes (reply.Session id))
answer_to command bytes (Ok (reply.Info info)) = done_with (text_for command bytes (reply.Info info))
answer_to command bytes (Err at) = to_bad_reply at

-- The answer to all the bytes that a peer has to give. Its reply is judged up to the reply's own size.
abbrev pub answer_of : Command → List ℕ → Answer
answer_of command bytes = answer_to command bytes (reply_of (wants_info command) (own_bytes bytes))

-- What is written before the peer's answer is known whole: the stream piece by piece, and no line.
abbrev pub stream_of : Command → List ℕ → List ℕ
stream_of (command.Collect target megabytes rules) bytes = later_bytes bytes
stream_of (command.Stop target id) bytes = []
stream_of (command.Ps target) bytes = []

-- ---- how it comes

-- The answer is an OK reply's, and was written whole.
abbrev pub IsDone : {S : Type 0} → (S → Bool) → (S → List ℕ) → S → S → Answer → Type 0
IsDone tells taken old new answer = (answer.end ≡ ends.Done) × TookAll tells taken old new answer.text

-- The command ended with the answer to the bytes, or an output, a link or memory failed before.
abbrev pub IsAnsweredTo : {O : Type 0} → Sink O → O → O → Command → List ℕ → End → Type 0
IsAnsweredTo sink old new command bytes end =
    ((end ≡ (answer_of command bytes).end) × TookAll sink.tells_taken sink.taken old new (answer_of command bytes).text)
    ⊎ ((end ≡ ends.WriteFault) × TookPart sink.tells_taken sink.taken old new (answer_of command bytes).text)
    ⊎ (((end ≡ ends.LinkFault) ⊎ (end ≡ ends.OutOfMemory)) × TookPart sink.tells_taken sink.taken old new (stream_of command bytes))

-- The link's peer is one that a call of the target gave, and has still what it had to give.
pub record IsPeerOf {L : Type 0} (source : Source L) (LeadsTo : List ℕ → L → Type 0) (target : List ℕ) (link : L) : Type 0 where
  pub fresh : L
  pub leads : LeadsTo target fresh
  pub told : source.tells_given link ≡ source.tells_given fresh
  pub whole : IsTrue (source.tells_given fresh) → source.given link ++ source.left link ≡ source.left fresh

-- A read or a write of the link failed.
abbrev pub HasFaults : {L : Type 0} → Source L → Sink L → L → Type 0
HasFaults source sink link = (0 < source.read_faults link) ⊎ (0 < sink.write_faults link)

-- The command ended so, with the link to the peer that was called.
pub record Asks {O K L : Type 0} (sink : Sink O) (caller : Caller K L) (source : Source L) (takes : Sink L) (command : Command)
    (output_old output_new : O) (caller_old caller_new : K) (peer : Option L) (end : End) : Type 0 where
  -- the answer to what the peer says, where the link tells it
  pub answered : IfSome peer (λ link. IsTrue (source.tells_given link)
      → IsAnsweredTo sink output_old output_new command (source.given link ++ source.left link) end)
  pub peer_line : (code : ℕ) → end ≡ ends.PeerError code → TookAll sink.tells_taken sink.taken output_old output_new (peer_error code)
  pub reply_line : (at : ℕ) → end ≡ ends.BadReply at → TookAll sink.tells_taken sink.taken output_old output_new (reply_error at)
  -- the peer is the one at the target, and took the request
  pub target : IfSome peer (IsPeerOf source caller.leads_to (target_of command))
  pub asked : end ≡ ends.Done → (link : L) × (peer ≡ Some link) × (IsTrue (takes.tells_taken link) → takes.taken link ≡ request_of command)
  pub asked_part : IfSome peer (λ link. IsTrue (takes.tells_taken link) → IsPrefix (takes.taken link) (request_of command))
  pub called : IfSome peer (λ _. caller.links caller_new ≡ caller.links caller_old + 1)
  pub uncalled : IfNone peer (((end ≡ ends.LinkFault) ⊎ (end ≡ ends.OutOfMemory)) × (caller.links caller_new ≡ caller.links caller_old) × (output_new ≡ output_old))
  -- a fault comes only from the object that was handed in, in this call, or from its link
  pub link_fault : end ≡ ends.LinkFault → HasRisen (caller.call_faults caller_old) (caller.call_faults caller_new)
      ⊎ ((link : L) × (peer ≡ Some link) × HasFaults source takes link)
  pub sound : end ≢ ends.LinkFault → (caller.call_faults caller_new ≡ caller.call_faults caller_old)
      × IfSome peer (λ link. (source.read_faults link ≡ 0) × (takes.write_faults link ≡ 0))
  pub write_fault : end ≡ ends.WriteFault → HasRisen (sink.write_faults output_old) (sink.write_faults output_new)
  pub all_written : end ≢ ends.WriteFault → sink.write_faults output_new ≡ sink.write_faults output_old
  pub ends : (end ≡ ends.Done) ⊎ (end ≡ ends.WriteFault) ⊎ (end ≡ ends.LinkFault)
      ⊎ ((code : ℕ) × (end ≡ ends.PeerError code)) ⊎ ((at : ℕ) × (end ≡ ends.BadReply at)) ⊎ (end ≡ ends.OutOfMemory)
