-- What the command `greet` answers to a program that calls, and what it writes (this project's profile).
use Rattle.std.specs.Prelude.{◌≡◌, ◌≢◌, ℕ, ◌+◌, ◌++◌, true, ◌⊎◌, List, [], ◌∷◌, codes, take, drop, Option, Some, None, option_and_then, if◌then◌else◌, IsTrue, IfSome, IfNone}
use Rattle.ep_defs.specs.Event.{is_same_text}
use Rattle.pt_io.specs.declared.dock.Dock.{Ghosts as Dock}
use Rattle.pt_io.specs.declared.sink.Sink.{Ghosts as Sink}
use Rattle.pt_io.specs.declared.source.Source.{Ghosts as Source}
use Rattle.pt_io.specs.Faults.{HasRisen}
use Rattle.pt_io.specs.Taken.{TookAll, TookPart, TookPartOf}
use Rattle.pt_command.specs.declared.end.End.{End}
use Rattle.pt_command.specs.declared.end.End.TheVariants as ends
use Rattle.pt_command.specs.Says.{Says}
use Rattle.pt_words.specs.Target.{target_in}
use Rattle.pt_words.specs.Words.{one_in}
use Rattle.ipc_body.specs.Asking.{info_request}
use Rattle.ipc_body.specs.Reply.{reply_of}
use Rattle.ipc_take.specs.Own.{own_bytes}
use Rattle.ipc_reverse.specs.declared.limits.TheConstants.{ADVERT_BYTES}
use Rattle.ipc_reverse.specs.declared.message.TakenAdvert.{TakenAdvert}
use Rattle.ipc_reverse.specs.declared.message.TakenAdvert.TheVariants as taken
use Rattle.ipc_reverse.specs.Advert.{advert_in}
use Rattle.pt_client.specs.declared.words.Command.TheVariants as command
use Rattle.pt_client.specs.Answers.{Answer, answer_to, to_bad_reply, HasFaults}
use Rattle.pt_client.specs.Lines.{no_peer, peer_error, reply_error}

-- The words are `greet TARGET`: the path of the socket.
abbrev pub greet_in : List (List ℕ) → Option (List ℕ)
greet_in [] = None
greet_in (name ∷ words) = if is_same_text name (codes "greet") then option_and_then target_in (one_in words) else None

-- ---- what is answered

-- The answer to bytes behind a message that says who calls: its reply to what it is asked. A message that is none is answered
-- as a reply that is none.
abbrev pub answer_behind : TakenAdvert → List ℕ → Answer
answer_behind (taken.Advert cookie process_id) bytes = answer_to (command.Ps []) bytes (reply_of true (own_bytes bytes))
answer_behind (taken.BadAdvert at) bytes = to_bad_reply at

-- The answer to all the bytes that a program has to give which calls.
abbrev pub greeted : List ℕ → Answer
greeted bytes = answer_behind (advert_in (take ADVERT_BYTES bytes)) (drop ADVERT_BYTES bytes)

-- The command ended with this answer, or an output, a link or memory failed before.
abbrev pub IsAnsweredBy : {O : Type 0} → Sink O → O → O → Answer → End → Type 0
IsAnsweredBy sink old new answer end =
    ((end ≡ answer.end) × TookAll sink.tells_taken sink.taken old new answer.text)
    ⊎ ((end ≡ ends.WriteFault) × TookPart sink.tells_taken sink.taken old new answer.text)
    ⊎ (((end ≡ ends.LinkFault) ⊎ (end ≡ ends.OutOfMemory)) × (new ≡ old))

-- ---- how it comes

-- Nobody came: the dock was closed, which is said, or it failed, or there was no memory to ask it.
abbrev pub HasNobody : {O D L : Type 0} → Sink O → Dock D L → O → O → D → D → End → Type 0
HasNobody sink dock output_old output_new dock_old dock_new end =
    (IsTrue (dock.is_closed dock_new) × (dock.dock_faults dock_new ≡ dock.dock_faults dock_old) × Says sink output_old output_new no_peer (ends.Refused 0) end)
    ⊎ ((end ≡ ends.LinkFault) × HasRisen (dock.dock_faults dock_old) (dock.dock_faults dock_new) × (output_new ≡ output_old))
    ⊎ ((end ≡ ends.OutOfMemory) × (dock_new ≡ dock_old) × (output_new ≡ output_old))

-- The command ended so, with the link to the first program that called.
pub record Greets {O D L : Type 0} (sink : Sink O) (dock : Dock D L) (source : Source L) (takes : Sink L)
    (output_old output_new : O) (dock_old dock_new : D) (peer : Option L) (end : End) : Type 0 where
  -- the answer to what the program says, where its link tells it
  pub answered : IfSome peer (λ link. IsTrue (source.tells_given link)
      → IsAnsweredBy sink output_old output_new (greeted (source.given link ++ source.left link)) end)
  pub peer_line : (code : ℕ) → end ≡ ends.PeerError code → TookAll sink.tells_taken sink.taken output_old output_new (peer_error code)
  pub reply_line : (at : ℕ) → end ≡ ends.BadReply at → TookAll sink.tells_taken sink.taken output_old output_new (reply_error at)
  -- behind what it had taken when it came, the link took the request and nothing else
  pub asked : end ≡ ends.Done → (link : L) × (peer ≡ Some link) × (IsTrue (takes.tells_taken link) → takes.taken link ≡ dock.greeting dock_old ++ info_request)
  pub asked_part : IfSome peer (λ link. IsTrue (takes.tells_taken link) → TookPartOf info_request (dock.greeting dock_old) (takes.taken link))
  -- it is the first that came, or nobody came
  pub came : IfSome peer (λ _. dock.arrivals dock_new ≡ dock.arrivals dock_old + 1)
  pub none : IfNone peer (dock.arrivals dock_new ≡ dock.arrivals dock_old)
  pub nobody : IfNone peer (HasNobody sink dock output_old output_new dock_old dock_new end)
  pub refused : (at : ℕ) → end ≡ ends.Refused at → (at ≡ 0) × (peer ≡ None)
  -- a fault comes only from the object that was handed in, in this call, or from its link
  pub link_fault : end ≡ ends.LinkFault → HasRisen (dock.dock_faults dock_old) (dock.dock_faults dock_new)
      ⊎ ((link : L) × (peer ≡ Some link) × HasFaults source takes link)
  pub sound : end ≢ ends.LinkFault → (dock.dock_faults dock_new ≡ dock.dock_faults dock_old)
      × IfSome peer (λ link. (source.read_faults link ≡ 0) × (takes.write_faults link ≡ 0))
  pub write_fault : end ≡ ends.WriteFault → HasRisen (sink.write_faults output_old) (sink.write_faults output_new)
  pub all_written : end ≢ ends.WriteFault → sink.write_faults output_new ≡ sink.write_faults output_old
  pub ends : (end ≡ ends.Done) ⊎ (end ≡ ends.WriteFault) ⊎ (end ≡ ends.LinkFault) ⊎ (end ≡ ends.Refused 0)
      ⊎ ((code : ℕ) × (end ≡ ends.PeerError code)) ⊎ ((at : ℕ) × (end ≡ ends.BadReply at)) ⊎ (end ≡ ends.OutOfMemory)
