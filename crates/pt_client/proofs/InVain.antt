-- What a command answers that has no result.
use Rattle.std.proofs.Common.{◌≡◌, ℕ, List, Ok, Err, refl, sym, ap, subst, inl, inr}
use Rattle.std.specs.Prelude.{◌≢◌}
use Rattle.ipc_body.specs.Reply.{reply_of}
use Rattle.ipc_body.specs.declared.reply.Reply.TheVariants as replies
use Rattle.ipc_take.specs.Own.{own_bytes}
use Rattle.ipc_call.specs.declared.fault.CallFault.{CallFault}
use Rattle.ipc_call.specs.declared.fault.CallFault.TheVariants as faults
use Rattle.pt_io.specs.declared.sink.Sink.{Ghosts as Sink}
use Rattle.pt_io.specs.Taken.{TookAll, TookPart}
use Rattle.pt_command.specs.declared.end.End.{End}
use Rattle.pt_command.specs.declared.end.End.TheVariants as ends
use Rattle.pt_command.specs.Says.{SaysLine}
use Rattle.pt_client.specs.declared.words.Command.{Command}
use Rattle.pt_client.specs.Lines.{peer_error, reply_error}
use Rattle.pt_client.specs.Answers.{Answer, IsAnsweredTo, answer_of, answer_to, stream_of, to_bad_reply, to_peer_error, wants_info}
use Rattle.pt_client.proofs.Silent.{none-taken}

-- The answer that is known was said.
said-answer : {O : Type 0} (sink : Sink O) (command : Command) (bytes : List ℕ) (old new : O) (answer : Answer) (end : End)
    → answer_of command bytes ≡ answer → SaysLine sink old new answer.text answer.end end → IsAnsweredTo sink old new command bytes end
said-answer sink command bytes old new answer end is (inl (inl said)) =
    let Ends : Answer → Type 0 = λ a. (end ≡ a.end) × TookAll sink.tells_taken sink.taken old new a.text in
    inl (subst Ends (sym is) (said.0, said.1.took))
said-answer sink command bytes old new answer end is (inl (inr broke)) =
    let Part : Answer → Type 0 = λ a. TookPart sink.tells_taken sink.taken old new a.text in
    inr (inl (broke.0, subst Part (sym is) broke.1.part))
said-answer sink command bytes old new answer end is (inr none) =
    inr (inr (inr none.0, none-taken sink.tells_taken sink.taken old new (stream_of command bytes) none.1))

pub answer-in-vain : {O : Type 0} (sink : Sink O) (command : Command) (bytes : List ℕ) (old mid new : O) (fault : CallFault) (end : End)
    → ((code : ℕ) → fault ≡ faults.PeerError code → reply_of (wants_info command) (own_bytes bytes) ≡ Ok (replies.Error code))
    → ((at : ℕ) → fault ≡ faults.BadReply at → reply_of (wants_info command) (own_bytes bytes) ≡ Err at)
    → ((code : ℕ) → fault ≡ faults.PeerError code → mid ≡ old)
    → ((at : ℕ) → fault ≡ faults.BadReply at → mid ≡ old)
    → (fault ≡ faults.WriteFault → TookPart sink.tells_taken sink.taken old mid (answer_of command bytes).text)
    → (fault ≢ faults.WriteFault → TookPart sink.tells_taken sink.taken old mid (stream_of command bytes))
    → ((code : ℕ) → fault ≡ faults.PeerError code → SaysLine sink mid new (peer_error code) (ends.PeerError code) end)
    → ((at : ℕ) → fault ≡ faults.BadReply at → SaysLine sink mid new (reply_error at) (ends.BadReply at) end)
    → (fault ≡ faults.LinkFault → (end ≡ ends.LinkFault) × (new ≡ mid))
    → (fault ≡ faults.WriteFault → (end ≡ ends.WriteFault) × (new ≡ mid))
    → (fault ≡ faults.OutOfMemory → (end ≡ ends.OutOfMemory) × (new ≡ mid))
    → IsAnsweredTo sink old new command bytes end
answer-in-vain sink command bytes old mid new (faults.PeerError code) end error bad no_stream no_reply unwritten part says_error says_bad link write memory =
    let is : answer_of command bytes ≡ to_peer_error code = ap (answer_to command bytes) (error code refl) in
    let Says : _ → Type 0 = λ o. SaysLine sink o new (peer_error code) (ends.PeerError code) end in
    said-answer sink command bytes old new (to_peer_error code) end is (subst Says (no_stream code refl) (says_error code refl))
answer-in-vain sink command bytes old mid new (faults.BadReply at) end error bad no_stream no_reply unwritten part says_error says_bad link write memory =
    let is : answer_of command bytes ≡ to_bad_reply at = ap (answer_to command bytes) (bad at refl) in
    let Says : _ → Type 0 = λ o. SaysLine sink o new (reply_error at) (ends.BadReply at) end in
    said-answer sink command bytes old new (to_bad_reply at) end is (subst Says (no_reply at refl) (says_bad at refl))
answer-in-vain sink command bytes old mid new faults.LinkFault end error bad no_stream no_reply unwritten part says_error says_bad link write memory =
    let Part : _ → Type 0 = λ o. TookPart sink.tells_taken sink.taken old o (stream_of command bytes) in
    inr (inr (inl (link refl).0, subst Part (sym (link refl).1) (part (λ is. cc))))
answer-in-vain sink command bytes old mid new faults.WriteFault end error bad no_stream no_reply unwritten part says_error says_bad link write memory =
    let Part : _ → Type 0 = λ o. TookPart sink.tells_taken sink.taken old o (answer_of command bytes).text in
    inr (inl ((write refl).0, subst Part (sym (write refl).1) (unwritten refl)))
answer-in-vain sink command bytes old mid new faults.OutOfMemory end error bad no_stream no_reply unwritten part says_error says_bad link write memory =
    let Part : _ → Type 0 = λ o. TookPart sink.tells_taken sink.taken old o (stream_of command bytes) in
    inr (inr (inr (memory refl).0, subst Part (sym (memory refl).1) (part (λ is. cc))))
