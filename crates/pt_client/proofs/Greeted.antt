-- What is answered to a program that calls.
use Rattle.std.proofs.Common.{◌≡◌, ℕ, refl, sym, subst, ◌∙◌, inl, inr}
use Rattle.std.specs.Prelude.{◌≢◌}
use Rattle.ipc_call.specs.declared.fault.CallFault.{CallFault}
use Rattle.ipc_call.specs.declared.fault.CallFault.TheVariants as faults
use Rattle.pt_io.specs.declared.sink.Sink.{Ghosts as Sink}
use Rattle.pt_io.specs.Taken.{TookPart}
use Rattle.pt_command.specs.declared.end.End.{End}
use Rattle.pt_command.specs.declared.end.End.TheVariants as ends
use Rattle.pt_command.specs.Says.{SaysLine}
use Rattle.pt_client.specs.Lines.{peer_error, reply_error}
use Rattle.pt_client.specs.Answers.{Answer, to_bad_reply, to_peer_error}
use Rattle.pt_client.specs.Greeting.{IsAnsweredBy}

-- The answer was said.
said-by : {O : Type 0} (sink : Sink O) (old new : O) (answer : Answer) (end : End) → SaysLine sink old new answer.text answer.end end → IsAnsweredBy sink old new answer end
said-by sink old new answer end (inl (inl said)) = inl (said.0, said.1.took)
said-by sink old new answer end (inl (inr broke)) = inr (inl (broke.0, broke.1.part))
said-by sink old new answer end (inr none) = inr (inr (inr none.0, none.1))

-- The answer is that there is no result.
pub answered_in_vain : {O : Type 0} (sink : Sink O) (answer : Answer) (old mid new : O) (fault : CallFault) (end : End)
    → ((code : ℕ) → fault ≡ faults.PeerError code → answer ≡ to_peer_error code)
    → ((at : ℕ) → fault ≡ faults.BadReply at → answer ≡ to_bad_reply at)
    → (fault ≡ faults.WriteFault → TookPart sink.tells_taken sink.taken old mid answer.text)
    → (fault ≢ faults.WriteFault → mid ≡ old)
    → ((code : ℕ) → fault ≡ faults.PeerError code → SaysLine sink mid new (peer_error code) (ends.PeerError code) end)
    → ((at : ℕ) → fault ≡ faults.BadReply at → SaysLine sink mid new (reply_error at) (ends.BadReply at) end)
    → (fault ≡ faults.LinkFault → (end ≡ ends.LinkFault) × (new ≡ mid))
    → (fault ≡ faults.WriteFault → (end ≡ ends.WriteFault) × (new ≡ mid))
    → (fault ≡ faults.OutOfMemory → (end ≡ ends.OutOfMemory) × (new ≡ mid))
    → IsAnsweredBy sink old new answer end
answered_in_vain {O = O} sink answer old mid new (faults.PeerError code) end error bad unwritten silent says_error says_bad link write memory =
    let Says : O → Type 0 = λ o. SaysLine sink o new (peer_error code) (ends.PeerError code) end in
    subst (λ (a : Answer). IsAnsweredBy sink old new a end) (sym (error code refl))
    (said-by sink old new (to_peer_error code) end (subst Says (silent (λ is. cc)) (says_error code refl)))
answered_in_vain {O = O} sink answer old mid new (faults.BadReply at) end error bad unwritten silent says_error says_bad link write memory =
    let Says : O → Type 0 = λ o. SaysLine sink o new (reply_error at) (ends.BadReply at) end in
    subst (λ (a : Answer). IsAnsweredBy sink old new a end) (sym (bad at refl))
    (said-by sink old new (to_bad_reply at) end (subst Says (silent (λ is. cc)) (says_bad at refl)))
answered_in_vain sink answer old mid new faults.LinkFault end error bad unwritten silent says_error says_bad link write memory =
    inr (inr (inl (link refl).0, (link refl).1 ∙ silent (λ is. cc)))
answered_in_vain {O = O} sink answer old mid new faults.WriteFault end error bad unwritten silent says_error says_bad link write memory =
    let Part : O → Type 0 = λ o. TookPart sink.tells_taken sink.taken old o answer.text in
    inr (inl ((write refl).0, subst Part (sym (write refl).1) (unwritten refl)))
answered_in_vain sink answer old mid new faults.OutOfMemory end error bad unwritten silent says_error says_bad link write memory =
    inr (inr (inr (memory refl).0, (memory refl).1 ∙ silent (λ is. cc)))
