-- What a peer said where a call has no result, and what its link is then (this project's profile).
use Rattle.std.specs.Prelude.{◌≡◌, ℕ, Bool, List, ◌++◌, IsTrue, Result, Ok, Err}
use Rattle.ipc_body.specs.Reply.{reply_of}
use Rattle.ipc_body.specs.declared.reply.Reply.TheVariants as replies
use Rattle.ipc_take.specs.Own.{own_bytes}
use Rattle.ipc_call.specs.declared.fault.CallFault.{CallFault}
use Rattle.ipc_call.specs.declared.fault.CallFault.TheVariants.{PeerError, BadReply}

-- Where the result is the peer's error, that is what the reply says, in what the link had, where the link tells it.
abbrev pub SaysError : {A : Type 0} → Bool → Bool → List ℕ → Result A CallFault → Type 0
SaysError tells wants_info left result =
    (code : ℕ) → result ≡ Err (PeerError code) → IsTrue tells → reply_of wants_info (own_bytes left) ≡ Ok (replies.Error code)

-- Where the result is a bad reply, the first wrong byte of it is there, in what the link had, where the link tells it.
abbrev pub SaysBadly : {A : Type 0} → Bool → Bool → List ℕ → Result A CallFault → Type 0
SaysBadly tells wants_info left result =
    (at : ℕ) → result ≡ Err (BadReply at) → IsTrue tells → reply_of wants_info (own_bytes left) ≡ Err at

-- The link has what it had, where it tells that: what it gave then and what it has left.
abbrev pub LosesNothing : {L : Type 0} → (L → Bool) → (L → List ℕ) → (L → List ℕ) → L → L → Type 0
LosesNothing tells given left old new = IsTrue (tells old) → given new ++ left new ≡ given old ++ left old
