-- What the link took of a session that could not be started.
use Rattle.std.proofs.Common.{◌≡◌, ℕ, ◌++◌, Bool, List, IsTrue, inl, inr, ap, ◌∙◌, sym, subst}
use Rattle.ep_defs.specs.declared.session.TraceInfo.{TraceInfo}
use Rattle.ep_stream.specs.Session.{TookStart as TookSessionStart}
use Rattle.ipc_body.specs.Answering.{session_reply}
use Rattle.pt_io.specs.Taken.{TookPartOf}
use Rattle.pt_server.specs.Connection.{StartsWith, TookStart}
use Rattle.pt_server.specs.Served.{ServedState}

-- Where a stream could not be started, its link took no more than the reply and what begins a stream.
pub took-start : {S : Type 0} (tells : S → Bool) (taken : S → List ℕ) (id : ℕ) (greeting : List ℕ) (info : TraceInfo) (old new : S)
    → (IsTrue (tells old) → taken old ≡ greeting) → tells new ≡ tells old → TookSessionStart tells taken (session_reply id) info old new → TookStart info greeting (tells new) (taken new)
took-start {S} tells taken id greeting info old new greeted told start =
    record { id = id; part = by start }
  where
    by : TookSessionStart tells taken (session_reply id) info old new → IsTrue (tells new) → StartsWith info greeting id (taken new)
    by (inl part) tell =
        let before : IsTrue (tells old) = subst IsTrue told tell in
        inl (subst (λ (b : List ℕ). TookPartOf (session_reply id) b (taken new)) (greeted before) (part before))
    by (inr begun) tell =
        let before : IsTrue (tells old) = subst IsTrue told tell in
        let start = begun.2 tell in
        let behind : begun.0 ≡ greeting ++ session_reply id = begun.1 before ∙ ap (λ (b : List ℕ). b ++ session_reply id) (greeted before) in
        inr (start.0, start.2, (start.1, start.3, start.4 ∙ ap (λ (b : List ℕ). b ++ start.1) behind))

-- The same of the link of a session that was asked for.
pub served-start : {L : Type 0} (tells : L → Bool) (taken : L → List ℕ) (id : ℕ) (reply greeting : List ℕ) (said info : TraceInfo) (link : L) (old new : ServedState L)
    → old.link ≡ link → (IsTrue (tells link) → taken link ≡ greeting) → tells new.link ≡ tells old.link → reply ≡ session_reply id → said ≡ info
    → TookSessionStart (λ s. tells s.link) (λ s. taken s.link) reply said old new → TookStart info greeting (tells new.link) (taken new.link)
served-start {L} tells taken id reply greeting said info link old new same greeted told is facts start =
    took-start {S = ServedState L} (λ s. tells s.link) (λ s. taken s.link) id greeting info old new
    (subst (λ (l : L). IsTrue (tells l) → taken l ≡ greeting) (sym same) greeted) told
    (subst (λ (i : TraceInfo). TookSessionStart {S = ServedState L} (λ s. tells s.link) (λ s. taken s.link) (session_reply id) i old new) facts
    (subst (λ (r : List ℕ). TookSessionStart {S = ServedState L} (λ s. tells s.link) (λ s. taken s.link) r said old new) is start))
