-- What a run came to that called a tool, and whose fault it is that it ended with one.
use Rattle.std.proofs.Common.{◌≡◌, ℕ, ◌+◌, ◌<◌, ◌⊎◌, Bool, true, false, List, Option, Some, None, refl, sym, ap, subst, ◌∙◌, ◌≤◌, inl, inr, arith}
use Rattle.ep_defs.specs.declared.session.Facts.{Facts}
use Rattle.pt_io.specs.declared.caller.Caller.{Ghosts as Caller}
use Rattle.pt_io.specs.declared.sink.Sink.{Ghosts as Sink}
use Rattle.pt_io.specs.Faults.{HasRisen}
use Rattle.pt_io.specs.Sides.{ReadSide, WriteSide}
use Rattle.pt_command.specs.declared.end.End.{End}
use Rattle.pt_command.specs.declared.end.End.TheVariants as ends
use Rattle.pt_command.specs.Says.{SaysLine}
use Rattle.ipc_reverse.specs.declared.dock.ReverseDock.{ReverseDock}
use Rattle.ipc_reverse.specs.Advert.{advert_of}
use Rattle.ipc_reverse.specs.Calls.{CallsState, IsCut, dock_of, faults_of, kept_count, uncalled}
use Rattle.ipc_reverse.specs.Dock.{calls_of}
use Rattle.ipc_reverse.specs.Named.{Fixed, Makes}
use Rattle.pt_roles.specs.declared.live_end.LiveEnd.{LiveEnd}
use Rattle.pt_run.specs.declared.words.Asked.{Asked}
use Rattle.pt_run.specs.Command.{RunsTo, end_of, text_of}
use Rattle.pt_run.specs.declared.words.Reverse.{Reverse}
use Rattle.pt_run.specs.Reverse.{RunsReverse, called}

-- What is written ends with a link fault only where the dock failed.
failed-by : {O : Type 0} (sink : Sink O) (old new : O) (text : List ℕ) (failed : Bool) (end : End) → SaysLine sink old new text (end_of failed) end → end ≡ ends.LinkFault → failed ≡ true
failed-by sink old new text true end says is = refl
failed-by sink old new text false end (inl (inl said)) is = let done = said.0 in cc
failed-by sink old new text false end (inl (inr broke)) is = let fault = broke.0 in cc
failed-by sink old new text false end (inr none) is = let memory = none.0 in cc

dock-risen : {O K L : Type 0} (sink : Sink O) (caller : Caller K L) (takes : Sink L) (gave : L → ReadSide) (took : L → WriteSide) (asked : Asked) (facts : Facts) (advert : List ℕ) (most : ℕ)
    (old new : O) (caller_old caller_new : K) (given : ℕ) (peer : Option L) (live : Option (LiveEnd L)) (end : End)
    → RunsTo sink (dock_of caller takes advert most) takes gave took asked facts old new (uncalled caller_old) (called caller_new given peer) live end → end ≡ ends.LinkFault
    → HasRisen (faults_of caller takes (uncalled caller_old)) (faults_of caller takes (called caller_new given peer))
dock-risen sink caller takes gave took asked facts advert most old new caller_old caller_new given peer None end runs is = let none = (runs.unrun refl).0 in absurd (cc)
dock-risen sink caller takes gave took asked facts advert most old new caller_old caller_new given peer (Some live) end runs is =
    runs.ran.ran.dock_failed (failed-by sink old new (text_of asked.plan live) live.dock_failed end runs.ran.told is)

alone-risen : (before now : ℕ) → HasRisen (before + 0) (now + 0) → HasRisen before now
alone-risen before now (inl less) = inl (omega (arith, less))
alone-risen before now (inr most) = inr (omega (arith, most))

pub fault-of : {O K L : Type 0} (sink : Sink O) (caller : Caller K L) (takes : Sink L) (gave : L → ReadSide) (took : L → WriteSide) (asked : Asked) (facts : Facts) (advert : List ℕ) (most : ℕ)
    (old new : O) (caller_old caller_new : K) (given : ℕ) (peer : Option L) (live : Option (LiveEnd L)) (end : End)
    → RunsTo sink (dock_of caller takes advert most) takes gave took asked facts old new (uncalled caller_old) (called caller_new given peer) live end
    → ((link : L) → peer ≡ Some link → IsCut takes advert link) → end ≡ ends.LinkFault
    → HasRisen (caller.call_faults caller_old) (caller.call_faults caller_new) ⊎ ((link : L) × (peer ≡ Some link) × (0 < takes.write_faults link))
fault-of sink caller takes gave took asked facts advert most old new caller_old caller_new given (Some link) live end runs cut is = inr (link, refl, (cut link refl).fault)
fault-of sink caller takes gave took asked facts advert most old new caller_old caller_new given None live end runs cut is =
    inl (alone-risen (caller.call_faults caller_old) (caller.call_faults caller_new)
    (dock-risen sink caller takes gave took asked facts advert most old new caller_old caller_new given None live end runs is))

-- ---- the dock's calls

calls-same : {K L : Type 0} (one other : K) (given count : ℕ) (kept peer : Option L) → one ≡ other → given ≡ count → kept ≡ peer
    → called one given kept ≡ called other count peer
calls-same one other given count kept peer is many same = rw (is, many, same) refl

-- A dock that had called nobody and now has made these calls.
pub reverse-of : {O K L : Type 0} (sink : Sink O) (caller : Caller K L) (takes : Sink L) (gave : L → ReadSide) (took : L → WriteSide) (asked : Asked) (reverse : Reverse) (facts : Facts)
    (old new : O) (calls : Fixed) (first last : ReverseDock K L) (caller_old caller_new : K) (peer : Option L) (live : Option (LiveEnd L)) (end : End)
    → Makes caller takes calls last
    → RunsTo sink (dock_of caller takes calls.advert calls.most) takes gave took asked facts old new (calls_of first) (calls_of last) live end
    → calls.links ≡ caller.links caller_old → calls.advert ≡ advert_of facts → calls.most ≡ reverse.calls
    → first.caller.now ≡ caller_old → first.given ≡ 0 → first.kept ≡ None → last.caller.now ≡ caller_new → last.kept ≡ peer
    → RunsReverse sink caller takes gave took asked reverse facts old new caller_old caller_new peer live end
reverse-of {K = K} {L = L} sink caller takes gave took asked reverse facts old new calls first last caller_old caller_new peer live end makes runs links advert most starts none fresh ends kept =
    let before : calls_of first ≡ uncalled caller_old = calls-same first.caller.now caller_old first.given 0 first.kept None starts none fresh in
    let after : calls_of last ≡ called caller_new last.given peer = calls-same last.caller.now caller_new last.given last.given last.kept peer ends refl kept in
    let Over : List ℕ → ℕ → CallsState K L → CallsState K L → Type 0 =
    λ bytes count was now. RunsTo sink (dock_of caller takes bytes count) takes gave took asked facts old new was now live end in
    let ran : Over (advert_of facts) reverse.calls (uncalled caller_old) (called caller_new last.given peer) =
    subst (Over (advert_of facts) reverse.calls (uncalled caller_old)) after
    (subst (λ was. Over (advert_of facts) reverse.calls was (calls_of last)) before
    (subst (λ count. Over (advert_of facts) count (calls_of first) (calls_of last)) most
    (subst (λ bytes. Over bytes calls.most (calls_of first) (calls_of last)) advert runs))) in
    let broke : (link : L) → peer ≡ Some link → IsCut takes (advert_of facts) link = λ link is. subst (λ bytes. IsCut takes bytes link) advert (makes.kept link (kept ∙ is)) in
    record {
      given = last.given;
      runs = ran;
      links = ap caller.links (sym ends) ∙ makes.links ∙ ap (λ n. n + last.given + kept_count last.kept) links ∙ ap (λ k. caller.links caller_old + last.given + kept_count k) kept;
      few = subst (λ n. last.given ≤ n) most makes.few;
      cut = broke;
      fault = fault-of sink caller takes gave took asked facts (advert_of facts) reverse.calls old new caller_old caller_new last.given peer live end ran broke;
    }
