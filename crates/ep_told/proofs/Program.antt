-- What the program itself has told: of threads above 0, and of its own definitions.
use Rattle.std.proofs.Common.{◌≡◌, ℕ, zero, suc, ◌+◌, Bool, true, false, cond, List, [], ◌∷◌, ◌++◌, map, Option, Some, None, eqb, refl, ap, sym, ◌∙◌, arith, IsTrue}
use Rattle.std.specs.Prelude.{not, ◌&&◌, ◌||◌}
use Rattle.std.specs.List.{list_all, AllByRecursion}
use Rattle.std.specs.Option.{option_map_or}
use Rattle.std.proofs.lemmas.Bool.{and_parts, and_from, or_from, not-false, ne_eqb, true≢false}
use Rattle.ep_defs.specs.declared.event.EventDef.{EventDef}
use Rattle.ep_defs.specs.declared.session.Config.{Config}
use Rattle.ep_defs.specs.Definitions.{definition_at}
use Rattle.ep_defs.specs.Entry.{EventEntry, Entry, Event, Point}
use Rattle.ep_defs.specs.Event.{is_same_event}
use Rattle.ep_rundown.specs.Rundown.{rundown_def, lacks_rundown, with_section}
use Rattle.ep_model.specs.declared.step.Step.TheVariants as step
use Rattle.ep_model.specs.Chunks.{is_refused}
use Rattle.ep_model.specs.Entries.{has_stacks, entries, entry_if, entry_shown, pending, point_entry}
use Rattle.ep_model.specs.Faithful.{Share, AreFaithful, is_among, is_of, share_of, shares_of}
use Rattle.ep_model.specs.History.{Past, Begun, entered, was_there, is_there, opened, insert_ascending, last_begun, shows, has_left}
use Rattle.ep_model.specs.Lawful.{IsLawful, objections, is_next_thread}
use Rattle.ep_model.specs.Only.{only}
use Rattle.ep_told.specs.Told.{has_rundown, told_entries, AreOfProgram}
use Rattle.ep_model.proofs.Finished.{is_one_of}
use Rattle.ep_model.proofs.Lists.{has, any_inserted, all_more, each-append}
use Rattle.ep_model.proofs.Objections.{none_there}
use Rattle.ep_model.proofs.Others.{config-only}

-- ---- other sessions

-- What a session's stream tells does not depend on the steps of others.
pub told-only : (events : List EventDef) (session : ℕ) (past : Past) → entries events session (only session past) ≡ entries events session past → told_entries events session (only session past) ≡ told_entries events session past
told-only events session past same =
    let asked : Option Config → Bool = λ config. option_map_or (λ c. c.rundown) config false in
    ap (λ (config : Option Config). with_section (asked config) (entries events session (only session past))) (config-only session past)
    ∙ ap (λ (lines : List Entry). with_section (has_rundown session past) lines) same

-- ---- threads

-- No thread that came has the number 0.
entered-not_0 : (events : List EventDef) (past : Past) → IsLawful events past → has 0 (entered past) ≡ false
entered-not_0 events [] lawful = refl
entered-not_0 events (step.Enter t ∷ past) lawful =
    let next = not-false (is_next_thread t past) (none_there (objections events past (step.Enter t)) lawful.1).0 in
    or_from (eqb t 0) (has 0 (entered past)) (ne_eqb t 0 (λ same. above t same next)) (entered-not_0 events past lawful.0)
  where
    above : (n : ℕ) → n ≡ 0 → is_next_thread n past ≡ true → ⊥
    above zero same later = cc
    above (suc n) same later = cc
entered-not_0 events (_ ∷ past) lawful = entered-not_0 events past lawful.0

-- A thread that is there has another number.
there-not_0 : (events : List EventDef) (thread : ℕ) (past : Past) → IsLawful events past → is_there thread past ≡ true → eqb thread 0 ≡ false
there-not_0 events zero past lawful there =
    let was = (and_parts (was_there 0 past) (not (has_left 0 past)) there).0 in
    absurd (true≢false (sym was ∙ entered-not_0 events past lawful))
there-not_0 events (suc thread) past lawful there = ne_eqb (suc thread) 0 (λ same. omega (arith, same))

-- So has each thread on which a session was opened.
pub opened-not_0 : (events : List EventDef) (session : ℕ) (past : Past) → IsLawful events past → is_one_of (opened session past) 0 ≡ false
opened-not_0 events session [] lawful = refl
opened-not_0 events session (step.Open s t ∷ past) lawful =
    let before = opened-not_0 events session past lawful.0 in
    let there = not-false (is_there t past) (none_there (objections events past (step.Open s t)) lawful.1).1.0 in
    elim (eqb s session) as (λ b. is_one_of (cond b (insert_ascending t (opened session past)) (opened session past)) 0 ≡ false) [
      | true ↦ any_inserted (λ x. eqb x 0) t (opened session past) ∙ or_from (eqb t 0) (is_one_of (opened session past) 0) (there-not_0 events t past lawful.0 there) before
      | false ↦ before
    ]
opened-not_0 events session (_ ∷ past) lawful = opened-not_0 events session past lawful.0

share_any : (events : List EventDef) (session thread : ℕ) (past : Past) (threads : List ℕ) → is_of (map (λ t. share_of events session past t) threads) thread ≡ is_one_of threads thread
share_any events session thread past [] = refl
share_any events session thread past (t ∷ threads) = ap (λ b. eqb t thread || b) (share_any events session thread past threads)

-- No share of a session is that of thread 0.
pub shares-not_0 : (events : List EventDef) (session : ℕ) (past : Past) → IsLawful events past → is_of (shares_of events session past) 0 ≡ false
shares-not_0 events session past lawful = share_any events session 0 past (opened session past) ∙ opened-not_0 events session past lawful

-- ---- definitions

-- A definition that is found passes what all of them pass.
pub found-passes : (test : EventDef → Bool) (events : List EventDef) (n : ℕ) (def : EventDef) → list_all test events ≡ true → definition_at events n ≡ Some def → test def ≡ true
found-passes test events zero def all at-n = cc
found-passes test [] (suc n) def all at-n = cc
found-passes test (first ∷ events) (suc zero) def all at-n =
    let same : first ≡ def = cc in
    ap test (sym same) ∙ (and_parts (test first) (list_all test events) all).0
found-passes test (first ∷ events) (suc (suc n)) def all at-n = found-passes test events (suc n) def (and_parts (test first) (list_all test events) all).1 at-n

abbrev HavePassing : (EventDef → Bool) → List EventEntry → Type 0
HavePassing test events = AllByRecursion (λ event. test event.def ≡ true) events

passing-if : (test : EventDef → Bool) (stacks : Bool) (thread number : ℕ) (begun : Begun) (def : Option EventDef) → ((d : EventDef) → def ≡ Some d → test d ≡ true) → HavePassing test (entry_if stacks thread number begun def)
passing-if test stacks thread number begun None passes = tt
passing-if test stacks thread number begun (Some def) passes = (passes def refl, tt)

passing-shown : (test : EventDef → Bool) (events : List EventDef) (stacks : Bool) (thread number : ℕ) (last : Option Begun) → list_all test events ≡ true → HavePassing test (entry_shown events stacks thread number last)
passing-shown test events stacks thread number None all = tt
passing-shown test events stacks thread number (Some begun) all =
    passing-if test stacks thread number begun (definition_at events begun.write.event) (λ def at-event. found-passes test events begun.write.event def all at-event)

pending-passing : (test : EventDef → Bool) (events : List EventDef) (session thread : ℕ) (past : Past) → list_all test events ≡ true → HavePassing test (pending events session thread past)
pending-passing test events session thread [] all = tt
pending-passing test events session thread (step.Show t s ∷ past) all =
    let before = pending-passing test events session thread past all in
    let shown = entry_shown events (has_stacks session past) thread (shows session thread past + 1) (last_begun thread past) in
    elim (eqb s session && eqb t thread && not (is_refused session thread past)) as (λ b. HavePassing test (cond b (pending events session thread past ++ shown) (pending events session thread past))) [
      | true ↦ each-append (λ event. test event.def ≡ true) (pending events session thread past) _ before (passing-shown test events (has_stacks session past) thread (shows session thread past + 1) (last_begun thread past) all)
      | false ↦ before
    ]
pending-passing test events session thread (step.Steal s t ∷ past) all =
    let before = pending-passing test events session thread past all in
    elim (eqb s session && eqb t thread) as (λ b. HavePassing test (cond b [] (pending events session thread past))) [ true ↦ tt | false ↦ before ]
pending-passing test events session thread (step.Close s t ∷ past) all =
    let before = pending-passing test events session thread past all in
    elim (eqb s session && eqb t thread) as (λ b. HavePassing test (cond b [] (pending events session thread past))) [ true ↦ tt | false ↦ before ]
pending-passing test events session thread (_ ∷ past) all = pending-passing test events session thread past all

-- An event of a definition that passes, or a point.
abbrev passes_in : (EventDef → Bool) → Entry → Bool
passes_in test (Event event) = test event.def
passes_in test (Point point) = true

abbrev AllPass : (EventDef → Bool) → List Entry → Type 0
AllPass test lines = AllByRecursion (λ line. passes_in test line ≡ true) lines

pass-events : (test : EventDef → Bool) (events : List EventEntry) → HavePassing test events → AllPass test (map Event events)
pass-events test [] passing = tt
pass-events test (event ∷ events) passing = (passing.0, pass-events test events passing.1)

pass-taken : (test : EventDef → Bool) (events : List EventDef) (session t : ℕ) (past : Past) (b : Bool) → list_all test events ≡ true → AllPass test (entries events session past) → AllPass test (cond b (entries events session past ++ map Event (pending events session t past)) (entries events session past))
pass-taken test events session t past true all before =
    each-append (λ line. passes_in test line ≡ true) (entries events session past) _ before (pass-events test (pending events session t past) (pending-passing test events session t past all))
pass-taken test events session t past false all before = before

pass-point : (test : EventDef → Bool) (events : List EventDef) (session stamp : ℕ) (past : Past) (b : Bool) → AllPass test (entries events session past) → AllPass test (cond b (entries events session past ++ Point (point_entry session stamp past) ∷ []) (entries events session past))
pass-point test events session stamp past true before = each-append (λ line. passes_in test line ≡ true) (entries events session past) _ before (refl, tt)
pass-point test events session stamp past false before = before

-- The events of a session's entries have definitions of the program.
entries-pass : (test : EventDef → Bool) (events : List EventDef) (session : ℕ) (past : Past) → list_all test events ≡ true → AllPass test (entries events session past)
entries-pass test events session [] all = tt
entries-pass test events session (step.Steal s t ∷ past) all = pass-taken test events session t past (eqb s session) all (entries-pass test events session past all)
entries-pass test events session (step.Close s t ∷ past) all = pass-taken test events session t past (eqb s session) all (entries-pass test events session past all)
entries-pass test events session (step.Point s stamp ∷ past) all = pass-point test events session stamp past (eqb s session) (entries-pass test events session past all)
entries-pass test events session (step.Finish s stamp ∷ past) all = pass-point test events session stamp past (eqb s session) (entries-pass test events session past all)
entries-pass test events session (_ ∷ past) all = entries-pass test events session past all

-- ---- both

-- A thread that has a share is none that has no share.
one-not_0 : (shares : List Share) (thread : ℕ) → is_of shares 0 ≡ false → is_of shares thread ≡ true → not (eqb thread 0) ≡ true
one-not_0 shares zero none is = absurd (true≢false (sym is ∙ none))
one-not_0 shares (suc thread) none is = ap not (ne_eqb (suc thread) 0 (λ same. omega (arith, same)))

of-program : (shares : List Share) (lines : List Entry) → is_of shares 0 ≡ false → AllByRecursion (λ line. is_among shares line ≡ true) lines → AllPass (λ def. not (is_same_event def rundown_def)) lines → AreOfProgram lines
of-program shares [] none among pass = tt
of-program shares (Event event ∷ lines) none among pass =
    (and_from (not (eqb event.thread 0)) (not (is_same_event event.def rundown_def)) (one-not_0 shares event.thread none among.0) pass.0, of-program shares lines none among.1 pass.1)
of-program shares (Point point ∷ lines) none among pass =
    (all_more (λ (named : ℕ × ℕ). is_of shares named.0) (λ (named : ℕ × ℕ). not (eqb named.0 0)) (λ named one. one-not_0 shares named.0 none one) point.threads among.0, of-program shares lines none among.1 pass.1)

-- The entries of a finished session are of the program's own threads and definitions.
pub entries-of_program : (events : List EventDef) (session : ℕ) (past : Past) → IsLawful events past → AreFaithful (shares_of events session past) (entries events session past) → IsTrue (lacks_rundown events) → AreOfProgram (entries events session past)
entries-of_program events session past lawful faithful lacks =
    of-program (shares_of events session past) (entries events session past) (shares-not_0 events session past lawful) faithful.alone
    (entries-pass (λ def. not (is_same_event def rundown_def)) events session past lacks)
