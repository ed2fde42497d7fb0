-- What a finished session's stream tells of its threads, with a rundown or without, in numbers.
use Rattle.std.proofs.Common.{◌≡◌, ℕ, zero, suc, ◌+◌, ◌≤◌, Bool, true, false, eqb, List, [], ◌∷◌, length, Some, None, refl, ap, sym, ◌∙◌, arith}
use Rattle.std.specs.Prelude.{◌||◌, ◌==◌, if◌then◌else◌}
use Rattle.std.specs.List.{AllByRecursion}
use Rattle.std.proofs.lemmas.Bool.{or_parts, eq-eqb, ne_eqb, true≢false}
use Rattle.ep_defs.specs.declared.limits.TheConstants.{SCHEDULE_WRITES}
use Rattle.ep_defs.specs.declared.event.EventDef.{EventDef}
use Rattle.ep_defs.specs.declared.item.Item.{Item}
use Rattle.ep_defs.specs.Entry.{Entry}
use Rattle.ep_rundown.specs.Rundown.{used, section, with_section}
use Rattle.ep_model.specs.Chunks.{refused, written}
use Rattle.ep_model.specs.Entries.{entries}
use Rattle.ep_model.specs.Faithful.{Share, Contents, AreFaithful, events_of, is_of, shares_of}
use Rattle.ep_model.specs.History.{Past, opened, admitted}
use Rattle.ep_model.specs.Lawful.{begins, was_opened}
use Rattle.ep_model.proofs.Ascending.{AreAbove, IsAscending}
use Rattle.ep_model.proofs.Lists.{has}
use Rattle.ep_told.specs.Told.{has_rundown, told_entries, rundown_share}
use Rattle.ep_told.proofs.WithRundown.{kept-all, section-long}
use Rattle.nt_blocks.specs.Ordered.{Tell, kinds_of}
use Rattle.nt_check.specs.Numbers.{held, numbers_of}
use Rattle.pt_report.specs.Shares.{share_numbers, session_numbers, rundown_numbers, told_threads, told_numbers}
use Rattle.pt_report.proofs.Sessions.{session_told, is_of-shares}

-- ---- the share of thread 0

-- It has an event for each definition that was used.
rundown-is : (lines : List Entry) → share_numbers (rundown_share lines) ≡ rundown_numbers lines
rundown-is lines =
    let long = section-long 0 1 (used lines) in
    ap (λ (contents : List Contents). record { events = held (length contents); last = length (events_of 0 (section 0 lines)); gaps = 0 }) (kept-all (events_of 0 (section 0 lines)))
    ∙ ap (λ n. record { events = held n; last = n; gaps = 0 }) long

-- ---- what is known

pub record Known (definitions : List EventDef) (session : ℕ) (past : Past) (items : List Item) : Type 0 where
  pub faithful : AreFaithful (shares_of definitions session past) (entries definitions session past)
  pub no_0 : is_of (shares_of definitions session past) 0 ≡ false
  pub limited : begins past ≤ SCHEDULE_WRITES
  pub counted : (thread : ℕ) → was_opened session thread past ≡ true → written session thread past + length (refused session thread past) ≡ length (admitted definitions session thread past)
  pub with_0 : (shares : List Share) (lines : List Entry) → AreFaithful shares lines → is_of shares 0 ≡ false → AreFaithful (rundown_share lines ∷ shares) (with_section true lines)
  pub numbers : (shares : List Share) (items : List Item) (lines : List Entry) → Tell items lines → AreFaithful shares lines → AllByRecursion (λ share. numbers_of share.thread (kinds_of items) ≡ Some (share_numbers share)) shares
  pub none : (shares : List Share) (items : List Item) (lines : List Entry) (thread : ℕ) → Tell items lines → AreFaithful shares lines → is_of shares thread ≡ false → numbers_of thread (kinds_of items) ≡ None
  pub tell : Tell items (told_entries definitions session past)

-- The items tell the entries with this section or none.
abbrev TellsWith : List EventDef → ℕ → Past → List Item → Bool → Type 0
TellsWith definitions session past items rundown = Tell items (with_section rundown (entries definitions session past))

-- A thread on which the session was opened is not thread 0.
opened-not_0 : (definitions : List EventDef) (session thread : ℕ) (past : Past) → is_of (shares_of definitions session past) 0 ≡ false → was_opened session thread past ≡ true → (thread == 0) ≡ false
opened-not_0 definitions session zero past no_0 was = absurd (true≢false (sym was ∙ sym (is_of-shares definitions session 0 past (opened session past)) ∙ no_0))
opened-not_0 definitions session (suc thread) past no_0 was = ne_eqb (suc thread) 0 (λ same. omega (arith, same))

-- It has its numbers in either case.
own-numbers : (definitions : List EventDef) (session thread : ℕ) (past : Past) (items : List Item) → Known definitions session past items → AllByRecursion (λ share. numbers_of share.thread (kinds_of items) ≡ Some (share_numbers share)) (shares_of definitions session past) → was_opened session thread past ≡ true → numbers_of thread (kinds_of items) ≡ Some (told_numbers definitions session past thread)
own-numbers definitions session thread past items known all was =
    session_told definitions session thread past items (entries definitions session past) known.faithful known.limited (known.counted thread was) all was
    ∙ ap (λ (b : Bool). Some (if b then rundown_numbers (entries definitions session past) else session_numbers definitions session past thread)) (sym (opened-not_0 definitions session thread past known.no_0 was))

told-numbers : (definitions : List EventDef) (session thread : ℕ) (past : Past) (items : List Item) → Known definitions session past items → (rundown : Bool) → TellsWith definitions session past items rundown → has thread (if rundown then 0 ∷ opened session past else opened session past) ≡ true → numbers_of thread (kinds_of items) ≡ Some (told_numbers definitions session past thread)
told-numbers definitions session thread past items known false tell is =
    own-numbers definitions session thread past items known (known.numbers (shares_of definitions session past) items (entries definitions session past) tell known.faithful) is
told-numbers definitions session zero past items known true tell is =
    let lines = entries definitions session past in
    let all = known.numbers (rundown_share lines ∷ shares_of definitions session past) items (with_section true lines) tell (known.with_0 (shares_of definitions session past) lines known.faithful known.no_0) in
    all.0 ∙ ap Some (rundown-is lines)
told-numbers definitions session (suc thread) past items known true tell is =
    let lines = entries definitions session past in
    let all = known.numbers (rundown_share lines ∷ shares_of definitions session past) items (with_section true lines) tell (known.with_0 (shares_of definitions session past) lines known.faithful known.no_0) in
    let was : was_opened session (suc thread) past ≡ true = rw (ne_eqb 0 (suc thread) (λ same. omega (arith, same))) at is in
    own-numbers definitions session (suc thread) past items known all.1 was

pub told_known : (definitions : List EventDef) (session thread : ℕ) (past : Past) (items : List Item) → Known definitions session past items → has thread (told_threads session past) ≡ true → numbers_of thread (kinds_of items) ≡ Some (told_numbers definitions session past thread)
told_known definitions session thread past items known is = told-numbers definitions session thread past items known (has_rundown session past) known.tell is

told-nothing : (definitions : List EventDef) (session thread : ℕ) (past : Past) (items : List Item) → Known definitions session past items → (rundown : Bool) → TellsWith definitions session past items rundown → has thread (if rundown then 0 ∷ opened session past else opened session past) ≡ false → numbers_of thread (kinds_of items) ≡ None
told-nothing definitions session thread past items known false tell is =
    known.none (shares_of definitions session past) items (entries definitions session past) thread tell known.faithful (is_of-shares definitions session thread past (opened session past) ∙ is)
told-nothing definitions session thread past items known true tell is =
    let lines = entries definitions session past in
    let off = or_parts (eqb 0 thread) (has thread (opened session past)) is in
    let unshared : is_of (rundown_share lines ∷ shares_of definitions session past) thread ≡ false = ap (λ b. b || is_of (shares_of definitions session past) thread) off.0 ∙ is_of-shares definitions session thread past (opened session past) ∙ off.1 in
    known.none (rundown_share lines ∷ shares_of definitions session past) items (with_section true lines) thread tell (known.with_0 (shares_of definitions session past) lines known.faithful known.no_0) unshared

pub told_unknown : (definitions : List EventDef) (session thread : ℕ) (past : Past) (items : List Item) → Known definitions session past items → has thread (told_threads session past) ≡ false → numbers_of thread (kinds_of items) ≡ None
told_unknown definitions session thread past items known is = told-nothing definitions session thread past items known (has_rundown session past) known.tell is

-- ---- their order

above-0 : (threads : List ℕ) → has 0 threads ≡ false → AreAbove 0 threads
above-0 [] none = tt
above-0 (zero ∷ threads) none = absurd (true≢false (sym (eq-eqb 0 0 refl) ∙ (or_parts (eqb 0 0) (has 0 threads) none).0))
above-0 (suc thread ∷ threads) none = (omega arith, above-0 threads (or_parts (eqb (suc thread) 0) (has 0 threads) none).1)

threads-ascend : (threads : List ℕ) (rundown : Bool) → has 0 threads ≡ false → IsAscending threads → IsAscending (if rundown then 0 ∷ threads else threads)
threads-ascend threads true none up = (above-0 threads none, up)
threads-ascend threads false none up = up

pub told_ascending : (definitions : List EventDef) (session : ℕ) (past : Past) → is_of (shares_of definitions session past) 0 ≡ false → IsAscending (opened session past) → IsAscending (told_threads session past)
told_ascending definitions session past no_0 up =
    threads-ascend (opened session past) (has_rundown session past) (sym (is_of-shares definitions session 0 past (opened session past)) ∙ no_0) up
