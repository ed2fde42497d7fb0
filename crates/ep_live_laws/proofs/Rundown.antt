-- What threads write is a program's own: none is thread 0, and none of its events is of the definition of a rundown.
use Rattle.std.proofs.Common.{◌≡◌, ℕ, zero, suc, ◌+◌, Bool, true, false, inl, inr, List, [], ◌∷◌, ◌++◌, take, Option, Some, None, IsTrue, refl, ap, sym, ◌∙◌, subst, arith}
use Rattle.std.specs.Prelude.{not, filter, ◌==◌, if◌then◌else◌}
use Rattle.std.specs.List.{AllByRecursion}
use Rattle.std.proofs.lemmas.Bool.{and_from, eq-eqb, eqb-true, ne_eqb, or_cases, true≢false}
use Rattle.ep_defs.specs.declared.event.EventDef.{EventDef}
use Rattle.ep_defs.specs.declared.session.Config.{Config}
use Rattle.ep_defs.specs.declared.session.Marks.{Marks}
use Rattle.ep_defs.specs.declared.session.Write.{Write}
use Rattle.ep_defs.specs.Definitions.{definition_at}
use Rattle.ep_defs.specs.Entry.{Entry, Event, Point}
use Rattle.ep_defs.specs.Event.{is_same_event}
use Rattle.ep_rundown.specs.Rundown.{lacks_rundown, rundown_def}
use Rattle.ep_told.specs.Told.{AreOfProgram}
use Rattle.ep_told.proofs.Program.{found-passes}
use Rattle.ep_model.specs.Faithful.{AreFaithful, Contents, Share, contents_if, contents_of, events_in, events_of, is_among, is_kept, is_of, kept, numbered}
use Rattle.ep_model.specs.History.{admitted_from}
use Rattle.ep_model.proofs.Lists.{all_more}
use Rattle.ep_live_laws.specs.Traced.{AreOfThreads, shares_by}
use Rattle.ep_live_laws.proofs.Part.{each-append}

each-back : {A : Type 0} (P : A → Type 0) (xs ys : List A) → AllByRecursion P (xs ++ ys) → AllByRecursion P ys
each-back P [] ys all = all
each-back P (x ∷ xs) ys all = each-back P xs ys all.1

each-kept : {A : Type 0} (P : A → Type 0) (test : A → Bool) (xs : List A) → AllByRecursion P xs → AllByRecursion P (filter test xs)
each-kept P test [] all = tt
each-kept P test (x ∷ xs) all =
    elim (test x) as (λ b. AllByRecursion P (if b then x ∷ filter test xs else filter test xs)) [
      | true ↦ (all.0, each-kept P test xs all.1)
      | false ↦ each-kept P test xs all.1
    ]

-- ---- definitions

-- The definition is not that of a rundown.
abbrev is_other : EventDef → Bool
is_other def = not (is_same_event def rundown_def)

abbrev IsOther : Contents → Type 0
IsOther c = is_other c.def ≡ true

other-if : (stacks : Bool) (number : ℕ) (write : Write) (def : Option EventDef) → ((d : EventDef) → def ≡ Some d → is_other d ≡ true) → AllByRecursion IsOther (contents_if stacks number write def)
other-if stacks number write None other = tt
other-if stacks number write (Some def) other = (other def refl, tt)

-- No write is of the rundown's definition, where the program does not define it.
numbered-other : (events : List EventDef) (stacks : Bool) (number : ℕ) (writes : List Write) → IsTrue (lacks_rundown events) → AllByRecursion IsOther (numbered events stacks number writes)
numbered-other events stacks number [] lacks = tt
numbered-other events stacks number (write ∷ writes) lacks =
    each-append IsOther (contents_if stacks number write (definition_at events write.event)) (numbered events stacks (number + 1) writes)
    (other-if stacks number write (definition_at events write.event) (λ def is. found-passes is_other events write.event def lacks is))
    (numbered-other events stacks (number + 1) writes lacks)

shares-other : (events : List EventDef) (config : Config) (writes : ℕ → List Write) (entries : List Entry) (marks : List Marks) → IsTrue (lacks_rundown events) → AllByRecursion (λ (s : Share). AllByRecursion IsOther s.admitted) (shares_by events config writes entries marks)
shares-other events config writes entries [] lacks = tt
shares-other events config writes entries (mark ∷ marks) lacks =
    (numbered-other events config.stackwalk 1 (admitted_from events (Some config) mark.from (take mark.to (writes mark.thread))) lacks, shares-other events config writes entries marks lacks)

-- So no event of a thread that has a share is.
told-other : (entries : List Entry) (shares : List Share) → AllByRecursion (λ (s : Share). events_of s.thread entries ≡ kept s) shares → AllByRecursion (λ (s : Share). AllByRecursion IsOther s.admitted) shares
    → (thread : ℕ) → is_of shares thread ≡ true → AllByRecursion IsOther (events_of thread entries)
told-other entries [] complete other thread is = cc
told-other entries (share ∷ shares) complete other thread is =
    elim (or_cases (share.thread == thread) (is_of shares thread) is) [
      | inl same ↦
          subst (λ t. AllByRecursion IsOther (events_of t entries)) (eqb-true share.thread thread same)
          (subst (AllByRecursion IsOther) (sym complete.0) (each-kept IsOther (is_kept share.refused) share.admitted other.0))
      | inr later ↦ told-other entries shares complete.1 other.1 thread later
    ]

-- ---- threads

-- No thread that writes is thread 0.
none-of-0 : (events : List EventDef) (config : Config) (writes : ℕ → List Write) (entries : List Entry) (marks : List Marks) → AreOfThreads marks → is_of (shares_by events config writes entries marks) 0 ≡ false
none-of-0 events config writes entries [] threads = refl
none-of-0 events config writes entries (mark ∷ marks) threads =
    rw (ne_eqb mark.thread 0 (λ same. let some = threads.0 in omega (arith, same, some))) (none-of-0 events config writes entries marks threads.1)

not-0 : (shares : List Share) (thread : ℕ) → is_of shares 0 ≡ false → is_of shares thread ≡ true → not (thread == 0) ≡ true
not-0 shares zero none is = absurd (true≢false (sym is ∙ none))
not-0 shares (suc thread) none is = ap not (ne_eqb (suc thread) 0 (λ same. omega (arith, same)))

-- ---- both

own : (shares : List Share) (entries : List Entry) → is_of shares 0 ≡ false → AllByRecursion (λ entry. is_among shares entry ≡ true) entries
    → ((thread : ℕ) → is_of shares thread ≡ true → AllByRecursion IsOther (events_of thread entries)) → AreOfProgram entries
own shares [] none among other = tt
own shares (Event e ∷ entries) none among other =
    let here : AllByRecursion IsOther (contents_of e ∷ events_of e.thread entries) = rw (eq-eqb e.thread e.thread refl) at (other e.thread among.0) in (
      and_from (not (e.thread == 0)) (is_other e.def) (not-0 shares e.thread none among.0) here.0,
      own shares entries none among.1 (λ thread is. each-back IsOther (events_in thread (Event e)) (events_of thread entries) (other thread is)),
    )
own shares (Point p ∷ entries) none among other = (
  all_more (λ (named : ℕ × ℕ). is_of shares named.0) (λ (named : ℕ × ℕ). not (named.0 == 0)) (λ named one. not-0 shares named.0 none one) p.threads among.0,
  own shares entries none among.1 other,
)

-- Entries that are faithful to the shares of marks are of the program.
pub of-program : (events : List EventDef) (config : Config) (writes : ℕ → List Write) (marks : List Marks) (entries : List Entry) → IsTrue (lacks_rundown events) → AreOfThreads marks
    → AreFaithful (shares_by events config writes entries marks) entries → AreOfProgram entries
of-program events config writes marks entries lacks threads faithful =
    own (shares_by events config writes entries marks) entries (none-of-0 events config writes entries marks threads) faithful.alone
    (told-other entries (shares_by events config writes entries marks) faithful.complete (shares-other events config writes entries marks lacks))
