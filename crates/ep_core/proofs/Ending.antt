-- What is left of a finished session, and what its stream is.
use Rattle.std.proofs.Common.{◌≡◌, ◌<◌, ℕ, Bool, true, false, List, ◌∷◌, Option, Some, None, refl, ap, sym, ◌∙◌, subst, arith, if◌then◌else◌, cond}
use Rattle.std.specs.Prelude.{◌==◌, nat_lt}
use Rattle.std.specs.BTreeMap.{is_at}
use Rattle.std.specs.Option.{option_map_or}
use Rattle.std.specs.Ordering.{nat_cmp, is_eq}
use Rattle.std.specs.declared.cmp.Ordering.TheVariants.{Less, Equal, Greater}
use Rattle.std.proofs.lemmas.Bool.{eqb-true, ne_eqb, ltb-true}
use Rattle.ep_defs.specs.declared.event.EventDef.{EventDef}
use Rattle.ep_defs.specs.declared.session.TraceInfo.{TraceInfo}
use Rattle.ep_defs.specs.Entry.{Entry}
use Rattle.ep_defs.specs.declared.session.Config.{Config}
use Rattle.ep_rundown.specs.Rundown.{with_section}
use Rattle.nt_blocks.specs.Ordered.{AreOrdered}
use Rattle.nt_blocks.specs.Verdict.{Good, verdict}
use Rattle.nt_write.specs.Canonical.{IsCanonical}
use Rattle.ep_model.specs.declared.step.Step.{Step}
use Rattle.ep_model.specs.declared.step.Step.TheVariants as step
use Rattle.ep_model.specs.Entries.{entries}
use Rattle.ep_model.specs.Faithful.{shares_of}
use Rattle.ep_model.specs.History.{Past, config_of, is_finished}
use Rattle.ep_model.specs.Marks.{marks_of}
use Rattle.ep_told.specs.Told.{has_rundown, told_entries}
use Rattle.nt_laws.specs.Bare.{bare}
use Rattle.nt_laws.specs.Faithful.{Faithful}
use Rattle.ep_core.specs.declared.ended.Ended.{Ended}
use Rattle.ep_core.specs.state.Works.{EndedFollows, EndedAt}
use Rattle.ep_core.specs.Streams.{IsStreamOf}

-- ---- a step

-- A number is at a key exactly where it equals it.
at_key : (key n : ℕ) → is_at (nat_cmp key) n ≡ (key == n)
at_key key n =
    elim (nat_lt key n) as (λ v. nat_lt key n ≡ v → is_eq (if v then Less else (if (key == n) then Equal else Greater)) ≡ (key == n)) [
      | true ↦ λ below. sym (ne_eqb key n (λ same. let less : key < n = ltb-true key n below in omega arith))
      | false ↦ λ _. elim (key == n) as (λ w. is_eq (if w then Equal else Greater) ≡ w) [ true ↦ refl | false ↦ refl ]
    ] refl

-- A step leaves what is left of a session, where the session stays finished with its entries and its marks.
pub ended_stays : (events : List EventDef) (info : TraceInfo) (session : ℕ) (past : Past) (made : Step) (found : Option Ended)
    → (is_finished session past ≡ false → is_finished session (made ∷ past) ≡ false)
    → (is_finished session past ≡ true → is_finished session (made ∷ past) ≡ true)
    → (is_finished session past ≡ true → told_entries events session (made ∷ past) ≡ told_entries events session past)
    → (is_finished session past ≡ true → marks_of session (made ∷ past) ≡ marks_of session past)
    → EndedAt events info session past found → EndedAt events info session (made ∷ past) found
ended_stays events info session past made None goes_on stays same_entries same_marks h = goes_on h
ended_stays events info session past made (Some ended) goes_on stays same_entries same_marks h =
    let Tells : List Entry → Type 0 = λ es. IsCanonical info es ended.sink.taken in
    record {
      finished = stays h.finished;
      canonical = subst Tells (sym (same_entries h.finished)) h.canonical;
      marks_are = h.marks_are ∙ sym (same_marks h.finished);
    }

-- Where a session finishes, what is left of it is kept, and no other session finishes.
pub ended_after : (events : List EventDef) (info : TraceInfo) (past : Past) (session stamp other : ℕ) (left : Ended) (before after : Option Ended)
    → after ≡ cond (is_at (nat_cmp session) other) (Some left) before
    → (is_finished other past ≡ true → is_finished other (step.Finish session stamp ∷ past) ≡ true)
    → (is_finished other past ≡ true → told_entries events other (step.Finish session stamp ∷ past) ≡ told_entries events other past)
    → (is_finished other past ≡ true → marks_of other (step.Finish session stamp ∷ past) ≡ marks_of other past)
    → EndedFollows events info session (step.Finish session stamp ∷ past) left
    → EndedAt events info other past before → EndedAt events info other (step.Finish session stamp ∷ past) after
ended_after events info past session stamp other left before after is stays same_entries same_marks last h =
    let At : Option Ended → Type 0 = λ o. EndedAt events info other (step.Finish session stamp ∷ past) o in
    subst At (sym (is ∙ ap (λ b. cond b (Some left) before) (at_key session other)))
    (elim (session == other) as (λ v. (session == other) ≡ v → At (cond v (Some left) before)) [
      | true ↦ λ same. let Is : ℕ → Type 0 = λ n. EndedFollows events info n (step.Finish session stamp ∷ past) left in subst Is (eqb-true session other same) last
      | false ↦ λ off. ended_stays events info other past (step.Finish session stamp) before (λ none. rw off none) stays same_entries same_marks h
    ] refl)

-- What a session tells stays where its configuration and its entries do.
pub told_stays : (events : List EventDef) (session : ℕ) (past : Past) (made : Step) → config_of session (made ∷ past) ≡ config_of session past → entries events session (made ∷ past) ≡ entries events session past → told_entries events session (made ∷ past) ≡ told_entries events session past
told_stays events session past made same_config same_entries =
    let asked : Option Config → Bool = λ config. option_map_or (λ c. c.rundown) config false in
    ap (λ (config : Option Config). with_section (asked config) (entries events session (made ∷ past))) same_config
    ∙ ap (λ (lines : List Entry). with_section (has_rundown session past) lines) same_entries

-- ---- a stream

-- What is left of a session says that it was finished.
pub ended_at : (events : List EventDef) (info : TraceInfo) (session : ℕ) (past : Past) (found : Option Ended) (ended : Ended) → EndedAt events info session past found → found ≡ Some ended → EndedFollows events info session past ended
ended_at events info session past found ended h is = let P : Option Ended → Type 0 = λ o. EndedAt events info session past o in subst P is h

-- The stream of what a session tells is found whole, and without the rundown's items tells of each thread what the session admitted and did not refuse.
pub stream_of : (events : List EventDef) (info : TraceInfo) (session : ℕ) (past : Past) (bytes : List ℕ) → (canonical : IsCanonical info (told_entries events session past) bytes)
    → verdict bytes ≡ Good canonical.items → AreOrdered canonical.items → Faithful (shares_of events session past) (bare (has_rundown session past) canonical.items) → IsStreamOf events info session past bytes
stream_of events info session past bytes canonical found ordered faithful = record { canonical = canonical; found = found; ordered = ordered; faithful = faithful }
