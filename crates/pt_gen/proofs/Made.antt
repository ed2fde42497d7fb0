-- Each step of the schedule can be made.
use Rattle.std.proofs.Common.{◌≡◌, ℕ, ◌<◌, true, false, List, [], ◌∷◌, ◌++◌, reverse, append_assoc, None, refl, sym, ap, subst, ◌∙◌, arith}
use Rattle.std.specs.Prelude.{is_none}
use Rattle.std.specs.List.{AllByRecursion}
use Rattle.std.proofs.lemmas.List.{reverse-append}
use Rattle.std.proofs.lemmas.Bool.{not_from_true, le-leb, lt-leb}
use Rattle.ep_defs.specs.declared.limits.TheConstants.{SCHEDULE_WRITES, THREADS}
use Rattle.ep_defs.specs.declared.session.Write.{Write}
use Rattle.ep_defs.specs.Definitions.{definition_at}
use Rattle.ep_defs.specs.Session.{fits}
use Rattle.ep_model.specs.declared.step.Step.{Step}
use Rattle.ep_model.specs.declared.step.Step.TheVariants as step
use Rattle.ep_model.specs.Chunks.{turns, in_hand, is_hand_full}
use Rattle.ep_model.specs.Fold.{budget_of}
use Rattle.ep_model.specs.History.{Past, has_left, in_write, is_due, is_open, is_present, is_there, was_there}
use Rattle.ep_model.specs.Lawful.{IsLawful, Objection, begins, first_kind, has_due, is_open_somewhere, objection_to, objections}
use Rattle.pt_load.specs.Sample.{sample}
use Rattle.pt_gen.specs.state.ToCome.{IsThread}

-- ---- lists of steps that can be made

-- The steps can be made after a past, and lead to another.
pub data Leads : Past → List Step → Past → Type 0 where
  none : {past : Past} → Leads past [] past
  next : {past after : Past} {first : Step} {steps : List Step}
      → objection_to sample past first ≡ None → Leads (first ∷ past) steps after → Leads past (first ∷ steps) after

pub joined : {before between after : Past} {xs ys : List Step} → Leads before xs between → Leads between ys after → Leads before (xs ++ ys) after
joined none later = later
joined (next can steps) later = next can (joined steps later)

pub lawful_after : {before after : Past} {steps : List Step} → IsLawful sample before → Leads before steps after → IsLawful sample after
lawful_after lawful none = lawful
lawful_after lawful (next can steps) = lawful_after (lawful, can) steps

-- They stand in that past, the newest first.
pub led_by : {before after : Past} {steps : List Step} → Leads before steps after → after ≡ reverse steps ++ before
led_by none = refl
led_by (next {past = past} {first = first} {steps = steps} can more) =
    led_by more ∙ sym (ap (λ xs. xs ++ past) (reverse-append (first ∷ []) steps) ∙ append_assoc (reverse steps) (first ∷ []) past)

-- Each of them can be made after those before it.
pub can_at : (earlier : List Step) (step : Step) (later : List Step) {before after : Past}
    → Leads before (earlier ++ step ∷ later) after → objection_to sample (reverse earlier ++ before) step ≡ None
can_at [] step later (next can more) = can
can_at (first ∷ earlier) step later {before = before} (next can more) =
    subst
    (λ past. objection_to sample past step ≡ None)
    (sym (ap (λ xs. xs ++ before) (reverse-append (first ∷ []) earlier) ∙ append_assoc (reverse earlier) (first ∷ []) before))
    (can_at earlier step later more)

-- ---- what stands against a step

-- No objection is there.
clear : (all : List Objection) → AllByRecursion (λ objection. objection.there ≡ false) all → first_kind all ≡ None
clear [] absent = refl
clear (objection ∷ others) absent = rw (absent.0) (clear others absent.1)

-- Threads 1 to 4 are there from the start.
pub thread_was_there : (thread : ℕ) (past : Past) → IsThread thread → was_there thread past ≡ true
thread_was_there thread past inside = rw (le-leb 1 thread inside.0, le-leb thread THREADS (let h = inside.1 in omega arith)) refl

pub thread_is_there : (thread : ℕ) (past : Past) → IsThread thread → has_left thread past ≡ false → is_there thread past ≡ true
thread_is_there thread past inside stays = rw (thread_was_there thread past inside, stays) refl

pub begin_can : (past : Past) (thread stamp : ℕ) (write : Write) → is_there thread past ≡ true → in_write thread past ≡ false
    → is_none (definition_at sample write.event) ≡ false → fits write ≡ true → begins past < SCHEDULE_WRITES
    → objection_to sample past (step.Begin thread stamp write) ≡ None
begin_can past thread stamp write there outside defined small few =
    clear (objections sample past (step.Begin thread stamp write))
    (not_from_true _ there, (outside, (defined, (not_from_true _ small, (lt-leb SCHEDULE_WRITES (begins past) few, tt)))))

pub show_can : (past : Past) (thread session : ℕ) → is_there thread past ≡ true → is_present session past ≡ true → in_write thread past ≡ true
    → is_due sample session thread past ≡ true → objection_to sample past (step.Show thread session) ≡ None
show_can past thread session there here inside due =
    clear (objections sample past (step.Show thread session))
    (not_from_true _ there, (not_from_true _ here, (not_from_true _ inside, (not_from_true _ due, tt))))

pub end_can : (past : Past) (thread : ℕ) → is_there thread past ≡ true → in_write thread past ≡ true → has_due sample thread past ≡ false
    → objection_to sample past (step.End thread) ≡ None
end_can past thread there inside shown =
    clear (objections sample past (step.End thread))
    (not_from_true _ there, (not_from_true _ inside, (shown, tt)))

-- Code counts what is in hand.
abbrev pub HandsCounted : Type 0
HandsCounted = (session : ℕ) (past : Past) → in_hand (turns session past) ≡ (budget_of session past).in_hand

pub hand_is_empty : HandsCounted → (session : ℕ) (past : Past) → (budget_of session past).in_hand ≡ 0 → is_hand_full session past ≡ false
hand_is_empty counted session past empty = rw (counted session past, empty) refl

pub steal_can : HandsCounted → (past : Past) (session thread : ℕ) → is_present session past ≡ true → was_there thread past ≡ true
    → is_open session thread past ≡ true → (budget_of session past).in_hand ≡ 0 → objection_to sample past (step.Steal session thread) ≡ None
steal_can counted past session thread here there stands_open empty =
    clear (objections sample past (step.Steal session thread))
    (not_from_true _ here, (not_from_true _ there, (not_from_true _ stands_open, (hand_is_empty counted session past empty, tt))))

pub give_can : (past : Past) (session : ℕ) → is_present session past ≡ true → objection_to sample past (step.Give session) ≡ None
give_can past session here =
    clear (objections sample past (step.Give session))
    (not_from_true _ here, tt)

pub point_can : (past : Past) (session stamp : ℕ) → is_present session past ≡ true → objection_to sample past (step.Point session stamp) ≡ None
point_can past session stamp here =
    clear (objections sample past (step.Point session stamp))
    (not_from_true _ here, tt)

pub close_can : HandsCounted → (past : Past) (session thread : ℕ) → is_present session past ≡ true → was_there thread past ≡ true
    → is_open session thread past ≡ true → in_write thread past ≡ false → (budget_of session past).in_hand ≡ 0
    → objection_to sample past (step.Close session thread) ≡ None
close_can counted past session thread here there stands_open outside empty =
    clear (objections sample past (step.Close session thread))
    (not_from_true _ here, (not_from_true _ there, (not_from_true _ stands_open, (outside, (hand_is_empty counted session past empty, tt)))))

pub finish_can : HandsCounted → (past : Past) (session stamp : ℕ) → is_present session past ≡ true → is_open_somewhere session past ≡ false
    → (budget_of session past).in_hand ≡ 0 → objection_to sample past (step.Finish session stamp) ≡ None
finish_can counted past session stamp here closed empty =
    clear (objections sample past (step.Finish session stamp))
    (not_from_true _ here, (closed, (hand_is_empty counted session past empty, tt)))
