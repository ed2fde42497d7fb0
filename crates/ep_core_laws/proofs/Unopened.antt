-- A session that was never opened on a thread has nothing of it.
use Rattle.std.proofs.Common.{◌≡◌, ℕ, false, inl, inr, List, [], ◌∷◌, refl, sym, ◌∙◌}
use Rattle.std.specs.Prelude.{◌&&◌, ◌||◌, not, ◌==◌}
use Rattle.std.proofs.lemmas.Bool.{and_left, and_right, or_parts, cases_Bool}
use Rattle.ep_defs.specs.declared.event.EventDef.{EventDef}
use Rattle.ep_model.specs.declared.step.Step.{Step}
use Rattle.ep_model.specs.declared.step.Step.TheVariants as step
use Rattle.ep_model.specs.Budget.{no_pending}
use Rattle.ep_model.specs.Chunks.{refused, written}
use Rattle.ep_model.specs.Entries.{pending, told_number}
use Rattle.ep_model.specs.Fold.{budget_of}
use Rattle.ep_model.specs.History.{Past, config_of, opened, is_open, admits_write, is_due, shows}
use Rattle.ep_model.specs.Lawful.{IsLawful, was_opened}
use Rattle.ep_model.proofs.Objections.{show_due, steal_open, close_open}
use Rattle.ep_model.proofs.Lists.{any_inserted, off_pair}
use Rattle.ep_core_laws.specs.Changes.{changes_slot}
use Rattle.ep_core_laws.proofs.Elsewhere.{same_on}

-- A session that was not opened on a thread was not opened there before, nor now.
unopened_parts : (session thread s t : ℕ) (past : Past) → was_opened session thread (step.Open s t ∷ past) ≡ false → (((s == session) && (t == thread)) ≡ false) × (was_opened session thread past ≡ false)
unopened_parts session thread s t past off =
    elim (cases_Bool (s == session)) [
      | inl same ↦
          let all : (t == thread || was_opened session thread past) ≡ false = sym (any_inserted (λ n. n == thread) t (opened session past)) ∙ (rw same at off) in
          let parts = or_parts (t == thread) (was_opened session thread past) all in
          (and_right (s == session) (t == thread) parts.0, parts.1)
      | inr other ↦ (and_left (s == session) (t == thread) other, rw other at off)
    ]

unopened_before : (session thread : ℕ) (past : Past) (step : Step) → was_opened session thread (step ∷ past) ≡ false → was_opened session thread past ≡ false
unopened_before session thread past (step.Open s t) off = (unopened_parts session thread s t past off).1
unopened_before session thread past (step.Accept s config) off = off
unopened_before session thread past (step.Enter t) off = off
unopened_before session thread past (step.Leave t) off = off
unopened_before session thread past (step.Begin t stamp write) off = off
unopened_before session thread past (step.Show t s) off = off
unopened_before session thread past (step.End t) off = off
unopened_before session thread past (step.Steal s t) off = off
unopened_before session thread past (step.Give s) off = off
unopened_before session thread past (step.Point s stamp) off = off
unopened_before session thread past (step.Close s t) off = off
unopened_before session thread past (step.Finish s stamp) off = off

-- ---- nothing

pub record HasNothing (events : List EventDef) (session thread : ℕ) (past : Past) : Type 0 where
  pub shut : is_open session thread past ≡ false
  pub quiet : is_due events session thread past ≡ false
  pub shows_are : shows session thread past ≡ 0
  pub refused_are : refused session thread past ≡ []
  pub written_are : written session thread past ≡ 0
  pub told_is : told_number session thread past ≡ 0
  pub pending_is : (budget_of session past).pending thread ≡ no_pending
  pub waiting_are : pending events session thread past ≡ []

-- Nothing is due where the session is not open.
quiet_next : (events : List EventDef) (session thread : ℕ) (past : Past) (step : Step) → HasNothing events session thread past → is_due events session thread (step ∷ past) ≡ false
quiet_next events session thread past (step.Begin t stamp write) h =
    elim (cases_Bool (t == thread)) [
      | inl same ↦ rw same (and_left (is_open session thread past) (admits_write events (config_of session past) write) h.shut)
      | inr other ↦ rw other h.quiet
    ]
quiet_next events session thread past (step.Show t s) h = and_right (not ((s == session) && (t == thread))) (is_due events session thread past) h.quiet
quiet_next events session thread past (step.Accept s config) h = h.quiet
quiet_next events session thread past (step.Enter t) h = h.quiet
quiet_next events session thread past (step.Leave t) h = h.quiet
quiet_next events session thread past (step.Open s t) h = h.quiet
quiet_next events session thread past (step.End t) h = h.quiet
quiet_next events session thread past (step.Steal s t) h = h.quiet
quiet_next events session thread past (step.Give s) h = h.quiet
quiet_next events session thread past (step.Point s stamp) h = h.quiet
quiet_next events session thread past (step.Close s t) h = h.quiet
quiet_next events session thread past (step.Finish s stamp) h = h.quiet

-- What needs the session to be open there is no lawful step.
step_elsewhere : (events : List EventDef) (session thread : ℕ) (past : Past) (step : Step) → IsLawful events (step ∷ past) → was_opened session thread (step ∷ past) ≡ false → HasNothing events session thread past → changes_slot session thread step ≡ false
step_elsewhere events session thread past (step.Open s t) lawful off h = (unopened_parts session thread s t past off).0
step_elsewhere events session thread past (step.Show t s) lawful off h =
    off_pair (λ n m. is_due events n m past) s t session thread (show_due events past t s lawful.1) h.quiet
step_elsewhere events session thread past (step.Steal s t) lawful off h =
    off_pair (λ n m. is_open n m past) s t session thread (steal_open events past s t lawful.1) h.shut
step_elsewhere events session thread past (step.Close s t) lawful off h =
    off_pair (λ n m. is_open n m past) s t session thread (close_open events past s t lawful.1) h.shut
step_elsewhere events session thread past (step.Accept s config) lawful off h = refl
step_elsewhere events session thread past (step.Enter t) lawful off h = refl
step_elsewhere events session thread past (step.Leave t) lawful off h = refl
step_elsewhere events session thread past (step.Begin t stamp write) lawful off h = refl
step_elsewhere events session thread past (step.End t) lawful off h = refl
step_elsewhere events session thread past (step.Give s) lawful off h = refl
step_elsewhere events session thread past (step.Point s stamp) lawful off h = refl
step_elsewhere events session thread past (step.Finish s stamp) lawful off h = refl

pub has_nothing : (events : List EventDef) (session thread : ℕ) (past : Past) → IsLawful events past → was_opened session thread past ≡ false → HasNothing events session thread past
has_nothing events session thread [] lawful off =
    record { shut = refl; quiet = refl; shows_are = refl; refused_are = refl; written_are = refl; told_is = refl; pending_is = refl; waiting_are = refl }
has_nothing events session thread (s ∷ past) lawful off =
    let h = has_nothing events session thread past lawful.0 (unopened_before session thread past s off) in
    let same = same_on events session thread past s (step_elsewhere events session thread past s lawful off h) in
    record {
      shut = same.open_is ∙ h.shut;
      quiet = quiet_next events session thread past s h;
      shows_are = same.shows_are ∙ h.shows_are;
      refused_are = same.refused_are ∙ h.refused_are;
      written_are = same.written_are ∙ h.written_are;
      told_is = same.told_is ∙ h.told_is;
      pending_is = same.pending_is ∙ h.pending_is;
      waiting_are = same.waiting_are ∙ h.waiting_are;
    }
