-- What a step leaves that does not change what a session has of a thread.
use Rattle.std.proofs.Common.{◌≡◌, ℕ, Bool, true, false, List, ◌∷◌, refl, sym, ◌∙◌, subst, zero-add}
use Rattle.std.specs.Prelude.{◌&&◌, not, ◌==◌, if◌then◌else◌}
use Rattle.std.proofs.lemmas.Bool.{eqb-true, false≢true, false_from_ne_true}
use Rattle.ep_defs.specs.declared.event.EventDef.{EventDef}
use Rattle.ep_model.specs.declared.step.Step.{Step}
use Rattle.ep_model.specs.declared.step.Step.TheVariants as step
use Rattle.ep_model.specs.Chunks.{chunks_of, shown_size, is_refused, refused, written}
use Rattle.ep_model.specs.Entries.{pending, told_number}
use Rattle.ep_model.specs.Fold.{Budget, lacks_chunk, with_record, with_steal, with_give, with_show, budget_of}
use Rattle.ep_model.specs.History.{Past, config_of, is_open, opened_at, shows}
use Rattle.ep_model.specs.Lawful.{IsLawful}
use Rattle.ep_model.proofs.Sessions.{accept_unreached, present_reached, open_present}
use Rattle.ep_model.proofs.Lists.{eqb_turn, and_more}
use Rattle.ep_core_laws.specs.Changes.{changes_slot, changes_pool}

-- ---- what a thread has pending

show_other : (budget : Budget) (chunks thread t size : ℕ) → (t == thread) ≡ false → (with_show budget chunks t size).pending thread ≡ budget.pending thread
show_other budget chunks thread t size off =
    elim (lacks_chunk budget chunks t size) as (λ v. (if v then budget else with_record budget t size).pending thread ≡ budget.pending thread) [
      | true ↦ refl
      | false ↦ rw (eqb_turn t thread off) refl
    ]

steal_other : (budget : Budget) (thread t : ℕ) → (t == thread) ≡ false → (with_steal budget t).pending thread ≡ budget.pending thread
steal_other budget thread t off = rw (eqb_turn t thread off) refl

-- Where a step of the session is on another thread, the thread has what it had.
own_other : (own here : Bool) (old new : Budget) (thread : ℕ) → (own && here) ≡ false → (here ≡ false → new.pending thread ≡ old.pending thread) → (if own then new else old).pending thread ≡ old.pending thread
own_other false here old new thread off same = refl
own_other true here old new thread off same = same off

-- A thread keeps what it has pending where that of another is taken.
taken_other : (session thread : ℕ) (past : Past) (s t : ℕ) → ((s == session) && (t == thread)) ≡ false
    → (if s == session then with_steal (budget_of session past) t else budget_of session past).pending thread ≡ (budget_of session past).pending thread
taken_other session thread past s t off =
    own_other (s == session) (t == thread) (budget_of session past) _ thread off (steal_other (budget_of session past) thread t)

-- ---- all that stays

-- The session has of the thread what it had.
pub record IsSameOn (events : List EventDef) (session thread : ℕ) (past : Past) (step : Step) : Type 0 where
  pub open_is : is_open session thread (step ∷ past) ≡ is_open session thread past
  pub from_is : opened_at session thread (step ∷ past) ≡ opened_at session thread past
  pub shows_are : shows session thread (step ∷ past) ≡ shows session thread past
  pub refused_are : refused session thread (step ∷ past) ≡ refused session thread past
  pub written_are : written session thread (step ∷ past) ≡ written session thread past
  pub told_is : told_number session thread (step ∷ past) ≡ told_number session thread past
  pub pending_is : (budget_of session (step ∷ past)).pending thread ≡ (budget_of session past).pending thread
  pub waiting_are : pending events session thread (step ∷ past) ≡ pending events session thread past

pub same_on : (events : List EventDef) (session thread : ℕ) (past : Past) (step : Step) → changes_slot session thread step ≡ false → IsSameOn events session thread past step
same_on events session thread past (step.Open s t) off =
    record { open_is = rw off refl; from_is = rw off refl; shows_are = refl; refused_are = refl; written_are = refl; told_is = refl; pending_is = refl; waiting_are = refl }
same_on events session thread past (step.Show t s) off =
    record {
      open_is = refl;
      from_is = refl;
      shows_are = rw off (zero-add (shows session thread past));
      refused_are = rw (and_more (s == session) (t == thread) (is_refused session thread past) off) refl;
      written_are = rw (and_more (s == session) (t == thread) (not (is_refused session thread past)) off) (zero-add (written session thread past));
      told_is = refl;
      pending_is = own_other (s == session) (t == thread) (budget_of session past) _ thread off
          (show_other (budget_of session past) (chunks_of session past) thread t (shown_size t past));
      waiting_are = rw (and_more (s == session) (t == thread) (not (is_refused session thread past)) off) refl;
    }
same_on events session thread past (step.Steal s t) off =
    record { open_is = refl; from_is = refl; shows_are = refl; refused_are = refl; written_are = refl; told_is = rw off refl; pending_is = taken_other session thread past s t off; waiting_are = rw off refl }
same_on events session thread past (step.Close s t) off =
    record { open_is = rw off refl; from_is = refl; shows_are = refl; refused_are = refl; written_are = refl; told_is = rw off refl; pending_is = taken_other session thread past s t off; waiting_are = rw off refl }
same_on events session thread past (step.Give s) off =
    record {
      open_is = refl;
      from_is = refl;
      shows_are = refl;
      refused_are = refl;
      written_are = refl;
      told_is = refl;
      pending_is =
          elim (s == session) as (λ v. (if v then with_give (budget_of session past) else budget_of session past).pending thread ≡ (budget_of session past).pending thread)
          [ true ↦ refl | false ↦ refl ];
      waiting_are = refl;
    }
same_on events session thread past _ off =
    record { open_is = refl; from_is = refl; shows_are = refl; refused_are = refl; written_are = refl; told_is = refl; pending_is = refl; waiting_are = refl }

-- ---- the configuration

-- A session that is open is not accepted anew.
pub config_stays : (events : List EventDef) (session thread : ℕ) (past : Past) (step : Step) → IsLawful events (step ∷ past) → is_open session thread past ≡ true → config_of session (step ∷ past) ≡ config_of session past
config_stays events session thread past (step.Accept s config) lawful on =
    let off : (s == session) ≡ false =
    false_from_ne_true (s == session) (λ same.
    let P : ℕ → Type 0 = λ n. is_open n thread past ≡ true in
    let here = present_reached s past (open_present events s thread past lawful.0 (subst P (sym (eqb-true s session same)) on)) in
    false≢true (sym (accept_unreached events past s config lawful.1) ∙ here)) in
    rw off refl
config_stays events session thread past _ lawful on = refl

-- A step that does not change a pool accepts no session anew.
pub config_kept : (session : ℕ) (past : Past) (step : Step) → changes_pool session step ≡ false → config_of session (step ∷ past) ≡ config_of session past
config_kept session past (step.Accept s config) off = rw off refl
config_kept session past _ off = refl

-- ---- what is held

taken_held : (own : Bool) (budget : Budget) (t : ℕ) → (if own then with_steal budget t else budget).held ≡ budget.held
taken_held true budget t = refl
taken_held false budget t = refl

-- This many chunks stay held. What is taken is held.
pub held_stays : (session : ℕ) (past : Past) (step : Step) → changes_pool session step ≡ false → (budget_of session (step ∷ past)).held ≡ (budget_of session past).held
held_stays session past (step.Show t s) off = rw off refl
held_stays session past (step.Give s) off = rw off refl
held_stays session past (step.Steal s t) off = taken_held (s == session) (budget_of session past) t
held_stays session past (step.Close s t) off = taken_held (s == session) (budget_of session past) t
held_stays session past _ off = refl
