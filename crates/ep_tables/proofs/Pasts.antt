-- What holds of every lawful list of steps.
use Rattle.std.proofs.Common.{◌≡◌, ℕ, Bool, true, false, inl, inr, List, [], ◌∷◌, refl, ◌∙◌, subst}
use Rattle.std.specs.Prelude.{◌&&◌, ◌||◌, not, ◌==◌}
use Rattle.std.proofs.lemmas.Bool.{eqb-true, and_parts, or_cases, or_right, not-false}
use Rattle.ep_defs.specs.declared.event.EventDef.{EventDef}
use Rattle.ep_model.specs.declared.step.Step.TheVariants as step
use Rattle.ep_model.specs.History.{Past, accepted, present, is_present, was_there, is_there, is_open}
use Rattle.ep_model.specs.Lawful.{objections, IsLawful}
use Rattle.ep_model.proofs.Lists.{has}
use Rattle.ep_model.proofs.Objections.{none_there}
use Rattle.ep_model.proofs.Sessions.{present_accepted}
use Rattle.ep_tables.proofs.Lists.{has-filter}

-- ---- sessions

-- The list of the sessions that are present has each of them.
pub has_present : (session : ℕ) (past : Past) → has session (present past) ≡ is_present session past
has_present session past =
    has-filter (λ s. is_present s past) session (accepted past)
    ∙ elim (is_present session past) as (λ v. is_present session past ≡ v → (v && has session (accepted past)) ≡ v) [ true ↦ λ is. present_accepted session past is | false ↦ λ _. refl ] refl

-- ---- where a session is open

-- A thread on which a session is open came.
pub open_there : (events : List EventDef) (session thread : ℕ) (past : Past) → IsLawful events past → is_open session thread past ≡ true → was_there thread past ≡ true
open_there events session thread [] lawful h = cc
open_there events session thread (step.Open s t ∷ past) lawful h =
    elim (or_cases ((s == session) && (t == thread)) (is_open session thread past) h) [
      | inl both ↦
          let same = eqb-true t thread (and_parts (s == session) (t == thread) both).1 in
          let there = not-false (is_there t past) (none_there (objections events past (step.Open s t)) lawful.1).1.0 in
          let P : ℕ → Type 0 = λ n. was_there n past ≡ true in
          subst P same (and_parts (was_there t past) _ there).0
      | inr before ↦ open_there events session thread past lawful.0 before
    ]
open_there events session thread (step.Close s t ∷ past) lawful h =
    open_there events session thread past lawful.0 (and_parts (not ((s == session) && (t == thread))) (is_open session thread past) h).1
open_there events session thread (step.Enter t ∷ past) lawful h = there_more _ (t == thread) _ (open_there events session thread past lawful.0 h)
  where
    there_more : (a b c : Bool) → (a || c) ≡ true → (a || (b || c)) ≡ true
    there_more true b c is = refl
    there_more false b c is = or_right b c is
open_there events session thread (step.Accept s config ∷ past) lawful h = open_there events session thread past lawful.0 h
open_there events session thread (step.Leave t ∷ past) lawful h = open_there events session thread past lawful.0 h
open_there events session thread (step.Begin t stamp write ∷ past) lawful h = open_there events session thread past lawful.0 h
open_there events session thread (step.Show t s ∷ past) lawful h = open_there events session thread past lawful.0 h
open_there events session thread (step.End t ∷ past) lawful h = open_there events session thread past lawful.0 h
open_there events session thread (step.Steal s t ∷ past) lawful h = open_there events session thread past lawful.0 h
open_there events session thread (step.Give s ∷ past) lawful h = open_there events session thread past lawful.0 h
open_there events session thread (step.Point s stamp ∷ past) lawful h = open_there events session thread past lawful.0 h
open_there events session thread (step.Finish s stamp ∷ past) lawful h = open_there events session thread past lawful.0 h
