-- Writes that are due.
use Rattle.std.proofs.Common.{◌≡◌, ℕ, true, false, cond, List, ◌∷◌, refl, ap, sym, ◌∙◌, subst, []}
use Rattle.std.specs.Prelude.{◌&&◌, ◌||◌, not, ◌==◌}
use Rattle.std.proofs.lemmas.Bool.{eqb-true, and_parts, or_right, false_from_ne_true, false≢true, true≢false}
use Rattle.ep_defs.specs.declared.event.EventDef.{EventDef}
use Rattle.ep_model.specs.declared.step.Step.TheVariants as step
use Rattle.ep_model.specs.History.{Past, config_of, accepted, is_present, is_open, in_write, admits_write, is_due}
use Rattle.ep_model.specs.Lawful.{IsLawful, objections, has_due}
use Rattle.ep_model.proofs.Lists.{at_pair, any_kept}
use Rattle.ep_model.proofs.Objections.{none_there, show_due}
use Rattle.ep_model.proofs.Sessions.{present_accepted, open_present}

-- What is due is due where the session is open, while the thread is in its write.
pub record IsWithin (session thread : ℕ) (past : Past) : Type 0 where
  pub on : is_open session thread past ≡ true
  pub writing : in_write thread past ≡ true

pub due_within : (events : List EventDef) (session thread : ℕ) (past : Past) → IsLawful events past → is_due events session thread past ≡ true → IsWithin session thread past
due_within events session thread [] lawful due = absurd (false≢true due)
due_within events session thread (step.Open s t ∷ past) lawful due =
    let h = due_within events session thread past lawful.0 due in
    record { on = or_right ((s == session) && (t == thread)) _ h.on; writing = h.writing }
due_within events session thread (step.Begin t stamp write ∷ past) lawful due =
    let admits = admits_write events (config_of session past) write in
    let parts =
    elim (t == thread) as (λ v. cond v (is_open session thread past && admits) (is_due events session thread past) ≡ true → (is_open session thread past ≡ true) × ((v || in_write thread past) ≡ true)) [
      | true ↦ λ both. ((and_parts (is_open session thread past) admits both).0, refl)
      | false ↦ λ before. let h = due_within events session thread past lawful.0 before in (h.on, h.writing)
    ] due in
    record { on = parts.0; writing = parts.1 }
due_within events session thread (step.Show t s ∷ past) lawful due =
    let h = due_within events session thread past lawful.0 (and_parts (not ((s == session) && (t == thread))) _ due).1 in
    record { on = h.on; writing = h.writing }
due_within events session thread (step.End t ∷ past) lawful due =
    let h = due_within events session thread past lawful.0 due in
    let seen : has_due events t past ≡ false = (none_there (objections events past (step.End t)) lawful.1).1.1.0 in
    let there = open_present events session thread past lawful.0 h.on in
    let some : has_due events thread past ≡ true = any_kept (λ s. is_present s past) (λ s. is_due events s thread past) session (accepted past) there due (present_accepted session past there) in
    let other : (t == thread) ≡ false = false_from_ne_true (t == thread) (λ same. true≢false (sym some ∙ subst (λ n. has_due events n past ≡ false) (eqb-true t thread same) seen)) in
    record { on = h.on; writing = ap (λ v. not v && in_write thread past) other ∙ h.writing }
due_within events session thread (step.Close s t ∷ past) lawful due =
    let h = due_within events session thread past lawful.0 due in
    let quiet : in_write t past ≡ false = (none_there (objections events past (step.Close s t)) lawful.1).1.1.1.0 in
    let other : ((s == session) && (t == thread)) ≡ false =
    false_from_ne_true ((s == session) && (t == thread)) (λ both. true≢false (sym h.writing ∙ at_pair (λ n m. in_write m past ≡ false) s t session thread quiet both)) in
    record { on = ap (λ v. not v && is_open session thread past) other ∙ h.on; writing = h.writing }
due_within events session thread (step.Accept s config ∷ past) lawful due = let h = due_within events session thread past lawful.0 due in record { on = h.on; writing = h.writing }
due_within events session thread (step.Enter t ∷ past) lawful due = let h = due_within events session thread past lawful.0 due in record { on = h.on; writing = h.writing }
due_within events session thread (step.Leave t ∷ past) lawful due = let h = due_within events session thread past lawful.0 due in record { on = h.on; writing = h.writing }
due_within events session thread (step.Steal s t ∷ past) lawful due = let h = due_within events session thread past lawful.0 due in record { on = h.on; writing = h.writing }
due_within events session thread (step.Give s ∷ past) lawful due = let h = due_within events session thread past lawful.0 due in record { on = h.on; writing = h.writing }
due_within events session thread (step.Point s stamp ∷ past) lawful due = let h = due_within events session thread past lawful.0 due in record { on = h.on; writing = h.writing }
due_within events session thread (step.Finish s stamp ∷ past) lawful due = let h = due_within events session thread past lawful.0 due in record { on = h.on; writing = h.writing }

-- A Show is to a session that is open on the thread.
pub show_open : (events : List EventDef) (past : Past) (t s : ℕ) → IsLawful events (step.Show t s ∷ past) → is_open s t past ≡ true
show_open events past t s lawful =
    (due_within events s t past lawful.0 (show_due events past t s lawful.1)).on
