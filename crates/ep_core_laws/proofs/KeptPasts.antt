-- What holds of every lawful list of steps.
use Rattle.std.proofs.Common.{◌≡◌, ℕ, ◌+◌, ◌≤◌, Bool, true, false, inl, inr, List, [], ◌∷◌, length, None, refl, ap, sym, ◌∙◌, subst, arith}
use Rattle.std.specs.Prelude.{◌&&◌, nat_le, ◌==◌, if◌then◌else◌}
use Rattle.std.proofs.lemmas.Bool.{eqb-true, and_parts, or_parts, cases_Bool, false≢true, false_from_ne_true}
use Rattle.std.proofs.lemmas.List.{length_push}
use Rattle.ep_defs.specs.declared.event.EventDef.{EventDef}
use Rattle.ep_model.specs.declared.step.Step.TheVariants as step
use Rattle.ep_model.specs.Fold.{with_steal, with_give, budget_of}
use Rattle.ep_model.specs.History.{Past, config_of, is_open, admits_write, is_due, shows, writes_of}
use Rattle.ep_model.specs.Lawful.{objection_to, IsLawful}
use Rattle.ep_model.proofs.Objections.{needs_present, show_due}
use Rattle.ep_model.proofs.Sessions.{was_reached, present_reached}
use Rattle.ep_row.specs.Bits.{one_if}

-- ---- what is held

-- A write is shown to no session that was not reached.
shown_off : (events : List EventDef) (session s t : ℕ) (past : Past) → objection_to events past (step.Show t s) ≡ None → was_reached session past ≡ false → (s == session) ≡ false
shown_off events session s t past h anew =
    false_from_ne_true (s == session) (λ same.
    let P : ℕ → Type 0 = λ n. was_reached n past ≡ true in
    let here : was_reached session past ≡ true = subst P (eqb-true s session same) (present_reached s past (needs_present events past (step.Show t s) h)) in
    false≢true (sym anew ∙ here))

-- Nothing is held for a session that was not reached.
pub none_held : (events : List EventDef) (session : ℕ) (past : Past) → IsLawful events past → was_reached session past ≡ false → (budget_of session past).held ≡ 0
none_held events session [] lawful anew = refl
none_held events session (step.Accept s config ∷ past) lawful anew = none_held events session past lawful.0 (or_parts (nat_le session s) (was_reached session past) anew).1
none_held events session (step.Show t s ∷ past) lawful anew =
    rw (shown_off events session s t past lawful.1 anew) (none_held events session past lawful.0 anew)
none_held events session (step.Steal s t ∷ past) lawful anew =
    let before = none_held events session past lawful.0 anew in
    elim (s == session) as (λ v. (if v then with_steal (budget_of session past) t else budget_of session past).held ≡ 0) [ true ↦ before | false ↦ before ]
none_held events session (step.Close s t ∷ past) lawful anew =
    let before = none_held events session past lawful.0 anew in
    elim (s == session) as (λ v. (if v then with_steal (budget_of session past) t else budget_of session past).held ≡ 0) [ true ↦ before | false ↦ before ]
none_held events session (step.Give s ∷ past) lawful anew =
    let before = none_held events session past lawful.0 anew in
    elim (s == session) as (λ v. (if v then with_give (budget_of session past) else budget_of session past).held ≡ 0) [ true ↦ omega (arith, before) | false ↦ before ]
none_held events session (_ ∷ past) lawful anew = none_held events session past lawful.0 anew

-- ---- how many writes were shown

one_most : (b : Bool) → one_if b ≤ 1
one_most true = omega arith
one_most false = omega arith

-- Each write that was shown was begun, and the one that is due was not shown.
pub shown_begun : (events : List EventDef) (session thread : ℕ) (past : Past) → IsLawful events past → shows session thread past + one_if (is_due events session thread past) ≤ length (writes_of thread past)
shown_begun events session thread [] lawful = omega arith
shown_begun events session thread (step.Begin t stamp write ∷ past) lawful =
    let before = shown_begun events session thread past lawful.0 in
    elim (cases_Bool (t == thread)) [
      | inl same ↦ rw same (omega (arith, before, one_most (is_open session thread past && admits_write events (config_of session past) write), length_push (writes_of thread past) write))
      | inr other ↦ rw other before
    ]
shown_begun events session thread (step.Show t s ∷ past) lawful =
    let before = shown_begun events session thread past lawful.0 in
    elim (cases_Bool ((s == session) && (t == thread))) [
      | inl both ↦
          let parts = and_parts (s == session) (t == thread) both in
          let P : ℕ → ℕ → Type 0 = λ n m. is_due events n m past ≡ true in
          let due : is_due events session thread past ≡ true =
          subst (λ n. P n thread) (eqb-true s session parts.0) (subst (λ m. P s m) (eqb-true t thread parts.1) (show_due events past t s lawful.1)) in
          let one : one_if (is_due events session thread past) ≡ 1 = ap one_if due in
          rw both (omega (arith, before, one))
      | inr off ↦ rw off (omega (arith, before))
    ]
shown_begun events session thread (_ ∷ past) lawful = shown_begun events session thread past lawful.0
