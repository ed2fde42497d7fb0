-- What holds of every lawful list of steps.
use Rattle.std.proofs.Common.{◌≡◌, ℕ, Bool, true, false, cond, List, [], ◌∷◌, length, Some, refl, ap, sym, ◌∙◌}
use Rattle.std.specs.Prelude.{◌&&◌, ◌||◌, not, is_some, ◌==◌}
use Rattle.std.proofs.lemmas.Bool.{or_parts, false≢true, true≢false}
use Rattle.ep_defs.specs.declared.event.EventDef.{EventDef}
use Rattle.ep_model.specs.declared.step.Step.TheVariants as step
use Rattle.ep_model.specs.Entries.{told_number}
use Rattle.ep_model.specs.History.{Past, insert_ascending, opened, is_open, closed_at, writes_of}
use Rattle.ep_model.specs.Lawful.{IsLawful, was_opened}
use Rattle.ep_model.proofs.Lists.{has, any_inserted, off_pair}
use Rattle.ep_model.proofs.Objections.{steal_open, close_open}
use Rattle.ep_model.proofs.Sessions.{open_opened}

-- ---- threads on which a session was opened

-- Nothing was told of a thread on which the session was never opened.
pub none_told : (events : List EventDef) (session thread : ℕ) (past : Past) → IsLawful events past → was_opened session thread past ≡ false → told_number session thread past ≡ 0
none_told events session thread [] lawful none = refl
none_told events session thread (step.Open s t ∷ past) lawful none = none_told events session thread past lawful.0 (before (s == session) none)
  where
    before : (v : Bool) → has thread (cond v (insert_ascending t (opened session past)) (opened session past)) ≡ false → was_opened session thread past ≡ false
    before true none = (or_parts (t == thread) _ (sym (any_inserted (λ x. x == thread) t (opened session past)) ∙ none)).1
    before false none = none
none_told events session thread (step.Steal s t ∷ past) lawful none =
    let off = off_pair (λ n m. was_opened n m past) s t session thread (open_opened s t past (steal_open events past s t lawful.1)) none in
    rw off (none_told events session thread past lawful.0 none)
none_told events session thread (step.Close s t ∷ past) lawful none =
    let off = off_pair (λ n m. was_opened n m past) s t session thread (open_opened s t past (close_open events past s t lawful.1)) none in
    rw off (none_told events session thread past lawful.0 none)
none_told events session thread (_ ∷ past) lawful none = none_told events session thread past lawful.0 none

opens_other : (thread t : ℕ) (ts : List ℕ) (same_session same_thread still : Bool) → (t == thread) ≡ same_thread → has thread (cond same_session (insert_ascending t ts) ts) ≡ true → ((same_session && same_thread) || still) ≡ false → (has thread ts ≡ true) × (still ≡ false)
opens_other thread t ts true true still e there off = absurd (true≢false off)
opens_other thread t ts true false still e there off = (ap (λ v. v || has thread ts) (sym e) ∙ sym (any_inserted (λ x. x == thread) t ts) ∙ there, off)
opens_other thread t ts false same_thread still e there off = (there, off)

-- Where a session was opened on a thread and is not open, it was closed there.
pub closed_known : (session thread : ℕ) (past : Past) → was_opened session thread past ≡ true → is_open session thread past ≡ false → is_some (closed_at session thread past) ≡ true
closed_known session thread [] there off = absurd (false≢true there)
closed_known session thread (step.Open s t ∷ past) there off =
    let before = opens_other thread t (opened session past) (s == session) (t == thread) (is_open session thread past) refl there off in
    closed_known session thread past before.0 before.1
closed_known session thread (step.Close s t ∷ past) there off =
    elim ((s == session) && (t == thread)) as (λ v. (not v && is_open session thread past) ≡ false → is_some (cond v (Some (length (writes_of thread past))) (closed_at session thread past)) ≡ true)
    [ true ↦ λ _. refl | false ↦ λ still. closed_known session thread past there still ] off
closed_known session thread (_ ∷ past) there off = closed_known session thread past there off
