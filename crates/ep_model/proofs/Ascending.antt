-- Numbers that ascend, as the threads do on which a session was opened.
use Rattle.std.proofs.Common.{◌≡◌, ℕ, ◌<◌, true, false, cond, List, [], ◌∷◌, refl, subst, arith}
use Rattle.std.specs.Prelude.{nat_lt, ◌==◌, if◌then◌else◌}
use Rattle.std.specs.List.{AllByRecursion}
use Rattle.std.proofs.lemmas.Bool.{eqb-true, eqb-false, ltb-true, ltb-false, or_parts}
use Rattle.ep_defs.specs.declared.event.EventDef.{EventDef}
use Rattle.ep_model.specs.declared.step.Step.TheVariants as step
use Rattle.ep_model.specs.History.{Past, insert_ascending, opened}
use Rattle.ep_model.specs.Lawful.{IsLawful, was_opened}
use Rattle.ep_model.proofs.Lists.{has}
use Rattle.ep_model.proofs.Objections.{open_new}

-- Each of them is greater.
abbrev pub AreAbove : ℕ → List ℕ → Type 0
AreAbove n xs = AllByRecursion (λ x. n < x) xs

abbrev pub IsAscending : List ℕ → Type 0
IsAscending [] = Unit {0}
IsAscending (x ∷ xs) = AreAbove x xs × IsAscending xs

pub above_less : (n m : ℕ) (xs : List ℕ) → n < m → AreAbove m xs → AreAbove n xs
above_less n m [] less above = tt
above_less n m (x ∷ xs) less above = let first = above.0 in (omega arith, above_less n m xs less above.1)

above_insert : (n m : ℕ) (xs : List ℕ) → n < m → AreAbove n xs → AreAbove n (insert_ascending m xs)
above_insert n m [] less above = (less, tt)
above_insert n m (x ∷ xs) less above =
    elim (nat_lt m x) as (λ v. AreAbove n (if v then m ∷ x ∷ xs else x ∷ insert_ascending m xs))
    [ true ↦ (less, above) | false ↦ (above.0, above_insert n m xs less above.1) ]

-- A number is put in its place.
ascending-insert : (n : ℕ) (xs : List ℕ) → has n xs ≡ false → IsAscending xs → IsAscending (insert_ascending n xs)
ascending-insert n [] none up = (tt, tt)
ascending-insert n (x ∷ xs) none up =
    let off = or_parts (x == n) (has n xs) none in
    elim (nat_lt n x) as (λ v. nat_lt n x ≡ v → IsAscending (if v then n ∷ x ∷ xs else x ∷ insert_ascending n xs)) [
      | true ↦ λ is. let less = ltb-true n x is in ((less, above_less n x xs less up.0), up)
      | false ↦ λ is.
          let most = ltb-false n x is in
          let apart = eqb-false x n off.0 in
          let less : x < n = omega arith in
          (above_insert x n xs less up.0, ascending-insert n xs off.1 up.1)
    ] refl

-- A session is opened on a thread once.
pub opened_ascending : (events : List EventDef) (session : ℕ) (past : Past) → IsLawful events past → IsAscending (opened session past)
opened_ascending events session [] lawful = tt
opened_ascending events session (step.Open s t ∷ past) lawful =
    elim (s == session) as (λ v. (s == session) ≡ v → IsAscending (cond v (insert_ascending t (opened session past)) (opened session past))) [
      | true ↦ λ same.
          let none = subst (λ n. was_opened n t past ≡ false) (eqb-true s session same) (open_new events past s t lawful.1) in
          ascending-insert t (opened session past) none (opened_ascending events session past lawful.0)
      | false ↦ λ _. opened_ascending events session past lawful.0
    ] refl
opened_ascending events session (_ ∷ past) lawful = opened_ascending events session past lawful.0
