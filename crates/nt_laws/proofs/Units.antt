-- Units that are there.
use Rattle.std.proofs.Common.{◌≡◌, ℕ, ◌+◌, Bool, true, Result, Ok, List, [], ◌∷◌, ◌++◌, length, refl, ap, ◌∙◌, arith, length-append}
use Rattle.std.proofs.lemmas.Bool.{le-ltb, cond-false}
use Rattle.std.proofs.lemmas.List.{take_at, drop_at}
use Rattle.ep_defs.specs.declared.item.Item.{Item}
use Rattle.pt_num.specs.Steps.{◌>>=◌, check}
use Rattle.nt_blocks.specs.Verdict.{Stop, closed, unit}

-- The front of the bytes is a unit, where it has this many.
pub unit-there : (front rest : List ℕ) (n : ℕ) → length front ≡ n → unit n (front ++ rest) ≡ Ok (front, rest)
unit-there front rest n long =
    let pair : List ℕ → List ℕ → Result (List ℕ × List ℕ) Stop = λ a b. Ok (a, b) in
    cond-false _ _ _ (le-ltb (length (front ++ rest)) n (omega (arith, length-append front rest)))
    ∙ (λ i. pair (take_at front rest n long i) (drop_at front rest n long i))

-- What is there is taken by the next step.
pub next : {E A B : Type 0} (first : Result A E) (x : A) (f : A → Result B E) → first ≡ Ok x → (first >>= f) ≡ f x
next first x f there = ap (λ (r : Result _ _). r >>= f) there

-- A test that holds lets the next step go on.
pub passed : {E B : Type 0} (test : Bool) (fault : E) (f : Unit {0} → Result B E) → test ≡ true → (check test fault >>= f) ≡ f tt
passed test fault f holds = ap (λ (b : Bool). check b fault >>= f) holds

-- The last unit of an object.
pub closed-there : (items : List Item) (at : ℕ) (rest : List ℕ) → closed items at (6 ∷ rest) ≡ Ok (record { items = items; next = at + 1; rest = rest })
closed-there items at rest = next _ _ _ (unit-there (6 ∷ []) rest 1 refl)
