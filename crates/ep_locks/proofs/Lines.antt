-- The slots of a row of locks, one cache line after another.
use Rattle.std.proofs.Common.{◌≡◌, ℕ, ◌+◌, ◌-◌, ◌*◌, ◌≤◌, List, [], ◌∷◌, ◌++◌, length, Option, Some, None, refl, ap, ◌∙◌, append_assoc, arith}
use Rattle.std.specs.Prelude.{replicate}
use Rattle.std.proofs.lemmas.List.{replicate_more}
use Rattle.ep_locks.specs.Row.{in_its_line, spread}

module _ {T : Type 0} where
  -- eight slots a lock
  pub length-spread : (xs : List T) → length (spread xs) ≡ length xs * 8
  length-spread [] = refl
  length-spread (x ∷ xs) = let e = length-spread xs in omega arith

  -- one value more is one line more
  pub spread-append : (xs : List T) (x : T) → spread (xs ++ x ∷ []) ≡ spread xs ++ in_its_line x
  spread-append [] x = refl
  spread-append (y ∷ xs) x = ap (λ l. in_its_line y ++ l) (spread-append xs x)

  -- a line with one empty slot more
  pub more_empty : (front : List (Option T)) (x : T) (n : ℕ) → 1 ≤ n → (front ++ Some x ∷ replicate (n - 1) None) ++ None ∷ [] ≡ front ++ Some x ∷ replicate (n + 1 - 1) None
  more_empty front x n some_slot =
      let same : n - 1 + 1 ≡ n + 1 - 1 = omega arith in
      append_assoc front (Some x ∷ replicate (n - 1) None) (None ∷ []) ∙ ap (λ (r : List (Option T)). front ++ Some x ∷ r) (replicate_more (n - 1) None ∙ ap (λ k. replicate k None) same)
