-- The threads of a row, one life after another.
use Rattle.std.proofs.Common.{◌≡◌, ◌≢◌, ℕ, suc, ◌+◌, ◌-◌, ◌*◌, ◌^◌, ◌<◌, ◌≤◌, List, [], ◌∷◌, ◌++◌, refl, ap, ◌∙◌, sym, arith, mul-le-mul_right}
use Rattle.ep_guarded.specs.Tied.{thread_of}
use Rattle.pt_load.specs.declared.plan.Plan.{Plan}
use Rattle.pt_roles.specs.Writers.{drafted, drafts_from}

-- Threads are few.
pub few-threads : (rows number life : ℕ) → number < rows → rows ≤ 256 → life < 100 → thread_of rows number life + rows < 2 ^ 32
unfolding thread_of
few-threads rows number life within few short =
    let all : life * rows ≤ 100 * rows = mul-le-mul_right rows (omega arith) in
    omega (arith, all)

-- The last of those from a life on is that life's.
pub drafts-next : (plan : Plan) (number lives life : ℕ) → life < lives → drafts_from plan number life (lives - life) ≡ drafts_from plan number (life + 1) (lives - (life + 1)) ++ drafted plan number life ∷ []
drafts-next plan number lives life few =
    let up : lives - life ≡ suc (lives - (life + 1)) = omega arith in
    ap (λ (n : ℕ). drafts_from plan number life n) up

append-some : {A : Type 0} (xs : List A) (x : A) → xs ++ x ∷ [] ≡ [] → (P : Type 0) → P
append-some [] x is P = absurd (cc)
append-some (y ∷ ys) x is P = absurd (cc)

-- There are some while there is a life.
pub drafts-some : (plan : Plan) (number lives life : ℕ) → life < lives → drafts_from plan number life (lives - life) ≢ []
drafts-some plan number lives life few none =
    append-some _ _ (sym (drafts-next plan number lives life few) ∙ none) _

-- Lists with one thing more are equal only where both parts are.
pub snoc-same : {A : Type 0} (xs ys : List A) (x y : A) → xs ++ x ∷ [] ≡ ys ++ y ∷ [] → (xs ≡ ys) × (x ≡ y)
snoc-same [] [] x y e = (refl, cc)
snoc-same [] (b ∷ ys) x y e = let t : ys ++ y ∷ [] ≡ [] = cc in append-some ys y t _
snoc-same (a ∷ xs) [] x y e = let t : xs ++ x ∷ [] ≡ [] = cc in append-some xs x t _
snoc-same (a ∷ xs) (b ∷ ys) x y e =
    let t : xs ++ x ∷ [] ≡ ys ++ y ∷ [] = cc in
    let h : a ≡ b = cc in
    let r = snoc-same xs ys x y t in
    let s : xs ≡ ys = r.0 in
    (cc, r.1)
