-- Things one after another.
use Rattle.std.specs.Prelude.{ℕ, zero, suc, Bool, true, false, List, [], ◌∷◌, Result, Ok, Err}
use Rattle.pt_num.specs.Steps.{◌>>=◌}

-- A thing that was read, where reading stands after it, and the bytes after it.
pub record One (S A : Type 0) : Type 0 where
  pub thing : A
  pub state : S
  pub rest : List ℕ

-- Things that were read in turn, where reading stands after them, and the bytes after them.
pub record Many (S A : Type 0) : Type 0 where
  pub things : List A
  pub state : S
  pub rest : List ℕ

-- A thing before others.
abbrev pub with_thing : {S A E : Type 0} → A → Result (Many S A) E → Result (Many S A) E
with_thing thing (Ok many) = Ok (record { things = thing ∷ many.things; state = many.state; rest = many.rest })
with_thing thing (Err fault) = Err fault

-- Things one after another, until this test of where reading stands, and of the bytes that are left, holds. The number
-- bounds how many there can be.
unfoldable pub each_at : {S A E : Type 0} → (S → List ℕ → Bool) → (S → List ℕ → Result (One S A) E) → ℕ → S → List ℕ → Result (Many S A) E
each_at done step zero state bytes = Ok (record { things = []; state = state; rest = bytes })
each_at done step (suc more) state bytes = elim (done state bytes) [
  | true ↦ Ok (record { things = []; state = state; rest = bytes })
  | false ↦ step state bytes >>= λ one. with_thing one.thing (each_at done step more one.state one.rest)
]
