-- Numbers that fall from one to the next (this project's profile).
use Rattle.std.specs.Prelude.{ℕ, Bool, true, List, [], ◌∷◌, ◌&&◌, nat_lt}

-- The first number is below the bound, and each other one below the number before it.
abbrev pub falls : ℕ → List ℕ → Bool
falls bound [] = true
falls bound (number ∷ numbers) = nat_lt number bound && falls number numbers
