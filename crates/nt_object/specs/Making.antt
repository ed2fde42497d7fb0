-- For private functions: how an object begins.
use Rattle.std.specs.Prelude.{ℕ, List, [], ◌∷◌, ◌++◌, length}
use Rattle.std.specs.Int.{w32}
use Rattle.pt_num.specs.Numbers.{fixed}

-- What an object has before its payload.
abbrev pub begun_object : ℕ → List ℕ → List ℕ
begun_object version name =
    5 ∷ 5 ∷ 1 ∷ [] ++ fixed w32 version ++ fixed w32 version ++ fixed w32 (length name) ++ name ++ 6 ∷ []
