-- A unit at the front of some bytes.
use Rattle.std.proofs.Common.{◌≡◌, ℕ, ◌<◌, ◌≤◌, Ok, Err, List, [], ◌∷◌, ◌++◌, length, refl, arith, length-append}
use Rattle.std.proofs.lemmas.Bool.{lt-ltb, le-ltb}
use Rattle.std.proofs.lemmas.List.{take_at, drop_at}
use Rattle.pt_num.specs.Numbers.{fixed}
use Rattle.nt_object.specs.Stream.{stream_head}
use Rattle.nt_blocks.specs.Verdict.{Cut, unit}

-- A unit whose bytes are all there.
pub unit-there : (n : ℕ) (here more : List ℕ) → length here ≡ n → unit n (here ++ more) ≡ Ok (here, more)
unit-there n here more whole =
    let long : n ≤ length (here ++ more) = omega (arith, length-append here more) in
    rw (le-ltb (length (here ++ more)) n long, take_at here more n whole, drop_at here more n whole) refl

-- A unit that is cut.
pub unit-cut : (n : ℕ) (bytes : List ℕ) → length bytes < n → unit n bytes ≡ Err Cut
unit-cut n bytes short = rw (lt-ltb (length bytes) n short) refl

-- The 32 bytes of a stream's head.
pub head-bytes : stream_head ≡ 78 ∷ 101 ∷ 116 ∷ 116 ∷ 114 ∷ 97 ∷ 99 ∷ 101 ∷ 20 ∷ 0 ∷ 0 ∷ 0 ∷ 33 ∷ 70 ∷ 97 ∷ 115 ∷ 116 ∷ 83 ∷ 101 ∷ 114 ∷ 105 ∷ 97 ∷ 108 ∷ 105 ∷ 122 ∷ 97 ∷ 116 ∷ 105 ∷ 111 ∷ 110 ∷ 46 ∷ 49 ∷ []
unfolding fixed
head-bytes = refl
