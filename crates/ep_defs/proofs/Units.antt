-- Units that were read from bytes.
use Rattle.std.proofs.Common.{◌≡◌, ℕ, suc, ◌+◌, ◌*◌, ◌<◌, List, [], ◌∷◌, length, drop, get_or, refl, arith}
use Rattle.byteorder.specs.Endian.{little_number}
use Rattle.ep_defs.specs.Text.{units_in}

-- Numbers that were read from two bytes each, the low one first, are the units of these bytes.
pub read_units : (bytes units : List ℕ) → length bytes ≡ 2 * length units → ((k : ℕ) → k < length units → get_or units k 0 ≡ little_number 2 (drop (2 * k) bytes)) → units ≡ units_in bytes
read_units [] [] long read = refl
read_units [] (unit ∷ units) long read = absurd (omega arith)
read_units (low ∷ []) units long read = absurd (omega arith)
read_units (low ∷ high ∷ bytes) [] long read = absurd (omega arith)
read_units (low ∷ high ∷ bytes) (unit ∷ units) long read =
    let first : unit ≡ low + 256 * high = omega (arith, read 0 (omega arith)) in
    let later = read_units bytes units (omega arith) (λ k below. let places : 2 * suc k ≡ suc (suc (2 * k)) = omega arith in rw places at (read (suc k) (omega arith))) in
    cc
