-- The table of the digits of bytes.
use Rattle.std.proofs.Common.{◌≡◌, ℕ, zero, suc, ◌+◌, ◌-◌, ◌*◌, ◌/◌, ◌%◌, ◌<◌, Bool, true, ◌&&◌, T, eqb, get_or, inl, inr, arith, eq-zero-or-pos, eqb→eq}
use lib.Ieee.Fits.{and_l, and_r}
use Rattle.pt_print.specs.Printed.{hex_digit}
use Rattle.pt_lines.specs.declared.text.TheConstants.{PAIRS}

-- The first so many bytes have their digits in it.
abbrev are_pairs : ℕ → Bool
are_pairs zero = true
are_pairs (suc byte) = (eqb (get_or PAIRS (byte * 2) 0) (hex_digit (byte / 16)) && eqb (get_or PAIRS (byte * 2 + 1) 0) (hex_digit (byte % 16))) && are_pairs byte

below : (count byte : ℕ) → T (are_pairs count) → byte < count → (get_or PAIRS (byte * 2) 0 ≡ hex_digit (byte / 16)) × (get_or PAIRS (byte * 2 + 1) 0 ≡ hex_digit (byte % 16))
below zero byte all lt = absurd (omega (arith, lt))
below (suc count) byte all lt =
    elim (eq-zero-or-pos (count - byte)) [
      | inl z ↦
          let same : byte ≡ count = omega (arith, z, lt) in
          let here = and_l _ (are_pairs count) all in
          rw same (eqb→eq _ _ (and_l _ _ here), eqb→eq _ _ (and_r _ _ here))
      | inr g ↦ below count byte (and_r _ (are_pairs count) all) (omega (arith, g))
    ]

pub pairs-at : (byte : ℕ) → byte < 256 → (get_or PAIRS (byte * 2) 0 ≡ hex_digit (byte / 16)) × (get_or PAIRS (byte * 2 + 1) 0 ≡ hex_digit (byte % 16))
pairs-at byte lt = below 256 byte tt lt
