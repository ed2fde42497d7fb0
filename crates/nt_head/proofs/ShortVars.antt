-- Varuints of at most three bytes.
use Rattle.std.proofs.Common.{◌≡◌, ℕ, suc, ◌+◌, ◌*◌, ◌%◌, ◌<◌, ◌≤◌, List, ◌∷◌, length, get_or, drop, Ok, refl, ap, ◌∙◌, arith, drop-cons}
use Rattle.std.specs.Int.{w32, w64}
use Rattle.pt_num.specs.declared.limits.TheConstants.{GROUP}
use Rattle.pt_num.specs.Fields.{groups_at, var_at, with_group}
use Rattle.pt_num.proofs.Reading.{group_ends, group_more}
use Rattle.nt_head.specs.Places.{Reads}

-- ---- the bytes at a place

front : (bytes : List ℕ) (at next : ℕ) → next ≡ at + 1 → at < length bytes → drop at bytes ≡ get_or bytes at 0 ∷ drop next bytes
front bytes at next is there =
    let after : next ≡ suc at = omega (arith, is) in
    rw after (drop-cons bytes at 0 there)

front_two : (bytes : List ℕ) (at : ℕ) → at + 3 ≤ length bytes → drop at bytes ≡ get_or bytes at 0 ∷ get_or bytes (at + 1) 0 ∷ drop (at + 2) bytes
front_two bytes at there =
    front bytes at (at + 1) refl (omega arith)
    ∙ ap (λ (rest : List ℕ). get_or bytes at 0 ∷ rest) (front bytes (at + 1) (at + 2) (omega arith) (omega arith))

front_three : (bytes : List ℕ) (at : ℕ) → at + 3 ≤ length bytes → drop at bytes ≡ get_or bytes at 0 ∷ get_or bytes (at + 1) 0 ∷ get_or bytes (at + 2) 0 ∷ drop (at + 3) bytes
front_three bytes at there =
    front_two bytes at there
    ∙ ap (λ (rest : List ℕ). get_or bytes at 0 ∷ get_or bytes (at + 1) 0 ∷ rest) (front bytes (at + 2) (at + 3) (omega arith) (omega arith))

-- ---- the groups

groups_two : (from rest : List ℕ) (more last first second : ℕ) → GROUP ≤ first → second < GROUP → groups_at from (more + 2) last (first ∷ second ∷ rest) ≡ Ok (first % GROUP + GROUP * second, rest)
groups_two from rest more last first second high low =
    group_more from (second ∷ rest) (more + 2) (more + 1) last first (omega arith) high
    ∙ ap (with_group first) (group_ends from rest (more + 1) last second (λ none. absurd (omega (arith, none))) low)

groups_three : (from rest : List ℕ) (more last first second third : ℕ) → GROUP ≤ first → GROUP ≤ second → third < GROUP → groups_at from (more + 3) last (first ∷ second ∷ third ∷ rest) ≡ Ok (first % GROUP + GROUP * (second % GROUP + GROUP * third), rest)
groups_three from rest more last first second third high higher low =
    group_more from (second ∷ third ∷ rest) (more + 3) (more + 2) last first (omega arith) high
    ∙ ap (with_group first) (groups_two from rest more last second third higher low)

-- ---- what is read

pub one_32 : (bytes : List ℕ) (at : ℕ) → at < length bytes → get_or bytes at 0 < GROUP → Reads (var_at w32) bytes at (at + 1) (get_or bytes at 0)
one_32 bytes at there low =
    let is = front bytes at (at + 1) refl (omega arith) in
    let more : 4 ≡ 0 → get_or bytes at 0 ≤ 15 = λ none. omega (arith, none) in
    record {
      within = omega arith;
      read = ap (var_at w32) is ∙ group_ends (get_or bytes at 0 ∷ drop (at + 1) bytes) (drop (at + 1) bytes) 4 15 (get_or bytes at 0) more low;
    }

pub one_64 : (bytes : List ℕ) (at : ℕ) → at < length bytes → get_or bytes at 0 < GROUP → Reads (var_at w64) bytes at (at + 1) (get_or bytes at 0)
one_64 bytes at there low =
    let is = front bytes at (at + 1) refl (omega arith) in
    let more : 9 ≡ 0 → get_or bytes at 0 ≤ 1 = λ none. omega (arith, none) in
    record {
      within = omega arith;
      read = ap (var_at w64) is ∙ group_ends (get_or bytes at 0 ∷ drop (at + 1) bytes) (drop (at + 1) bytes) 9 1 (get_or bytes at 0) more low;
    }

pub two_32 : (bytes : List ℕ) (at : ℕ) → at + 3 ≤ length bytes → GROUP ≤ get_or bytes at 0 → get_or bytes (at + 1) 0 < GROUP → Reads (var_at w32) bytes at (at + 2) (get_or bytes at 0 % GROUP + GROUP * get_or bytes (at + 1) 0)
two_32 bytes at there high low =
    let is = front_two bytes at there in
    record {
      within = omega arith;
      read = ap (var_at w32) is ∙ groups_two (get_or bytes at 0 ∷ get_or bytes (at + 1) 0 ∷ drop (at + 2) bytes) (drop (at + 2) bytes) 2 15 (get_or bytes at 0) (get_or bytes (at + 1) 0) high low;
    }

pub two_64 : (bytes : List ℕ) (at : ℕ) → at + 3 ≤ length bytes → GROUP ≤ get_or bytes at 0 → get_or bytes (at + 1) 0 < GROUP → Reads (var_at w64) bytes at (at + 2) (get_or bytes at 0 % GROUP + GROUP * get_or bytes (at + 1) 0)
two_64 bytes at there high low =
    let is = front_two bytes at there in
    record {
      within = omega arith;
      read = ap (var_at w64) is ∙ groups_two (get_or bytes at 0 ∷ get_or bytes (at + 1) 0 ∷ drop (at + 2) bytes) (drop (at + 2) bytes) 7 1 (get_or bytes at 0) (get_or bytes (at + 1) 0) high low;
    }

pub three_32 : (bytes : List ℕ) (at : ℕ) → at + 3 ≤ length bytes → GROUP ≤ get_or bytes at 0 → GROUP ≤ get_or bytes (at + 1) 0 → get_or bytes (at + 2) 0 < GROUP → Reads (var_at w32) bytes at (at + 3) (get_or bytes at 0 % GROUP + GROUP * (get_or bytes (at + 1) 0 % GROUP + GROUP * get_or bytes (at + 2) 0))
three_32 bytes at there high higher low =
    let is = front_three bytes at there in
    record {
      within = there;
      read = ap (var_at w32) is ∙ groups_three (get_or bytes at 0 ∷ get_or bytes (at + 1) 0 ∷ get_or bytes (at + 2) 0 ∷ drop (at + 3) bytes) (drop (at + 3) bytes) 1 15 (get_or bytes at 0) (get_or bytes (at + 1) 0) (get_or bytes (at + 2) 0) high higher low;
    }

pub three_64 : (bytes : List ℕ) (at : ℕ) → at + 3 ≤ length bytes → GROUP ≤ get_or bytes at 0 → GROUP ≤ get_or bytes (at + 1) 0 → get_or bytes (at + 2) 0 < GROUP → Reads (var_at w64) bytes at (at + 3) (get_or bytes at 0 % GROUP + GROUP * (get_or bytes (at + 1) 0 % GROUP + GROUP * get_or bytes (at + 2) 0))
three_64 bytes at there high higher low =
    let is = front_three bytes at there in
    record {
      within = there;
      read = ap (var_at w64) is ∙ groups_three (get_or bytes at 0 ∷ get_or bytes (at + 1) 0 ∷ get_or bytes (at + 2) 0 ∷ drop (at + 3) bytes) (drop (at + 3) bytes) 6 1 (get_or bytes at 0) (get_or bytes (at + 1) 0) (get_or bytes (at + 2) 0) high higher low;
    }
