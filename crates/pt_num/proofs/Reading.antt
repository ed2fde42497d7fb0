-- The groups of a varuint that is read.
use Rattle.std.proofs.Common.{◌≡◌, ℕ, zero, suc, ◌+◌, ◌-◌, ◌*◌, ◌%◌, ◌^◌, ◌<◌, ◌≤◌, List, [], ◌∷◌, drop, Ok, Err, refl, ap, ◌∙◌, sym, arith, add-one, inl, inr, lit<}
use Rattle.std.proofs.Math.Nat.{pow-le-pow_right, mul-le-mul_right, mul_comm, pow-suc}
use Rattle.std.proofs.lemmas.Bool.{cases_lt}
use Rattle.std.proofs.lemmas.Bool.Decides.{nat_tests}
use Rattle.pt_num.specs.declared.limits.TheConstants.{GROUP}
use Rattle.pt_num.specs.Fields.{Field, Short, TooWide, with_group, groups_at}

-- A value so far, and above it what the later groups have.
abbrev pub above : ℕ → ℕ → Field ℕ → Field ℕ
above value scale (Ok high) = Ok (value + scale * high.0, high.1)
above value scale (Err fault) = Err fault

-- A group at its place.
group_value : (value scale b high : ℕ) → value + scale * (b % GROUP + GROUP * high) ≡ (value + b % GROUP * scale) + scale * GROUP * high
group_value value scale b high = grind arith

-- A group more is above the value so far.
above-group : (value scale b : ℕ) (field : Field ℕ) → above value scale (with_group b field) ≡ above (value + b % GROUP * scale) (scale * GROUP) field
above-group value scale b (Ok high) = ap (λ (n : ℕ). Ok (n, high.1)) (group_value value scale b high.0)
above-group value scale b (Err fault) = refl

-- The last possible group is too great.
pub last_over : (from rest : List ℕ) (more last b : ℕ) → more ≡ 0 → last < b → groups_at from more last (b ∷ rest) ≡ Err (TooWide from)
unfolding groups_at
last_over from rest zero last b none over = grind (arith, nat_tests)
last_over from rest (suc more) last b none over = absurd (omega arith)

-- A group that says that none follow.
pub group_ends : (from rest : List ℕ) (more last b : ℕ) → (more ≡ 0 → b ≤ last) → b < GROUP → groups_at from more last (b ∷ rest) ≡ Ok (b, rest)
unfolding groups_at
group_ends from rest zero last b fits low = let fit = fits refl in grind (arith, nat_tests)
group_ends from rest (suc more) last b fits low = grind (arith, nat_tests)

-- A group that says that more follow.
pub group_more : (from rest : List ℕ) (more later last b : ℕ) → more ≡ later + 1 → GROUP ≤ b → groups_at from more last (b ∷ rest) ≡ with_group b (groups_at from later last rest)
unfolding groups_at
group_more from rest zero later last b next high = absurd (omega arith)
group_more from rest (suc more) later last b next high =
    let same : more ≡ later = omega arith in
    rw same (grind (arith, nat_tests))

-- No group is left.
pub groups_none : (from : List ℕ) (more last : ℕ) → groups_at from more last [] ≡ Err Short
unfolding groups_at
groups_none from zero last = refl
groups_none from (suc more) last = refl

-- The groups before this place are read.
pub record Reads (from : List ℕ) (most last place value scale : ℕ) : Type 0 where
  pub before : place < most
  pub scaled : scale ≡ GROUP ^ place
  pub low : value < scale
  pub read : groups_at from (most - 1) last from ≡ above value scale (groups_at from (most - 1 - place) last (drop place from))

-- Nothing is left to read.
pub reads_end : (from : List ℕ) (most last place value scale : ℕ) → drop place from ≡ [] → Reads from most last place value scale → groups_at from (most - 1) last from ≡ Err Short
reads_end from most last place value scale none reads =
    reads.read ∙ ap (above value scale) (ap (λ (bytes : List ℕ). groups_at from (most - 1 - place) last bytes) none ∙ groups_none from (most - 1 - place) last)

-- The last possible group is too great.
pub reads_over : (from : List ℕ) (most last place value scale b : ℕ) → drop place from ≡ b ∷ drop (place + 1) from → place + 1 ≡ most → last < b → Reads from most last place value scale → groups_at from (most - 1) last from ≡ Err (TooWide from)
reads_over from most last place value scale b front at over reads =
    reads.read
    ∙ ap (above value scale)
    (ap (λ (bytes : List ℕ). groups_at from (most - 1 - place) last bytes) front ∙ last_over from (drop (place + 1) from) (most - 1 - place) last b (omega arith) over)

-- The last group is read.
pub reads_last : (from : List ℕ) (most last place value scale b : ℕ) → drop place from ≡ b ∷ drop (place + 1) from → (place + 1 ≡ most → b ≤ last) → b < GROUP → Reads from most last place value scale → groups_at from (most - 1) last from ≡ Ok (value + b % GROUP * scale, drop (place + 1) from)
reads_last from most last place value scale b front fits low reads =
    let same : value + scale * b ≡ value + b % GROUP * scale = grind arith in
    reads.read
    ∙ ap (above value scale)
    (ap (λ (bytes : List ℕ). groups_at from (most - 1 - place) last bytes) front
    ∙ group_ends from (drop (place + 1) from) (most - 1 - place) last b (λ none. fits (omega arith)) low)
    ∙ ap (λ (n : ℕ). Ok (n, drop (place + 1) from)) same

-- The next power.
pow_next : (place : ℕ) → GROUP ^ (place + 1) ≡ GROUP ^ place * GROUP
pow_next place = rw (add-one, pow-suc)

-- A group at most this great adds at most so many times the scale.
group_low : (value scale b most : ℕ) → value < scale → b ≤ most → value + b * scale < scale * (most + 1)
group_low value scale b most low small =
    let product = mul-le-mul_right {m = b} {n = most} scale small in
    omega (arith, product)

-- The value with its last group.
pub last_bound : (most last place value scale b : ℕ) → scale ≡ GROUP ^ place → value < scale → place < most → 0 < last → (place + 1 ≡ most → b ≤ last) → b < GROUP → value + b % GROUP * scale < (last + 1) * GROUP ^ (most - 1)
last_bound most last place value scale b scaled low before some fits small =
    let same : b % GROUP ≡ b = omega arith in
    elim (cases_lt (place + 1) most) [
      | inl more ↦
          let first = group_low value scale b 127 low (omega arith) in
          let next : scale * (127 + 1) ≡ GROUP ^ (place + 1) = rw scaled (sym (pow_next place)) in
          let grows = pow-le-pow_right {n = GROUP} (lit< tt) {i = place + 1} {j = most - 1} (omega arith) in
          let twice = mul-le-mul_right {m = 1} {n = last + 1} (GROUP ^ (most - 1)) (omega arith) in
          rw same (omega (arith, first, next, grows, twice))
      | inr end ↦
          let at : place ≡ most - 1 = omega arith in
          let first = group_low value scale b last low (fits (omega arith)) in
          let here : scale * (last + 1) ≡ (last + 1) * GROUP ^ (most - 1) = rw (← at, scaled) (mul_comm (GROUP ^ place) (last + 1)) in
          rw same (omega (arith, first, here))
    ]

-- A group is read that is not the last.
pub reads_more : (from : List ℕ) (most last place value scale b : ℕ) → drop place from ≡ b ∷ drop (place + 1) from → place + 1 < most → GROUP ≤ b → Reads from most last place value scale → Reads from most last (place + 1) (value + b % GROUP * scale) (scale * GROUP)
reads_more from most last place value scale b front at high reads =
    record {
      before = at;
      scaled = rw reads.scaled (sym (pow_next place));
      low = group_low value scale (b % GROUP) 127 reads.low (omega arith);
      read =
          reads.read
          ∙ ap (above value scale)
          (ap (λ (bytes : List ℕ). groups_at from (most - 1 - place) last bytes) front
          ∙ group_more from (drop (place + 1) from) (most - 1 - place) (most - 1 - (place + 1)) last b (omega arith) high)
          ∙ above-group value scale b (groups_at from (most - 1 - (place + 1)) last (drop (place + 1) from));
    }
