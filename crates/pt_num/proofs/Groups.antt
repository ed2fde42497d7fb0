-- The groups of a varuint that is put.
use Rattle.std.proofs.Common.{◌≡◌, ℕ, zero, suc, ◌+◌, ◌-◌, ◌*◌, ◌/◌, ◌%◌, ◌^◌, ◌<◌, ◌≤◌, true, List, [], ◌∷◌, ◌++◌, ◌⊎◌, length, inl, inr, ap, ◌∙◌, sym, subst, append_assoc, lit<, arith}
use Rattle.std.specs.Prelude.{IsTrue}
use Rattle.std.specs.Int.{w32, w64, is_in_range}
use Rattle.std.proofs.Math.Nat.{div-lt_iff_lt-mul, pow-suc}
use Rattle.std.proofs.lemmas.Bool.{lt-ltb, and_from, false≢true}
use Rattle.std.proofs.lemmas.Bool.Decides.{nat_tests}
use Rattle.pt_num.specs.declared.limits.TheConstants.{GROUP}
use Rattle.pt_num.specs.Numbers.{are_groups, groups_value, last_byte, short_groups, short_var, IsShortVar}

-- A value below 128 is one group.
pub short_groups-last : (n value : ℕ) → 0 < n → value < GROUP → short_groups n value ≡ value ∷ []
unfolding short_groups
short_groups-last zero value some few = absurd (omega arith)
short_groups-last (suc n) value some few = grind (arith, nat_tests)

-- Another one has its low seven bits first.
pub short_groups-next : (n more value : ℕ) → n ≡ more + 1 → GROUP ≤ value → short_groups n value ≡ (GROUP + value % GROUP) ∷ short_groups more (value / GROUP)
unfolding short_groups
short_groups-next zero more value is many = absurd (omega arith)
short_groups-next (suc n) more value is many =
    let same : n ≡ more = omega arith in
    rw same (grind (arith, nat_tests))

-- A value is either below 128 or not.
few_or_many : (value : ℕ) → (value < GROUP) ⊎ (GROUP ≤ value)
few_or_many value = grind arith

-- What is left of a value fits one group less.
less_fits : (n value : ℕ) → value < GROUP ^ suc n → value / GROUP < GROUP ^ n
less_fits n value fits = (div-lt_iff_lt-mul {k = GROUP} {x = value} {y = GROUP ^ n} (lit< tt)).1 (rw pow-suc at fits)

-- A value that is more than one group fits no less than two.
two_at_least : (n value : ℕ) → value < GROUP ^ n → GROUP ≤ value → 2 ≤ n
two_at_least zero value fits many = absurd (omega arith)
two_at_least (suc zero) value fits many = absurd (omega arith)
two_at_least (suc (suc n)) value fits many = omega arith

-- Of two groups or more one at least is left after the first.
fewer : {n : ℕ} → 2 ≤ suc n → 0 < n
fewer two = omega arith

-- Any numbers of groups that the value fits give the same.
pub same_groups : (n m value : ℕ) → 0 < n → 0 < m → value < GROUP ^ n → value < GROUP ^ m → short_groups n value ≡ short_groups m value
same_groups zero m value some more fits fit = absurd (omega arith)
same_groups (suc n) zero value some more fits fit = absurd (omega arith)
same_groups (suc n) (suc m) value some more fits fit =
    elim (few_or_many value) [
      | inl few ↦ short_groups-last (suc n) value some few ∙ sym (short_groups-last (suc m) value more few)
      | inr many ↦
          short_groups-next (suc n) n value (omega arith) many
          ∙ ap (λ (groups : List ℕ). (GROUP + value % GROUP) ∷ groups)
          (same_groups n m (value / GROUP) (fewer (two_at_least (suc n) value fits many)) (fewer (two_at_least (suc m) value fit many)) (less_fits n value fits) (less_fits m value fit))
          ∙ sym (short_groups-next (suc m) m value (omega arith) many)
    ]

-- A number of 32 bits has the same groups as one of 64.
pub same_as_64 : (value : ℕ) → value < 2 ^ 32 → short_var w64 value ≡ short_var w32 value
same_as_64 value fits = same_groups 10 5 value (omega arith) (omega arith) (omega arith) (omega arith)

-- ---- appending

-- The bytes that are put, and then the groups of what is left, are all bytes, for which there is room.
pub record Remains (bytes : List ℕ) (len capacity rest : ℕ) (all : List ℕ) (total : ℕ) : Type 0 where
  pub left : ℕ
  pub some : 0 < left
  pub fits : rest < GROUP ^ left
  pub put : bytes ++ short_groups left rest ≡ all
  pub room : total ≤ capacity
  pub whole : len + length (short_groups left rest) ≡ total

-- There is room for one group at least.
pub groups_room : (bytes : List ℕ) (len capacity rest : ℕ) (all : List ℕ) (total : ℕ) → Remains bytes len capacity rest all total → len < capacity
groups_room bytes len capacity rest all total remains =
    elim (few_or_many rest) [
      | inl few ↦ omega (arith, remains.room, remains.whole, ap length (short_groups-last remains.left rest remains.some few))
      | inr many ↦ omega (arith, remains.room, remains.whole, ap length (short_groups-next remains.left (remains.left - 1) rest (omega arith) many))
    ]

-- The last group is put.
pub groups_end : (bytes : List ℕ) (len capacity rest : ℕ) (all : List ℕ) (total : ℕ) → rest < GROUP → Remains bytes len capacity rest all total → bytes ++ rest ∷ [] ≡ all
groups_end bytes len capacity rest all total few remains = rw (short_groups-last remains.left rest remains.some few) at remains.put

-- With the last group all is put.
pub groups_len : (bytes : List ℕ) (len capacity rest : ℕ) (all : List ℕ) (total : ℕ) → rest < GROUP → Remains bytes len capacity rest all total → len + 1 ≡ total
groups_len bytes len capacity rest all total few remains =
    omega (arith, remains.whole, ap length (short_groups-last remains.left rest remains.some few))

-- A group is put that is not the last.
pub groups_step : (bytes : List ℕ) (len capacity rest : ℕ) (all : List ℕ) (total : ℕ) → GROUP ≤ rest → Remains bytes len capacity rest all total → Remains (bytes ++ (GROUP + rest % GROUP) ∷ []) (len + 1) capacity (rest / GROUP) all total
groups_step bytes len capacity rest all total many remains =
    let two = two_at_least remains.left rest remains.fits many in
    let next : remains.left ≡ (remains.left - 1) + 1 = omega arith in
    let over : remains.left ≡ suc (remains.left - 1) = omega arith in
    let groups = short_groups-next remains.left (remains.left - 1) rest next many in
    record {
      left = remains.left - 1;
      some = omega arith;
      fits = less_fits (remains.left - 1) rest (rw over at remains.fits);
      put =
          append_assoc bytes ((GROUP + rest % GROUP) ∷ []) (short_groups (remains.left - 1) (rest / GROUP))
          ∙ (rw groups at remains.put);
      room = remains.room;
      whole = omega (arith, remains.whole, ap length groups);
    }

-- ---- the short form

-- Seven bits with the high bit set.
in_high : (n : ℕ) → is_in_range GROUP 255 (GROUP + n % GROUP) ≡ true
in_high n = grind (arith, nat_tests)

-- One more byte with its high bit set.
are_groups-more : (b : ℕ) (bytes : List ℕ) → is_in_range GROUP 255 b ≡ true → are_groups bytes ≡ true → are_groups (b ∷ bytes) ≡ true
are_groups-more b [] high h = absurd (false≢true h)
are_groups-more b (c ∷ bytes) high h = and_from (is_in_range GROUP 255 b) (are_groups (c ∷ bytes)) high h

-- Bytes after a first one end as they do.
last_byte-more : (b : ℕ) (bytes : List ℕ) → 0 < last_byte bytes → 0 < last_byte (b ∷ bytes)
last_byte-more b [] h = absurd (omega arith)
last_byte-more b (c ∷ bytes) h = h

-- The groups of a number that fits them.
record IsShort (more n : ℕ) (bytes : List ℕ) : Type 0 where
  pub groups : IsTrue (are_groups bytes)
  pub few : length bytes ≤ more
  pub sum : n ≡ groups_value bytes
  pub short : 0 < n → 0 < last_byte bytes
  pub none : n ≡ 0 → bytes ≡ 0 ∷ []

-- The last group.
short-last : (more n : ℕ) → n < GROUP → IsShort (suc more) n (n ∷ [])
short-last more n low = record {
  groups = lt-ltb n GROUP low;
  few = omega arith;
  sum = omega arith;
  short = λ some. some;
  none = λ zero. ap (λ (b : ℕ). b ∷ []) zero;
}

-- A group before the others.
short-more : (more n : ℕ) (bytes : List ℕ) → GROUP ≤ n → IsShort more (n / GROUP) bytes → IsShort (suc more) n ((GROUP + n % GROUP) ∷ bytes)
short-more more n bytes many h =
    record {
      groups = are_groups-more (GROUP + n % GROUP) bytes (in_high n) h.groups;
      few = omega (arith, h.few);
      sum = value (groups_value bytes) h.sum;
      short = λ some. last_byte-more (GROUP + n % GROUP) bytes (h.short (omega arith));
      none = λ none. absurd (omega arith);
    }
  where
    value : (v : ℕ) → n / GROUP ≡ v → n ≡ (GROUP + n % GROUP) % GROUP + GROUP * v
    value v e = omega arith

-- The groups of a number that fits them, by its last group.
short_is : (more n : ℕ) → 0 < more → n < GROUP ^ more → IsShort more n (short_groups more n)
short_is zero n some h = absurd (omega arith)
short_is (suc more) n some h =
    elim (few_or_many n) [
      | inl few ↦ subst (λ (bytes : List ℕ). IsShort (suc more) n bytes) (sym (short_groups-last (suc more) n some few)) (short-last more n few)
      | inr many ↦ subst (λ (bytes : List ℕ). IsShort (suc more) n bytes) (sym (short_groups-next (suc more) more n (omega arith) many))
          (short-more more n (short_groups more (n / GROUP)) many (short_is more (n / GROUP) (fewer (two_at_least (suc more) n h many)) (less_fits more n h)))
    ]

-- The single byte 0, or a last byte that is not 0.
short_or_zero : (more n : ℕ) (bytes : List ℕ) → IsShort more n bytes → (bytes ≡ 0 ∷ []) ⊎ (0 < last_byte bytes)
short_or_zero more zero bytes h = inl (h.none (omega arith))
short_or_zero more (suc n) bytes h = inr (h.short (omega arith))

-- A number of 32 bits in its short form.
pub short_var-32 : (n : ℕ) → n < 2 ^ 32 → IsShortVar w32 n (short_var w32 n)
short_var-32 n h =
    let short = short_is 5 n (omega arith) (omega arith) in
    record {
      var = record { groups = short.groups; few = short.few; sum = short.sum; fits = h };
      short = short_or_zero 5 n (short_var w32 n) short;
    }

-- A number of 64 bits in its short form.
pub short_var-64 : (n : ℕ) → n < 2 ^ 64 → IsShortVar w64 n (short_var w64 n)
short_var-64 n h =
    let short = short_is 10 n (omega arith) (omega arith) in
    record {
      var = record { groups = short.groups; few = short.few; sum = short.sum; fits = h };
      short = short_or_zero 10 n (short_var w64 n) short;
    }

-- A short form has at most so many bytes.
pub short_len : (more n : ℕ) → length (short_groups more n) ≤ more
unfolding short_groups
short_len zero n = omega arith
short_len (suc more) n =
    elim (few_or_many n) [
      | inl few ↦ omega (arith, ap length (short_groups-last (suc more) n (omega arith) few))
      | inr many ↦ omega (arith, short_len more (n / GROUP), ap length (short_groups-next (suc more) more n (omega arith) many))
    ]
