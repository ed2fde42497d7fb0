-- What is read as a varuint is one, and what is none is refused.
use Rattle.std.proofs.Common.{◌≡◌, ◌↔◌, ℕ, zero, suc, ◌+◌, ◌*◌, ◌/◌, ◌%◌, ◌^◌, ◌<◌, ◌≤◌, true, List, [], ◌∷◌, ◌++◌, length, take, drop, Ok, Err, refl, ap, ◌∙◌, sym, subst, arith, get_or, inl, inr}
use Rattle.std.specs.Prelude.{nat_le, IsTrue}
use Rattle.std.specs.Int.{Width, w32, w64, is_in_range}
use Rattle.std.specs.List.{list_all}
use Rattle.std.proofs.Math.Nat.{one-le-pow, pow-suc, mul_assoc, mul-le-mul}
use Rattle.std.proofs.lemmas.Bool.{cases_lt, lt-ltb, ltb-true, le-leb, leb-true, and_from, and_parts, false≢true}
use Rattle.std.proofs.lemmas.List.{length-append, length-drop, take_at}
use Rattle.pt_num.specs.declared.limits.TheConstants.{GROUP}
use Rattle.pt_num.specs.declared.varuint.Taken.{Taken}
use Rattle.pt_num.specs.declared.varuint.Taken.TheVariants as taken
use Rattle.pt_num.specs.Numbers.{are_groups, groups_value, last_byte, most_groups, short_groups, short_var, IsVar, IsShortVar}
use Rattle.pt_num.specs.Begins.{Begins}
use Rattle.pt_num.proofs.Groups.{short_groups-last, short_groups-next}
use Rattle.pt_num.specs.Fields.{Field, Fault, Short, TooWide, with_group, groups_at, var_at}
use Rattle.pt_num.specs.Taking.{Takes, IfValue, are_high}
use Rattle.pt_num.proofs.Reading.{last_over, group_ends, group_more, groups_none}

-- ---- what is read is a form

-- The bytes begin with groups of this value, and then come these.
record Front (more last value : ℕ) (bytes rest : List ℕ) : Type 0 where
  pub front : List ℕ
  pub whole : bytes ≡ front ++ rest
  pub groups : are_groups front ≡ true
  pub few : length front ≤ more + 1
  pub sum : value ≡ groups_value front
  pub low : value < (last + 1) * GROUP ^ more

-- Two fields are the same.
abbrev IsSame : Field ℕ → Field ℕ → Type 0
IsSame left right = left ≡ right

-- Fields that are the same have the same value, and the same bytes after it.
Ok-same : (n m : ℕ) (xs ys : List ℕ) → IsSame (Ok (n, xs)) (Ok (m, ys)) → (n ≡ m) × (xs ≡ ys)
Ok-same n m xs ys e =
    let value : Field ℕ → ℕ = λ field. elim field [ Ok high ↦ high.0 | Err fault ↦ 0 ] in
    let after : Field ℕ → List ℕ = λ field. elim field [ Ok high ↦ high.1 | Err fault ↦ [] ] in
    (ap value e, ap after e)

-- What a field has above a group.
with_group_ok : (b value : ℕ) (rest : List ℕ) (field : Field ℕ) → with_group b field ≡ Ok (value, rest) → (high : ℕ) × (field ≡ Ok (high, rest)) × (value ≡ b % GROUP + GROUP * high)
with_group_ok b value rest (Ok high) e =
    let same = Ok-same (b % GROUP + GROUP * high.0) value high.1 rest e in
    (high.0, ap (λ (bytes : List ℕ). Ok (high.0, bytes)) same.1, sym same.0)
with_group_ok b value rest (Err fault) e = absurd (cc)

-- One group alone.
front_one : (more last b : ℕ) (rest : List ℕ) → b < GROUP → b < (last + 1) * GROUP ^ more → Front more last b (b ∷ rest) rest
front_one more last b rest small low = record {
  front = b ∷ [];
  whole = refl;
  groups = lt-ltb b GROUP small;
  few = omega arith;
  sum = omega arith;
  low = low;
}

-- A group before others.
front_more : (more last b high : ℕ) (bytes rest : List ℕ) → GROUP ≤ b → b < 256 → Front more last high bytes rest → Front (suc more) last (b % GROUP + GROUP * high) (b ∷ bytes) rest
front_more more last b high bytes rest large small front =
    record {
      front = b ∷ front.front;
      whole = ap (λ (bs : List ℕ). b ∷ bs) front.whole;
      groups = more_groups front.front front.groups;
      few = omega (arith, front.few);
      sum = ap (λ (n : ℕ). b % GROUP + GROUP * n) front.sum;
      low =
          let power : (last + 1) * GROUP ^ suc more ≡ (last + 1) * GROUP ^ more * GROUP = rw pow-suc (sym (mul_assoc (last + 1) (GROUP ^ more) GROUP)) in
          omega (arith, power, front.low);
    }
  where
    more_groups : (bs : List ℕ) → are_groups bs ≡ true → are_groups (b ∷ bs) ≡ true
    more_groups [] h = absurd (false≢true h)
    more_groups (c ∷ bs) h = and_from (is_in_range GROUP 255 b) (are_groups (c ∷ bs)) (and_from (nat_le GROUP b) (nat_le b 255) (le-leb GROUP b large) (le-leb b 255 (omega arith))) h

-- A small group fits.
small_fits : (last more b : ℕ) → b < GROUP → b < (last + 1) * GROUP ^ suc more
small_fits last more b small =
    let power : (last + 1) * GROUP ^ suc more ≡ (last + 1) * GROUP ^ more * GROUP = rw pow-suc (sym (mul_assoc (last + 1) (GROUP ^ more) GROUP)) in
    let some = mul-le-mul {n₁ = 1} {m₁ = 1} {n₂ = last + 1} {m₂ = GROUP ^ more} (omega arith) (one-le-pow more GROUP (omega arith)) in
    omega (arith, power, some)

-- What is read begins the bytes.
front_of : (from bytes rest : List ℕ) (more last value : ℕ) → last < GROUP → ((i : ℕ) → get_or bytes i 0 < 256) → groups_at from more last bytes ≡ Ok (value, rest) → Front more last value bytes rest
front_of from [] rest more last value low fits e = absurd (cc (groups_none from more last))
front_of from (b ∷ bytes) rest zero last value low fits e =
    elim (cases_lt last b) [
      | inl over ↦ absurd (cc (last_over from bytes zero last b refl over))
      | inr fit ↦
          let ends = group_ends from bytes zero last b (λ none. fit) (omega arith) in
          let same = Ok-same b value bytes rest (sym ends ∙ e) in
          let one = front_one zero last b bytes (omega arith) (omega arith) in
          subst (λ (bs : List ℕ). Front zero last value (b ∷ bytes) bs) same.1 (subst (λ (n : ℕ). Front zero last n (b ∷ bytes) bytes) same.0 one)
    ]
front_of from (b ∷ bytes) rest (suc more) last value low fits e =
    elim (cases_lt b GROUP) [
      | inl small ↦
          let ends = group_ends from bytes (suc more) last b (λ none. absurd (omega arith)) small in
          let same = Ok-same b value bytes rest (sym ends ∙ e) in
          let one = front_one (suc more) last b bytes small (small_fits last more b small) in
          subst (λ (bs : List ℕ). Front (suc more) last value (b ∷ bytes) bs) same.1 (subst (λ (n : ℕ). Front (suc more) last n (b ∷ bytes) bytes) same.0 one)
      | inr large ↦
          let next = group_more from bytes (suc more) more last b (omega arith) large in
          let high = with_group_ok b value rest (groups_at from more last bytes) (sym next ∙ e) in
          let front = front_of from bytes rest more last high.0 low (λ i. fits (suc i)) high.1 in
          subst (λ (n : ℕ). Front (suc more) last n (b ∷ bytes) rest) (sym high.2) (front_more more last b high.0 bytes rest large (fits 0) front)
    ]

-- The bytes before what follows a value are its form.
var_of : (w : Width) (most last value used : ℕ) (bytes : List ℕ) → last < GROUP → ((i : ℕ) → get_or bytes i 0 < 256) → used ≤ length bytes → groups_at bytes most last bytes ≡ Ok (value, drop used bytes) → (value < (last + 1) * GROUP ^ most → IsTrue (are_groups (take used bytes)) → length (take used bytes) ≤ most + 1 → value ≡ groups_value (take used bytes) → IsVar w value (take used bytes)) → IsVar w value (take used bytes)
var_of w most last value used bytes low fits within e made =
    let front = front_of bytes bytes (drop used bytes) most last value low fits e in
    let long : length front.front ≡ used = omega (arith, ap length front.whole, length-append front.front (drop used bytes), length-drop used bytes) in
    let begun : take used bytes ≡ front.front = ap (λ (bs : List ℕ). take used bs) front.whole ∙ take_at front.front (drop used bytes) used long in
    made front.low (rw begun front.groups) (rw begun front.few) (rw begun front.sum)

-- A varuint of 32 bits that is read is one.
pub var_32 : (value used : ℕ) (bytes : List ℕ) → ((i : ℕ) → get_or bytes i 0 < 256) → used ≤ length bytes → var_at w32 bytes ≡ Ok (value, drop used bytes) → IsVar w32 value (take used bytes)
var_32 value used bytes fits within e =
    var_of w32 4 15 value used bytes (omega arith) fits within e
    (λ low groups few sum. record { groups = groups; few = few; sum = sum; fits = low })

-- A varuint of 64 bits that is read is one.
pub var_64 : (value used : ℕ) (bytes : List ℕ) → ((i : ℕ) → get_or bytes i 0 < 256) → used ≤ length bytes → var_at w64 bytes ≡ Ok (value, drop used bytes) → IsVar w64 value (take used bytes)
var_64 value used bytes fits within e =
    var_of w64 9 1 value used bytes (omega arith) fits within e
    (λ low groups few sum. record { groups = groups; few = few; sum = sum; fits = low })

-- ---- each form is read

-- Groups whose value fits are read, whatever follows.
pub groups_read : (from front rest : List ℕ) (more last : ℕ) → are_groups front ≡ true → length front ≤ more + 1 → groups_value front < (last + 1) * GROUP ^ more → groups_at from more last (front ++ rest) ≡ Ok (groups_value front, rest)
groups_read from [] rest more last groups few low = absurd (false≢true groups)
groups_read from (b ∷ []) rest more last groups few low =
    let small = ltb-true b GROUP groups in
    let same : b ≡ b % GROUP + GROUP * 0 = omega arith in
    group_ends from rest more last b (λ none. last_fits more none low) small ∙ ap (λ (n : ℕ). Ok (n, rest)) same
  where
    last_fits : (more : ℕ) → more ≡ 0 → b % GROUP + GROUP * 0 < (last + 1) * GROUP ^ more → b ≤ last
    last_fits zero none low = omega (arith, ltb-true b GROUP groups)
    last_fits (suc more) none low = absurd (omega arith)
groups_read from (b ∷ c ∷ front) rest zero last groups few low = absurd (omega arith)
groups_read from (b ∷ c ∷ front) rest (suc more) last groups few low =
    let parts = and_parts (is_in_range GROUP 255 b) (are_groups (c ∷ front)) groups in
    let large = leb-true GROUP b (and_parts (nat_le GROUP b) (nat_le b 255) parts.0).0 in
    let power : (last + 1) * GROUP ^ suc more ≡ (last + 1) * GROUP ^ more * GROUP = rw pow-suc (sym (mul_assoc (last + 1) (GROUP ^ more) GROUP)) in
    let less : groups_value (c ∷ front) < (last + 1) * GROUP ^ more = omega (arith, power, low) in
    group_more from (c ∷ front ++ rest) (suc more) more last b (omega arith) large
    ∙ ap (with_group b) (groups_read from (c ∷ front) rest more last parts.1 (omega (arith, few)) less)

-- A varuint of 32 bits is read, whatever follows.
pub read_32 : (value : ℕ) (bytes rest : List ℕ) → IsVar w32 value bytes → var_at w32 (bytes ++ rest) ≡ Ok (value, rest)
read_32 value bytes rest var =
    groups_read (bytes ++ rest) bytes rest 4 15 var.groups var.few (rw (← var.sum) var.fits) ∙ ap (λ (n : ℕ). Ok (n, rest)) (sym var.sum)

-- A varuint of 64 bits is read, whatever follows.
pub read_64 : (value : ℕ) (bytes rest : List ℕ) → IsVar w64 value bytes → var_at w64 (bytes ++ rest) ≡ Ok (value, rest)
read_64 value bytes rest var =
    groups_read (bytes ++ rest) bytes rest 9 1 var.groups var.few (rw (← var.sum) var.fits) ∙ ap (λ (n : ℕ). Ok (n, rest)) (sym var.sum)

-- ---- what is refused

-- A field above a group has the same fault.
with_group_err : (b : ℕ) (fault : Fault) (field : Field ℕ) → with_group b field ≡ Err fault → field ≡ Err fault
with_group_err b fault (Ok high) e = absurd (cc)
with_group_err b fault (Err other) e = cc

-- Too few groups, none of which is the last.
cut_is_short : (from bytes : List ℕ) (more last : ℕ) → length bytes ≤ more → are_high bytes → groups_at from more last bytes ≡ Err Short
cut_is_short from [] more last few high = groups_none from more last
cut_is_short from (b ∷ bytes) zero last few high = absurd (omega arith)
cut_is_short from (b ∷ bytes) (suc more) last few high =
    let parts = and_parts (nat_le GROUP b) (list_all (λ b. nat_le GROUP b) bytes) high in
    group_more from bytes (suc more) more last b (omega arith) (leb-true GROUP b parts.0)
    ∙ ap (with_group b) (cut_is_short from bytes more last (omega (arith, few)) parts.1)

-- What is short has too few groups, none of which is the last.
short_is_cut : (from bytes : List ℕ) (more last : ℕ) → last < GROUP → groups_at from more last bytes ≡ Err Short → (length bytes ≤ more) × are_high bytes
short_is_cut from [] more last low e = (omega arith, refl)
short_is_cut from (b ∷ bytes) zero last low e =
    elim (cases_lt last b) [
      | inl over ↦ absurd (cc (last_over from bytes zero last b refl over))
      | inr fit ↦ absurd (cc (group_ends from bytes zero last b (λ none. fit) (omega arith)))
    ]
short_is_cut from (b ∷ bytes) (suc more) last low e =
    elim (cases_lt b GROUP) [
      | inl small ↦ absurd (cc (group_ends from bytes (suc more) last b (λ none. absurd (omega arith)) small))
      | inr large ↦
          let next = group_more from bytes (suc more) more last b (omega arith) large in
          let later = short_is_cut from bytes more last low (with_group_err b Short (groups_at from more last bytes) (sym next ∙ e)) in
          (omega (arith, later.0), and_from (nat_le GROUP b) (list_all (λ b. nat_le GROUP b) bytes) (le-leb GROUP b large) later.1)
    ]

-- The last possible group is too great.
over_is_wide : (from bytes : List ℕ) (more last : ℕ) → are_high (take more bytes) → more < length bytes → last < get_or bytes more 0 → groups_at from more last bytes ≡ Err (TooWide from)
over_is_wide from [] more last high reached over = absurd (omega arith)
over_is_wide from (b ∷ bytes) zero last high reached over = last_over from bytes zero last b refl over
over_is_wide from (b ∷ bytes) (suc more) last high reached over =
    let parts = and_parts (nat_le GROUP b) (list_all (λ b. nat_le GROUP b) (take more bytes)) high in
    group_more from bytes (suc more) more last b (omega arith) (leb-true GROUP b parts.0)
    ∙ ap (with_group b) (over_is_wide from bytes more last parts.1 (omega (arith, reached)) over)

-- What is too wide has a last possible group that is too great.
wide_is_over : (from other bytes : List ℕ) (more last : ℕ) → last < GROUP → groups_at from more last bytes ≡ Err (TooWide other) → are_high (take more bytes) × (more < length bytes) × (last < get_or bytes more 0)
wide_is_over from other [] more last low e = absurd (cc (groups_none from more last))
wide_is_over from other (b ∷ bytes) zero last low e =
    elim (cases_lt last b) [
      | inl over ↦ (refl, omega arith, over)
      | inr fit ↦ absurd (cc (group_ends from bytes zero last b (λ none. fit) (omega arith)))
    ]
wide_is_over from other (b ∷ bytes) (suc more) last low e =
    elim (cases_lt b GROUP) [
      | inl small ↦ absurd (cc (group_ends from bytes (suc more) last b (λ none. absurd (omega arith)) small))
      | inr large ↦
          let next = group_more from bytes (suc more) more last b (omega arith) large in
          let later = wide_is_over from other bytes more last low (with_group_err b (TooWide other) (groups_at from more last bytes) (sym next ∙ e)) in
          (and_from (nat_le GROUP b) (list_all (λ b. nat_le GROUP b) (take more bytes)) (le-leb GROUP b large) later.0, omega (arith, later.1), later.2)
    ]

-- An answer is short exactly where the groups are cut.
pub short_iff : (bytes : List ℕ) (more last : ℕ) (answer : Taken ℕ) → last < GROUP → Takes (groups_at bytes more last bytes) bytes answer → (answer ≡ taken.Short) ↔ ((length bytes < more + 1) × are_high bytes)
short_iff bytes more last (taken.Value value used) low takes =
    (λ e. absurd (cc), λ cut. absurd (cc (takes.1, cut_is_short bytes bytes more last (omega (arith, cut.0)) cut.1)))
short_iff bytes more last taken.Short low takes =
    (λ e. let cut = short_is_cut bytes bytes more last low takes in (omega (arith, cut.0), cut.1), λ cut. refl)
short_iff bytes more last taken.TooWide low takes =
    (λ e. absurd (cc), λ cut. absurd (cc (takes, cut_is_short bytes bytes more last (omega (arith, cut.0)) cut.1)))

-- An answer is too wide exactly where the last possible group is too great.
pub wide_iff : (bytes : List ℕ) (more last : ℕ) (answer : Taken ℕ) → last < GROUP → Takes (groups_at bytes more last bytes) bytes answer → (answer ≡ taken.TooWide) ↔ (are_high (take more bytes) × (more < length bytes) × (last < get_or bytes more 0))
wide_iff bytes more last (taken.Value value used) low takes =
    (λ e. absurd (cc), λ over. absurd (cc (takes.1, over_is_wide bytes bytes more last over.0 over.1 over.2)))
wide_iff bytes more last taken.Short low takes =
    (λ e. absurd (cc), λ over. absurd (cc (takes, over_is_wide bytes bytes more last over.0 over.1 over.2)))
wide_iff bytes more last taken.TooWide low takes =
    (λ e. wide_is_over bytes bytes bytes more last low takes, λ over. refl)

-- A varuint of 64 bits that is taken is one.
pub form_64 : (bytes : List ℕ) (answer : Taken ℕ) → ((i : ℕ) → get_or bytes i 0 < 256) → Takes (var_at w64 bytes) bytes answer → IfValue answer (λ value used. IsVar w64 value (take used bytes))
form_64 bytes (taken.Value value used) fits takes = var_64 value used bytes fits takes.0 takes.1
form_64 bytes taken.Short fits takes = tt
form_64 bytes taken.TooWide fits takes = tt

-- ---- laws

-- What is read as a varuint of 32 bits begins with one.
pub begins_32 : (bytes rest : List ℕ) (value : ℕ) → ((i : ℕ) → get_or bytes i 0 < 256) → var_at w32 bytes ≡ Ok (value, rest) → Begins (IsVar w32 value) bytes rest
begins_32 bytes rest value fits e =
    let front = front_of bytes bytes rest 4 15 value (omega arith) fits e in
    (front.front, record { groups = front.groups; few = front.few; sum = front.sum; fits = front.low }, front.whole)

-- What is read as a varuint of 64 bits begins with one.
pub begins_64 : (bytes rest : List ℕ) (value : ℕ) → ((i : ℕ) → get_or bytes i 0 < 256) → var_at w64 bytes ≡ Ok (value, rest) → Begins (IsVar w64 value) bytes rest
begins_64 bytes rest value fits e =
    let front = front_of bytes bytes rest 9 1 value (omega arith) fits e in
    (front.front, record { groups = front.groups; few = front.few; sum = front.sum; fits = front.low }, front.whole)

-- ---- the short form

-- A last byte above 0 makes a value above 0.
some_value : (bytes : List ℕ) → are_groups bytes ≡ true → 0 < last_byte bytes → 0 < groups_value bytes
some_value [] groups some = absurd (omega arith)
some_value (b ∷ []) groups some = let small = ltb-true b GROUP groups in omega (arith, small, some)
some_value (b ∷ c ∷ bytes) groups some =
    let parts = and_parts (is_in_range GROUP 255 b) (are_groups (c ∷ bytes)) groups in
    omega (arith, some_value (c ∷ bytes) parts.1 some)

-- Groups with a last byte above 0 are those of their value.
short_unique : (more : ℕ) (bytes : List ℕ) → are_groups bytes ≡ true → length bytes ≤ more → 0 < last_byte bytes → bytes ≡ short_groups more (groups_value bytes)
short_unique more [] groups few some = absurd (omega arith)
short_unique more (b ∷ []) groups few some =
    let small = ltb-true b GROUP groups in
    let value : b % GROUP + GROUP * 0 ≡ b = omega (arith, small) in
    rw value (sym (short_groups-last more b (omega (arith, few)) small))
short_unique zero (b ∷ c ∷ bytes) groups few some = absurd (omega arith)
short_unique (suc more) (b ∷ c ∷ bytes) groups few some =
    let parts = and_parts (is_in_range GROUP 255 b) (are_groups (c ∷ bytes)) groups in
    let range = and_parts (nat_le GROUP b) (nat_le b 255) parts.0 in
    let low = leb-true GROUP b range.0 in
    let high = leb-true b 255 range.1 in
    let later = groups_value (c ∷ bytes) in
    let positive = some_value (c ∷ bytes) parts.1 some in
    let first : GROUP + (b % GROUP + GROUP * later) % GROUP ≡ b = omega (arith, low, high) in
    let rest : (b % GROUP + GROUP * later) / GROUP ≡ later = omega arith in
    sym (
    short_groups-next (suc more) more (b % GROUP + GROUP * later) (omega arith) (omega (arith, positive))
    ∙ rw (first, rest) (ap (λ (bs : List ℕ). b ∷ bs) (sym (short_unique more (c ∷ bytes) parts.1 (omega (arith, few)) some)))
    )

-- A short form is the one of its value.
pub one_short : (w : Width) (value : ℕ) (bytes : List ℕ) → 0 < most_groups w → IsShortVar w value bytes → bytes ≡ short_var w value
one_short w value bytes some h =
    elim h.short [
      | inl lone ↦
          let none : value ≡ 0 = h.var.sum ∙ ap groups_value lone in
          rw (lone, none) (sym (short_groups-last (most_groups w) 0 some (omega arith)))
      | inr last ↦ rw h.var.sum (short_unique (most_groups w) bytes h.var.groups h.var.few last)
    ]
