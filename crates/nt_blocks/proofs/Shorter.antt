-- A header that is read has bytes.
use Rattle.std.proofs.Common.{◌≡◌, ℕ, zero, suc, ◌+◌, ◌*◌, ◌%◌, ◌<◌, ◌≤◌, Bool, true, false, inl, inr, Some, None, Ok, Err, List, [], ◌∷◌, length, take, drop, refl, sym, ap, arith, length-drop}
use Rattle.std.specs.Prelude.{nat_lt, nat_le, if◌then◌else◌, ◌⊎◌}
use Rattle.std.specs.Int.{Width, w8, w32, w64}
use Rattle.std.proofs.lemmas.Bool.{ltb-false}
use Rattle.byteorder.specs.Endian.{little_number}
use Rattle.pt_num.specs.Steps.{◌>>=◌}
use Rattle.pt_num.specs.Fields.{Field, Fault, Short, TooWide, bytes_at, fixed_at, groups_at, var_at, with_group}
use Rattle.pt_num.proofs.Steps.{bind_inv, ok-same}
use Rattle.nt_head.specs.declared.flags.TheConstants.{ACTIVITY, METADATA, RELATED, SEQUENCE, SIZE, STACK, THREAD}
use Rattle.nt_head.specs.declared.head.HeadState.{HeadState}
use Rattle.nt_head.specs.declared.limits.TheConstants.{ID_BYTES}
use Rattle.nt_head.specs.Head.{HeadFields}
use Rattle.nt_head.specs.Reading.{fields_at, has_flag, head_at, if_set, sequence_at}

-- What is left behind a field is no longer than what was there.
pub record Shortens {A : Type 0} (field : List ℕ → Field A) : Type 0 where
  pub left : (bytes rest : List ℕ) (x : A) → field bytes ≡ Ok (x, rest) → length rest ≤ length bytes

same-rest : {A : Type 0} (x y : A) (a b : List ℕ) → (let one : Field A = Ok (x, a) in one ≡ Ok (y, b)) → a ≡ b
same-rest {A} x y a b e = ap (λ (p : A × List ℕ). p.1) (ok-same _ _ e)

with_group-inv : (b : ℕ) (field : Field ℕ) (x : ℕ) (rest : List ℕ) → with_group b field ≡ Ok (x, rest) → (y : ℕ) × (field ≡ Ok (y, rest))
with_group-inv b (Ok high) x rest e = (high.0, ap (λ (r : List ℕ). Ok (high.0, r)) (same-rest (b % 128 + 128 * high.0) x high.1 rest e))
with_group-inv b (Err fault) x rest e = absurd (cc)

if-taken : {A : Type 0} (test : Bool) (first other : Field A) (x : A) (rest : List ℕ) → (if test then first else other) ≡ Ok (x, rest) → (first ≡ Ok (x, rest)) ⊎ (other ≡ Ok (x, rest))
if-taken true first other x rest e = inl e
if-taken false first other x rest e = inr e

groups-left : (from : List ℕ) (more last : ℕ) (bytes rest : List ℕ) (x : ℕ) → groups_at from more last bytes ≡ Ok (x, rest) → length rest ≤ length bytes
unfolding groups_at
groups-left from more last [] rest x e = absurd (cc)
groups-left from zero last (b ∷ bytes) rest x e = elim (if-taken (nat_le b last) (Ok (b, bytes)) (Err (TooWide from)) x rest e) [
  | inl one ↦ omega (arith, ap length (same-rest b x bytes rest one))
  | inr over ↦ absurd (cc)
]
groups-left from (suc more) last (b ∷ bytes) rest x e = elim (if-taken (nat_lt b 128) (Ok (b, bytes)) (with_group b (groups_at from more last bytes)) x rest e) [
  | inl one ↦ omega (arith, ap length (same-rest b x bytes rest one))
  | inr others ↦
      let high = with_group-inv b (groups_at from more last bytes) x rest others in
      omega (arith, groups-left from more last bytes rest high.0 high.1)
]

Shortens-var : (w : Width) → Shortens (var_at w)
Shortens-var w = record { left = λ bytes rest x e. groups-left bytes _ _ bytes rest x e }

dropped-left : {A : Type 0} (n : ℕ) (short : Bool) (value : A) (fault : Fault) (bytes rest : List ℕ) (x : A) → (let found : Field A = Ok (value, drop n bytes) in if short then Err fault else found) ≡ Ok (x, rest) → (short ≡ false) × (length rest + n ≤ length bytes + n) × (rest ≡ drop n bytes)
dropped-left n true value fault bytes rest x e = absurd (cc)
dropped-left n false value fault bytes rest x e =
    let same = same-rest value x (drop n bytes) rest e in
    (refl, omega (arith, ap length same, length-drop n bytes), sym same)

Shortens-bytes : (n : ℕ) → Shortens (bytes_at n)
Shortens-bytes n = record { left = λ bytes rest x e. omega (arith, (dropped-left n (nat_lt (length bytes) n) (take n bytes) Short bytes rest x e).1) }

-- The flag byte is there.
flags-left : (bytes rest : List ℕ) (x : ℕ) → fixed_at w8 bytes ≡ Ok (x, rest) → length rest < length bytes
flags-left bytes rest x e =
    let found = dropped-left 1 (nat_lt (length bytes) 1) (little_number 1 bytes) Short bytes rest x e in
    omega (arith, ltb-false (length bytes) 1 found.0, ap length found.2, length-drop 1 bytes)

Shortens-if_set : {A : Type 0} (set : Bool) (field : List ℕ → Field A) → Shortens field → Shortens (if_set set field)
Shortens-if_set {A} true field shortens = record {
  left = λ bytes rest x e.
      let found = bind_inv (field bytes) _ _ e in
      let same = same-rest (Some found.0.0) x found.0.1 rest found.2 in
      omega (arith, ap length same, shortens.left bytes found.0.1 found.0.0 found.1);
}
Shortens-if_set {A} false field shortens = record { left = λ bytes rest x e. omega (arith, ap length (same-rest None x bytes rest e)) }

Shortens-sequence : Shortens sequence_at
Shortens-sequence = record {
  left = λ bytes rest x e.
      let increment = bind_inv (var_at w32 bytes) _ _ e in
      let capture = bind_inv (var_at w64 increment.0.1) _ _ increment.2 in
      let processor = bind_inv (var_at w32 capture.0.1) _ _ capture.2 in
      let same = same-rest _ x processor.0.1 rest processor.2 in
      omega (arith, ap length same, (Shortens-var w32).left bytes increment.0.1 increment.0.0 increment.1, (Shortens-var w64).left increment.0.1 capture.0.1 capture.0.0 capture.1, (Shortens-var w32).left capture.0.1 processor.0.1 processor.0.0 processor.1);
}

-- What is left behind what is read is no longer than this.
record Within {A : Type 0} (most : ℕ) (read : Field A) : Type 0 where
  left : (x : A) (rest : List ℕ) → read ≡ Ok (x, rest) → length rest ≤ most

within-field : {A : Type 0} (most : ℕ) (field : List ℕ → Field A) (bytes : List ℕ) → Shortens field → length bytes ≤ most → Within most (field bytes)
within-field most field bytes shortens few = record { left = λ x rest e. omega (arith, shortens.left bytes rest x e) }

within-next : {A B : Type 0} (most : ℕ) (read : Field A) (next : A × List ℕ → Field B) → Within most read → ((x : A) (rest : List ℕ) → length rest ≤ most → Within most (next (x, rest))) → Within most (read >>= next)
within-next most (Ok found) next few then-few = then-few found.0 found.1 (few.left found.0 found.1 refl)
within-next most (Err fault) next few then-few = record { left = λ x rest e. absurd (cc) }

within-end : {A : Type 0} (most : ℕ) (x : A) (rest : List ℕ) → length rest ≤ most → (let read : Field A = Ok (x, rest) in Within most read)
within-end most x rest few = record { left = λ y other e. omega (arith, ap length (same-rest x y rest other e)) }

fields-within : (most : ℕ) (bytes : List ℕ) → length bytes ≤ suc most → Within most (fields_at bytes)
unfolding fields_at
fields-within most bytes few =
    within-next most (fixed_at w8 bytes) _ (record { left = λ x rest e. omega (arith, flags-left bytes rest x e) }) (λ flags r0 l0.
    within-next most (if_set (has_flag METADATA flags) (var_at w32) r0) _ (within-field most _ r0 (Shortens-if_set (has_flag METADATA flags) (var_at w32) (Shortens-var w32)) l0) (λ metadata r1 l1.
    within-next most (if_set (has_flag SEQUENCE flags) sequence_at r1) _ (within-field most _ r1 (Shortens-if_set (has_flag SEQUENCE flags) sequence_at Shortens-sequence) l1) (λ sequence r2 l2.
    within-next most (if_set (has_flag THREAD flags) (var_at w64) r2) _ (within-field most _ r2 (Shortens-if_set (has_flag THREAD flags) (var_at w64) (Shortens-var w64)) l2) (λ thread r3 l3.
    within-next most (if_set (has_flag STACK flags) (var_at w32) r3) _ (within-field most _ r3 (Shortens-if_set (has_flag STACK flags) (var_at w32) (Shortens-var w32)) l3) (λ stack r4 l4.
    within-next most (var_at w64 r4) _ (within-field most _ r4 (Shortens-var w64) l4) (λ stamp r5 l5.
    within-next most (if_set (has_flag ACTIVITY flags) (bytes_at ID_BYTES) r5) _ (within-field most _ r5 (Shortens-if_set (has_flag ACTIVITY flags) (bytes_at ID_BYTES) (Shortens-bytes ID_BYTES)) l5) (λ activity r6 l6.
    within-next most (if_set (has_flag RELATED flags) (bytes_at ID_BYTES) r6) _ (within-field most _ r6 (Shortens-if_set (has_flag RELATED flags) (bytes_at ID_BYTES) (Shortens-bytes ID_BYTES)) l6) (λ related r7 l7.
    within-next most (if_set (has_flag SIZE flags) (var_at w32) r7) _ (within-field most _ r7 (Shortens-if_set (has_flag SIZE flags) (var_at w32) (Shortens-var w32)) l7) (λ size r8 l8.
    within-end most _ r8 l8)))))))))

fields-none : fields_at [] ≡ Err Short
unfolding fields_at
fields-none = refl

fields-some : (bytes rest : List ℕ) (fields : HeadFields) → fields_at bytes ≡ Ok (fields, rest) → length rest < length bytes
fields-some [] rest fields e = absurd (cc (fields-none))
fields-some (b ∷ bytes) rest fields e = omega (arith, (fields-within (length bytes) (b ∷ bytes) (omega arith)).left fields rest e)

-- What is left behind a header is shorter than what was there.
pub head-left : (before now : HeadState) (bytes rest : List ℕ) → head_at before bytes ≡ Ok (now, rest) → length rest < length bytes
head-left before now bytes rest e =
    let fields = bind_inv (fields_at bytes) _ _ e in
    let some = fields-some bytes fields.0.1 fields.0.0 fields.1 in
    omega (arith, ap length (same-rest _ now fields.0.1 rest fields.2))

-- So it has bytes.
pub head-some : (before now : HeadState) (bytes : List ℕ) (used : ℕ) → head_at before bytes ≡ Ok (now, drop used bytes) → 0 < used
head-some before now bytes used e = omega (arith, head-left before now bytes (drop used bytes) e, length-drop used bytes)
