-- A header is read back as itself, and what is read begins with a header that says it.
use Rattle.std.proofs.Common.{◌≡◌, ℕ, suc, ◌+◌, ◌*◌, ◌/◌, ◌%◌, ◌<◌, ◌≤◌, Bool, true, false, eqb, is_some, List, [], ◌∷◌, ◌++◌, length, take, drop, Option, Some, None, Ok, Err, refl, ap, ◌∙◌, sym, subst, inl, inr, arith, append_assoc}
use Rattle.std.specs.Int.{w8, w32, w64}
use Rattle.std.proofs.lemmas.Bool.{cases_lt, le-ltb, lt-ltb, cond-true, cond-false}
use Rattle.std.proofs.lemmas.List.{length-append, length-drop, length-take-le, take_at, drop_at, take-append-drop}
use Rattle.pt_num.specs.Begins.{AreBytes, Begins}
use Rattle.pt_num.specs.Numbers.{IsVar}
use Rattle.pt_num.specs.Pieces.{InTurn, Exactly, IfThere}
use Rattle.pt_num.specs.Steps.{◌>>=◌}
use Rattle.pt_num.specs.Fields.{Field, Short, bytes_at, fixed_at, var_at}
use Rattle.pt_num.proofs.Forms.{begins_32, begins_64, read_32, read_64}
use Rattle.pt_num.proofs.Fronts.{same_field, same_pieces}
use Rattle.pt_num.proofs.Steps.{bind_inv}
use Rattle.nt_head.specs.declared.flags.TheConstants.{ACTIVITY, METADATA, RELATED, SEQUENCE, SIZE, SORTED, STACK, THREAD}
use Rattle.nt_head.specs.declared.head.HeadState.{HeadState}
use Rattle.nt_head.specs.declared.limits.TheConstants.{ID_BYTES}
use Rattle.nt_head.specs.Head.{HeadFields, Sequence, flag, flag_byte, IsSequence, IsGuid, AreHeadBytes, state_after, IsHead}
use Rattle.nt_head.specs.Reading.{has_flag, if_set, sequence_at, fields_at, head_at}
use Rattle.nt_head.proofs.Steps.{fields_made, flags_read, head_read}

-- ---- pieces that are read back

-- Each form is read as itself, whatever follows.
abbrev IsReadBack : {A : Type 0} → (List ℕ → Field A) → (A → List ℕ → Type 0) → Type 0
IsReadBack {A} field Form = (x : A) (bytes rest : List ℕ) → Form x bytes → field (bytes ++ rest) ≡ Ok (x, rest)

-- One piece and what follows it.
grouped : (bytes first later rest : List ℕ) → bytes ≡ first ++ later → bytes ++ rest ≡ first ++ (later ++ rest)
grouped bytes first later rest e = ap (λ (bs : List ℕ). bs ++ rest) e ∙ append_assoc first later rest

-- A piece at the front is read.
front_read : {A : Type 0} (field : List ℕ → Field A) (Form : A → List ℕ → Type 0) (x : A) (bytes first later rest : List ℕ) → IsReadBack field Form → Form x first → bytes ≡ first ++ later → field (bytes ++ rest) ≡ Ok (x, later ++ rest)
front_read field Form x bytes first later rest back form e = ap field (grouped bytes first later rest e) ∙ back x first (later ++ rest) form

-- A piece that may be there is read where its flag says so.
said_read : {A : Type 0} (field : List ℕ → Field A) (Form : A → List ℕ → Type 0) (set : Bool) (said : Option A) (bytes first later rest : List ℕ) → IsReadBack field Form → set ≡ is_some said → IfThere Form said first → bytes ≡ first ++ later → if_set set field (bytes ++ rest) ≡ Ok (said, later ++ rest)
said_read field Form set None bytes first later rest back flagged none e =
    rw flagged (ap (λ (bs : List ℕ). Ok (None, bs)) (grouped bytes first later rest e ∙ ap (λ (bs : List ℕ). bs ++ (later ++ rest)) none))
said_read field Form set (Some x) bytes first later rest back flagged form e =
    rw flagged (ap (λ (f : Field _). f >>= λ x. Ok (Some x.0, x.1)) (front_read field Form x bytes first later rest back form e))

-- The three fields of the one flag are read.
sequence_back : IsReadBack sequence_at IsSequence
sequence_back s bytes rest (first, r1, increment, (second, r2, capture, (third, r3, processor, none, e2), e1), e0) =
    let a = front_read (var_at w32) (IsVar w32) s.increment bytes first r1 rest read_32 increment e0 in
    let b = front_read (var_at w64) (IsVar w64) s.capture r1 second r2 rest read_64 capture e1 in
    let c = front_read (var_at w32) (IsVar w32) s.processor r2 third r3 rest read_32 processor e2 in
    let end : r3 ++ rest ≡ rest = ap (λ (bs : List ℕ). bs ++ rest) none in
    rw (a, b, c) (ap (λ (bs : List ℕ). Ok (s, bs)) end)

-- An id is read.
guid_back : IsReadBack (bytes_at ID_BYTES) IsGuid
guid_back id bytes rest (same, long) =
    let is : length bytes ≡ 16 = ap (λ (bs : List ℕ). length bs) same ∙ long in
    cond-false _ _ _ (le-ltb (length (bytes ++ rest)) 16 (omega (arith, length-append bytes rest, is)))
    ∙ rw (take_at bytes rest 16 is, drop_at bytes rest 16 is, same) refl

-- ---- flags

-- The bit of a flag.
bit : Bool → ℕ
bit true = 1
bit false = 0

-- A flag's worth is that of its bit.
flag_bit : (worth : ℕ) (set : Bool) → flag worth set ≡ worth * bit set
unfolding bit
flag_bit worth true = omega arith
flag_bit worth false = omega arith

-- A bit is 0 or 1.
bit_small : (set : Bool) → bit set ≤ 1
unfolding bit
bit_small true = omega arith
bit_small false = omega arith

-- The bit at a place tells its flag.
has_bit : (worth n : ℕ) (set : Bool) → n / worth % 2 ≡ bit set → has_flag worth n ≡ set
unfolding bit
has_bit worth n true e = rw e refl
has_bit worth n false e = rw e refl

-- The low bit of a number, and the others.
halved : (n low high : ℕ) → low ≤ 1 → n ≡ low + 2 * high → (n % 2 ≡ low) × (n / 2 ≡ high)
halved n low high small e = (omega (arith, e), omega (arith, e))

-- What each flag of the flag byte says.
record Says (fields : HeadFields) (n : ℕ) : Type 0 where
  pub metadata_said : has_flag METADATA n ≡ is_some fields.metadata
  pub sequence_said : has_flag SEQUENCE n ≡ is_some fields.sequence
  pub thread_said : has_flag THREAD n ≡ is_some fields.thread
  pub stack_said : has_flag STACK n ≡ is_some fields.stack
  pub activity_said : has_flag ACTIVITY n ≡ is_some fields.activity
  pub related_said : has_flag RELATED n ≡ is_some fields.related
  pub sorted_said : has_flag SORTED n ≡ fields.sorted
  pub size_said : has_flag SIZE n ≡ is_some fields.size

-- The flags of bits are their own.
bits_back : (n a b c d e f g h : ℕ) → a ≤ 1 → b ≤ 1 → c ≤ 1 → d ≤ 1 → e ≤ 1 → f ≤ 1 → g ≤ 1 → h ≤ 1 → n ≡ a + 2 * b + 4 * c + 8 * d + 16 * e + 32 * f + 64 * g + 128 * h → (n / 1 % 2 ≡ a) × (n / 2 % 2 ≡ b) × (n / 4 % 2 ≡ c) × (n / 8 % 2 ≡ d) × (n / 16 % 2 ≡ e) × (n / 32 % 2 ≡ f) × (n / 64 % 2 ≡ g) × (n / 128 % 2 ≡ h)
bits_back n a b c d e f g h la lb lc ld le lf lg lh sum =
    let m1 = b + 2 * (c + 2 * (d + 2 * (e + 2 * (f + 2 * (g + 2 * h))))) in
    let m2 = c + 2 * (d + 2 * (e + 2 * (f + 2 * (g + 2 * h)))) in
    let m3 = d + 2 * (e + 2 * (f + 2 * (g + 2 * h))) in
    let m4 = e + 2 * (f + 2 * (g + 2 * h)) in
    let m5 = f + 2 * (g + 2 * h) in
    let m6 = g + 2 * h in
    let s0 = halved n a m1 la (omega (arith, sum)) in
    let s1 = halved (n / 2) b m2 lb (s0.1) in
    let q2 : n / 4 ≡ m2 = omega (arith, s1.1) in
    let s2 = halved (n / 4) c m3 lc q2 in
    let q3 : n / 8 ≡ m3 = omega (arith, s2.1) in
    let s3 = halved (n / 8) d m4 ld q3 in
    let q4 : n / 16 ≡ m4 = omega (arith, s3.1) in
    let s4 = halved (n / 16) e m5 le q4 in
    let q5 : n / 32 ≡ m5 = omega (arith, s4.1) in
    let s5 = halved (n / 32) f m6 lf q5 in
    let q6 : n / 64 ≡ m6 = omega (arith, s5.1) in
    let s6 = halved (n / 64) g h lg q6 in
    let q7 : n / 128 ≡ h = omega (arith, s6.1) in (
      omega (arith, s0.0),
      s1.0,
      s2.0,
      s3.0,
      s4.0,
      s5.0,
      s6.0,
      omega (arith, q7, lh),
    )

-- The flag byte says which fields are there.
flags_say : (fields : HeadFields) → Says fields (flag_byte fields)
flags_say fields =
    let a = is_some fields.metadata in
    let b = is_some fields.sequence in
    let c = is_some fields.thread in
    let d = is_some fields.stack in
    let e = is_some fields.activity in
    let f = is_some fields.related in
    let g = fields.sorted in
    let h = is_some fields.size in
    let n = flag_byte fields in
    let sum : n ≡ bit a + 2 * bit b + 4 * bit c + 8 * bit d + 16 * bit e + 32 * bit f + 64 * bit g + 128 * bit h =
    omega (arith, flag_bit 1 a, flag_bit 2 b, flag_bit 4 c, flag_bit 8 d, flag_bit 16 e, flag_bit 32 f, flag_bit 64 g, flag_bit 128 h) in
    let bits = bits_back n (bit a) (bit b) (bit c) (bit d) (bit e) (bit f) (bit g) (bit h) (bit_small a) (bit_small b) (bit_small c) (bit_small d) (bit_small e) (bit_small f) (bit_small g) (bit_small h) sum in
    record {
      metadata_said = has_bit 1 n a bits.0;
      sequence_said = has_bit 2 n b bits.1;
      thread_said = has_bit 4 n c bits.2;
      stack_said = has_bit 8 n d bits.3;
      activity_said = has_bit 16 n e bits.4;
      related_said = has_bit 32 n f bits.5;
      sorted_said = has_bit 64 n g bits.6;
      size_said = has_bit 128 n h bits.7;
    }

-- ---- a header is read back

-- The fields of a header are read, whatever follows.
fields_back : (fields : HeadFields) (bytes rest : List ℕ) → AreHeadBytes fields bytes → fields_at (bytes ++ rest) ≡ Ok (fields, rest)
fields_back fields bytes rest (p0, r0, flags, (p1, r1, metadata, (p2, r2, sequence, (p3, r3, thread, (p4, r4, stack, (p5, r5, stamp, (p6, r6, activity, (p7, r7, related, (p8, r8, size, none, e8), e7), e6), e5), e4), e3), e2), e1), e0) =
    let n = flag_byte fields in
    let says = flags_say fields in
    let begun : bytes ++ rest ≡ n ∷ (r0 ++ rest) = grouped bytes p0 r0 rest e0 ∙ ap (λ (bs : List ℕ). bs ++ (r0 ++ rest)) flags in
    let byte : fixed_at w8 (bytes ++ rest) ≡ Ok (n, r0 ++ rest) = ap (fixed_at w8) begun ∙ (flags_read (n ∷ (r0 ++ rest)) (omega arith)).read in
    let f1 = said_read (var_at w32) (IsVar w32) _ fields.metadata r0 p1 r1 rest read_32 says.metadata_said metadata e1 in
    let f2 = said_read sequence_at IsSequence _ fields.sequence r1 p2 r2 rest sequence_back says.sequence_said sequence e2 in
    let f3 = said_read (var_at w64) (IsVar w64) _ fields.thread r2 p3 r3 rest read_64 says.thread_said thread e3 in
    let f4 = said_read (var_at w32) (IsVar w32) _ fields.stack r3 p4 r4 rest read_32 says.stack_said stack e4 in
    let f5 = front_read (var_at w64) (IsVar w64) fields.stamp_increment r4 p5 r5 rest read_64 stamp e5 in
    let f6 = said_read (bytes_at ID_BYTES) IsGuid _ fields.activity r5 p6 r6 rest guid_back says.activity_said activity e6 in
    let f7 = said_read (bytes_at ID_BYTES) IsGuid _ fields.related r6 p7 r7 rest guid_back says.related_said related e7 in
    let f8 = said_read (var_at w32) (IsVar w32) _ fields.size r7 p8 r8 rest read_32 says.size_said size e8 in
    let end : r8 ++ rest ≡ rest = ap (λ (bs : List ℕ). bs ++ rest) none in
    fields_made (bytes ++ rest) _ _ _ _ _ _ _ _ _ n fields.metadata fields.sequence fields.thread fields.stack fields.stamp_increment fields.activity fields.related fields.size byte f1 f2 f3 f4 f5 f6 f7 f8
    ∙ rw (says.sorted_said, end) refl

-- A header is read back as itself, whatever follows.
pub head_back : (before now : HeadState) (bytes rest : List ℕ) → IsHead before now bytes → head_at before (bytes ++ rest) ≡ Ok (now, rest)
head_back before now bytes rest (fields, form, says) = head_read before now fields (bytes ++ rest) rest (fields_back fields bytes rest form) (sym says)

-- No header begins another.
pub same_heads : (before now other : HeadState) (xs ys more rest : List ℕ) → IsHead before now xs → IsHead before other ys → xs ++ more ≡ ys ++ rest → (now ≡ other) × (xs ≡ ys)
same_heads before now other xs ys more rest first second e =
    same_pieces now other xs ys more rest (head_at before) (head_back before now xs more first) (head_back before other ys rest second) e

-- ---- what is read begins with a header

-- What is read begins with a form of its value.
abbrev IsForm : {A : Type 0} → (List ℕ → Field A) → (A → List ℕ → Type 0) → Type 0
IsForm {A} field Form = (x : A) (bytes rest : List ℕ) → AreBytes bytes → field bytes ≡ Ok (x, rest) → Begins (Form x) bytes rest

-- Two fields are the same.
abbrev IsSame : {A : Type 0} → Field A → Field A → Type 0
IsSame left right = left ≡ right

-- What is read twice is the same.
same_ok : {A : Type 0} (x y : A) (xs ys : List ℕ) → IsSame (Ok (x, xs)) (Ok (y, ys)) → (x ≡ y) × (xs ≡ ys)
same_ok x y xs ys e = same_field x y xs ys (Ok (x, xs)) (Ok (y, ys)) refl refl e

-- What follows some bytes are bytes.
later_low : (front rest : List ℕ) → AreBytes (front ++ rest) → AreBytes rest
later_low [] rest low = low
later_low (b ∷ front) rest low = later_low front rest (λ i. low (suc i))

-- What follows a piece are bytes.
rest_low : (Piece : List ℕ → Type 0) (bytes rest : List ℕ) → AreBytes bytes → Begins Piece bytes rest → AreBytes rest
rest_low Piece bytes rest low (front, piece, e) = later_low front rest (subst (λ (bs : List ℕ). AreBytes bs) e low)

-- A piece before others.
turn : (Piece : List ℕ → Type 0) (Pieces : List (List ℕ → Type 0)) (bytes later rest : List ℕ) → Begins Piece bytes later → Begins (InTurn Pieces) later rest → Begins (InTurn (Piece ∷ Pieces)) bytes rest
turn Piece Pieces bytes later rest (first, piece, e) (others, pieces, d) =
    (first ++ others, (first, others, piece, pieces, refl), e ∙ ap (λ (bs : List ℕ). first ++ bs) d ∙ sym (append_assoc first others rest))

-- No piece more.
turn_end : (bytes : List ℕ) → Begins (InTurn []) bytes bytes
turn_end bytes = ([], refl, refl)

-- A piece that may be there.
said_begins : {A : Type 0} (field : List ℕ → Field A) (Form : A → List ℕ → Type 0) (set : Bool) (said : Option A) (bytes rest : List ℕ) → IsForm field Form → AreBytes bytes → if_set set field bytes ≡ Ok (said, rest) → Begins (IfThere Form said) bytes rest × (is_some said ≡ set)
said_begins {A} field Form true said bytes rest forms low e =
    let read = bind_inv (field bytes) (λ x. Ok (Some x.0, x.1)) (said, rest) e in
    let same = same_ok (Some read.0.0) said read.0.1 rest read.2 in
    let begun : Begins (IfThere Form (Some read.0.0)) bytes read.0.1 = forms read.0.0 bytes read.0.1 low read.1 in (
      subst (λ (bs : List ℕ). Begins (IfThere Form said) bytes bs) same.1 (subst (λ (s : Option A). Begins (IfThere Form s) bytes read.0.1) same.0 begun),
      ap (λ (s : Option A). is_some s) (sym same.0),
    )
said_begins {A} field Form false said bytes rest forms low e =
    let none : Option A = None in
    let same = same_ok none said bytes rest e in
    let begun : Begins (IfThere Form none) bytes bytes = ([], refl, refl) in (
      subst (λ (bs : List ℕ). Begins (IfThere Form said) bytes bs) same.1 (subst (λ (s : Option A). Begins (IfThere Form s) bytes bytes) same.0 begun),
      ap (λ (s : Option A). is_some s) (sym same.0),
    )

-- A varuint of 32 bits.
var32_forms : IsForm (var_at w32) (IsVar w32)
var32_forms n bytes rest low e = begins_32 bytes rest n low e

-- A varuint of 64 bits.
var64_forms : IsForm (var_at w64) (IsVar w64)
var64_forms n bytes rest low e = begins_64 bytes rest n low e

-- The three fields of the one flag, one after another.
sequence_pieces : (bytes r1 r2 rest : List ℕ) (i c p : ℕ) → AreBytes bytes → var_at w32 bytes ≡ Ok (i, r1) → var_at w64 r1 ≡ Ok (c, r2) → var_at w32 r2 ≡ Ok (p, rest) → Begins (IsSequence (record { increment = i; capture = c; processor = p })) bytes rest
sequence_pieces bytes r1 r2 rest i c p low e0 e1 e2 =
    let first = begins_32 bytes r1 i low e0 in
    let low1 = rest_low (IsVar w32 i) bytes r1 low first in
    let second = begins_64 r1 r2 c low1 e1 in
    let low2 = rest_low (IsVar w64 c) r1 r2 low1 second in
    let third = begins_32 r2 rest p low2 e2 in
    turn (IsVar w32 i) (IsVar w64 c ∷ IsVar w32 p ∷ []) bytes r1 rest first
    (turn (IsVar w64 c) (IsVar w32 p ∷ []) r1 r2 rest second
    (turn (IsVar w32 p) [] r2 rest rest third (turn_end rest)))

-- The three fields of the one flag.
sequence_forms : IsForm sequence_at IsSequence
sequence_forms s bytes rest low e =
    let a = bind_inv (var_at w32 bytes) _ (s, rest) e in
    let b = bind_inv (var_at w64 a.0.1) _ (s, rest) a.2 in
    let c = bind_inv (var_at w32 b.0.1) _ (s, rest) b.2 in
    let made : Sequence = record { increment = a.0.0; capture = b.0.0; processor = c.0.0 } in
    let same = same_ok made s c.0.1 rest c.2 in
    let whole = sequence_pieces bytes a.0.1 b.0.1 c.0.1 a.0.0 b.0.0 c.0.0 low a.1 b.1 c.1 in
    subst (λ (bs : List ℕ). Begins (IsSequence s) bytes bs) same.1 (subst (λ (q : Sequence). Begins (IsSequence q) bytes c.0.1) same.0 whole)

-- An id.
guid_forms : IsForm (bytes_at ID_BYTES) IsGuid
guid_forms id bytes rest low e =
    elim (cases_lt (length bytes) 16) [
      | inl few ↦
          let short : bytes_at ID_BYTES bytes ≡ Err Short = cond-true _ _ _ (lt-ltb (length bytes) 16 few) in
          absurd (cc)
      | inr enough ↦
          let there : bytes_at ID_BYTES bytes ≡ Ok (take 16 bytes, drop 16 bytes) = cond-false _ _ _ (le-ltb (length bytes) 16 enough) in
          let same = same_ok (take 16 bytes) id (drop 16 bytes) rest (sym there ∙ e) in (
            take 16 bytes,
            (same.0, ap (λ (bs : List ℕ). length bs) (sym same.0) ∙ length-take-le 16 bytes enough),
            sym (take-append-drop 16 bytes) ∙ ap (λ (bs : List ℕ). take 16 bytes ++ bs) same.1,
          )
    ]

-- The flag byte is the first one.
flags_begin : (bytes : List ℕ) (flags : ℕ) (rest : List ℕ) → AreBytes bytes → fixed_at w8 bytes ≡ Ok (flags, rest) → (bytes ≡ flags ∷ rest) × (flags < 256)
flags_begin [] flags rest low e =
    let short : fixed_at w8 [] ≡ Err Short = refl in
    absurd (cc)
flags_begin (b ∷ bytes) flags rest low e =
    let first = (flags_read (b ∷ bytes) (omega arith)).read in
    let same = same_ok b flags bytes rest (sym first ∙ e) in
    (λ i. same.0 i ∷ same.1 i, subst (λ (n : ℕ). n < 256) same.0 (low 0))

-- The worth of a bit that is set.
flag_half : (worth n : ℕ) → flag worth (eqb (n % 2) 1) ≡ worth * (n % 2)
flag_half worth n =
    elim (cases_lt (n % 2) 1) [
      | inl none ↦ let z : n % 2 ≡ 0 = omega (arith, none) in rw z (omega arith)
      | inr some ↦ let o : n % 2 ≡ 1 = omega (arith, some) in rw o (omega arith)
    ]

-- A byte is the sum of its bits.
byte_bits : (n : ℕ) → n < 256 → n / 1 % 2 + 2 * (n / 2 % 2) + 4 * (n / 4 % 2) + 8 * (n / 8 % 2) + 16 * (n / 16 % 2) + 32 * (n / 32 % 2) + 64 * (n / 64 % 2) + 128 * (n / 128 % 2) ≡ n
byte_bits n small =
    let e0 : n / 1 ≡ n / 1 % 2 + 2 * (n / 2) = omega arith in
    let e1 : n / 2 ≡ n / 2 % 2 + 2 * (n / 4) = omega arith in
    let e2 : n / 4 ≡ n / 4 % 2 + 2 * (n / 8) = omega arith in
    let e3 : n / 8 ≡ n / 8 % 2 + 2 * (n / 16) = omega arith in
    let e4 : n / 16 ≡ n / 16 % 2 + 2 * (n / 32) = omega arith in
    let e5 : n / 32 ≡ n / 32 % 2 + 2 * (n / 64) = omega arith in
    let e6 : n / 64 ≡ n / 64 % 2 + 2 * (n / 128) = omega arith in
    let e7 : n / 128 ≡ n / 128 % 2 = omega (arith, small) in
    let e8 : n / 1 ≡ n = omega arith in
    summed n (n / 1) (n / 2) (n / 4) (n / 8) (n / 16) (n / 32) (n / 64) (n / 128) (n / 1 % 2) (n / 2 % 2) (n / 4 % 2) (n / 8 % 2) (n / 16 % 2) (n / 32 % 2) (n / 64 % 2) (n / 128 % 2) e0 e1 e2 e3 e4 e5 e6 e7 e8
  where
    summed : (n q0 q1 q2 q3 q4 q5 q6 q7 b0 b1 b2 b3 b4 b5 b6 b7 : ℕ) → q0 ≡ b0 + 2 * q1 → q1 ≡ b1 + 2 * q2 → q2 ≡ b2 + 2 * q3 → q3 ≡ b3 + 2 * q4 → q4 ≡ b4 + 2 * q5 → q5 ≡ b5 + 2 * q6 → q6 ≡ b6 + 2 * q7 → q7 ≡ b7 → q0 ≡ n → b0 + 2 * b1 + 4 * b2 + 8 * b3 + 16 * b4 + 32 * b5 + 64 * b6 + 128 * b7 ≡ n
    summed n q0 q1 q2 q3 q4 q5 q6 q7 b0 b1 b2 b3 b4 b5 b6 b7 e0 e1 e2 e3 e4 e5 e6 e7 e8 = omega arith

-- The flags that a byte has make it.
flags_whole : (n : ℕ) → n < 256 → flag METADATA (has_flag METADATA n) + flag SEQUENCE (has_flag SEQUENCE n) + flag THREAD (has_flag THREAD n) + flag STACK (has_flag STACK n) + flag ACTIVITY (has_flag ACTIVITY n) + flag RELATED (has_flag RELATED n) + flag SORTED (has_flag SORTED n) + flag SIZE (has_flag SIZE n) ≡ n
flags_whole n small =
    rw (flag_half 1 (n / 1), flag_half 2 (n / 2), flag_half 4 (n / 4), flag_half 8 (n / 8), flag_half 16 (n / 16), flag_half 32 (n / 32), flag_half 64 (n / 64), flag_half 128 (n / 128))
    (let bits = byte_bits n small in omega (arith, bits))

-- The flag byte and the fields, one after another.
fields_pieces : (bytes b0 b1 b2 b3 b4 b5 b6 b7 rest : List ℕ) (n : ℕ) (m : Option ℕ) (q : Option Sequence) (t : Option ℕ) (k : Option ℕ) (i : ℕ) (y : Option (List ℕ)) (r : Option (List ℕ)) (z : Option ℕ) → AreBytes bytes → fixed_at w8 bytes ≡ Ok (n, b0) → if_set (has_flag METADATA n) (var_at w32) b0 ≡ Ok (m, b1) → if_set (has_flag SEQUENCE n) sequence_at b1 ≡ Ok (q, b2) → if_set (has_flag THREAD n) (var_at w64) b2 ≡ Ok (t, b3) → if_set (has_flag STACK n) (var_at w32) b3 ≡ Ok (k, b4) → var_at w64 b4 ≡ Ok (i, b5) → if_set (has_flag ACTIVITY n) (bytes_at ID_BYTES) b5 ≡ Ok (y, b6) → if_set (has_flag RELATED n) (bytes_at ID_BYTES) b6 ≡ Ok (r, b7) → if_set (has_flag SIZE n) (var_at w32) b7 ≡ Ok (z, rest) → Begins (AreHeadBytes (record { metadata = m; sequence = q; thread = t; stack = k; stamp_increment = i; activity = y; related = r; sorted = has_flag SORTED n; size = z })) bytes rest
fields_pieces bytes b0 b1 b2 b3 b4 b5 b6 b7 rest n m q t k i y r z low e0 e1 e2 e3 e4 e5 e6 e7 e8 =
    let made : HeadFields = record { metadata = m; sequence = q; thread = t; stack = k; stamp_increment = i; activity = y; related = r; sorted = has_flag SORTED n; size = z } in
    let byte = flags_begin bytes n b0 low e0 in
    let low0 = later_low (n ∷ []) b0 (subst (λ (bs : List ℕ). AreBytes bs) byte.0 low) in
    let p1 = said_begins (var_at w32) (IsVar w32) (has_flag METADATA n) m b0 b1 var32_forms low0 e1 in
    let low1 = rest_low (IfThere (IsVar w32) m) b0 b1 low0 p1.0 in
    let p2 = said_begins sequence_at IsSequence (has_flag SEQUENCE n) q b1 b2 sequence_forms low1 e2 in
    let low2 = rest_low (IfThere IsSequence q) b1 b2 low1 p2.0 in
    let p3 = said_begins (var_at w64) (IsVar w64) (has_flag THREAD n) t b2 b3 var64_forms low2 e3 in
    let low3 = rest_low (IfThere (IsVar w64) t) b2 b3 low2 p3.0 in
    let p4 = said_begins (var_at w32) (IsVar w32) (has_flag STACK n) k b3 b4 var32_forms low3 e4 in
    let low4 = rest_low (IfThere (IsVar w32) k) b3 b4 low3 p4.0 in
    let p5 = begins_64 b4 b5 i low4 e5 in
    let low5 = rest_low (IsVar w64 i) b4 b5 low4 p5 in
    let p6 = said_begins (bytes_at ID_BYTES) IsGuid (has_flag ACTIVITY n) y b5 b6 guid_forms low5 e6 in
    let low6 = rest_low (IfThere IsGuid y) b5 b6 low5 p6.0 in
    let p7 = said_begins (bytes_at ID_BYTES) IsGuid (has_flag RELATED n) r b6 b7 guid_forms low6 e7 in
    let low7 = rest_low (IfThere IsGuid r) b6 b7 low6 p7.0 in
    let p8 = said_begins (var_at w32) (IsVar w32) (has_flag SIZE n) z b7 rest var32_forms low7 e8 in
    let whole_byte : flag_byte made ≡ n = rw (p1.1, p2.1, p3.1, p4.1, p6.1, p7.1, p8.1) (flags_whole n byte.1) in
    let p0 : Begins (Exactly (flag_byte made ∷ [])) bytes b0 = (n ∷ [], ap (λ (b : ℕ). b ∷ []) (sym whole_byte), byte.0) in
    turned bytes b0 b1 b2 b3 b4 b5 b6 b7 rest
    (Exactly (flag_byte made ∷ [])) (IfThere (IsVar w32) m) (IfThere IsSequence q) (IfThere (IsVar w64) t) (IfThere (IsVar w32) k) (IsVar w64 i) (IfThere IsGuid y) (IfThere IsGuid r) (IfThere (IsVar w32) z)
    p0 p1.0 p2.0 p3.0 p4.0 p5 p6.0 p7.0 p8.0
  where
    turned : (a b c d e f g h j rest : List ℕ) (P0 P1 P2 P3 P4 P5 P6 P7 P8 : List ℕ → Type 0) → Begins P0 a b → Begins P1 b c → Begins P2 c d → Begins P3 d e → Begins P4 e f → Begins P5 f g → Begins P6 g h → Begins P7 h j → Begins P8 j rest → Begins (InTurn (P0 ∷ P1 ∷ P2 ∷ P3 ∷ P4 ∷ P5 ∷ P6 ∷ P7 ∷ P8 ∷ [])) a rest
    turned a b c d e f g h j rest P0 P1 P2 P3 P4 P5 P6 P7 P8 p0 p1 p2 p3 p4 p5 p6 p7 p8 =
        turn P0 (P1 ∷ P2 ∷ P3 ∷ P4 ∷ P5 ∷ P6 ∷ P7 ∷ P8 ∷ []) a b rest p0
        (turn P1 (P2 ∷ P3 ∷ P4 ∷ P5 ∷ P6 ∷ P7 ∷ P8 ∷ []) b c rest p1
        (turn P2 (P3 ∷ P4 ∷ P5 ∷ P6 ∷ P7 ∷ P8 ∷ []) c d rest p2
        (turn P3 (P4 ∷ P5 ∷ P6 ∷ P7 ∷ P8 ∷ []) d e rest p3
        (turn P4 (P5 ∷ P6 ∷ P7 ∷ P8 ∷ []) e f rest p4
        (turn P5 (P6 ∷ P7 ∷ P8 ∷ []) f g rest p5
        (turn P6 (P7 ∷ P8 ∷ []) g h rest p6
        (turn P7 (P8 ∷ []) h j rest p7
        (turn P8 [] j rest rest p8 (turn_end rest)))))))))

-- The fields after the flag byte, up to the stack.
abbrev later_fields : ℕ → Option ℕ → Option Sequence → Option ℕ → Option ℕ → List ℕ → Field HeadFields
later_fields n m q t k bytes = do
  stamp ← var_at w64 bytes
  activity ← if_set (has_flag ACTIVITY n) (bytes_at ID_BYTES) stamp.1
  related ← if_set (has_flag RELATED n) (bytes_at ID_BYTES) activity.1
  size ← if_set (has_flag SIZE n) (var_at w32) related.1
  Ok (record { metadata = m; sequence = q; thread = t; stack = k; stamp_increment = stamp.0; activity = activity.0; related = related.0; sorted = has_flag SORTED n; size = size.0 }, size.1)

-- The stamp and the fields after it.
later_begin : (bytes b0 b1 b2 b3 b4 rest : List ℕ) (n : ℕ) (m : Option ℕ) (q : Option Sequence) (t : Option ℕ) (k : Option ℕ) (fields : HeadFields) → AreBytes bytes → fixed_at w8 bytes ≡ Ok (n, b0) → if_set (has_flag METADATA n) (var_at w32) b0 ≡ Ok (m, b1) → if_set (has_flag SEQUENCE n) sequence_at b1 ≡ Ok (q, b2) → if_set (has_flag THREAD n) (var_at w64) b2 ≡ Ok (t, b3) → if_set (has_flag STACK n) (var_at w32) b3 ≡ Ok (k, b4) → later_fields n m q t k b4 ≡ Ok (fields, rest) → Begins (AreHeadBytes fields) bytes rest
later_begin bytes b0 b1 b2 b3 b4 rest n m q t k fields low e0 e1 e2 e3 e4 e =
    let s5 = bind_inv (var_at w64 b4) _ (fields, rest) e in
    let s6 = bind_inv (if_set (has_flag ACTIVITY n) (bytes_at ID_BYTES) s5.0.1) _ (fields, rest) s5.2 in
    let s7 = bind_inv (if_set (has_flag RELATED n) (bytes_at ID_BYTES) s6.0.1) _ (fields, rest) s6.2 in
    let s8 = bind_inv (if_set (has_flag SIZE n) (var_at w32) s7.0.1) _ (fields, rest) s7.2 in
    let made : HeadFields = record { metadata = m; sequence = q; thread = t; stack = k; stamp_increment = s5.0.0; activity = s6.0.0; related = s7.0.0; sorted = has_flag SORTED n; size = s8.0.0 } in
    let same = same_ok made fields s8.0.1 rest s8.2 in
    let whole = fields_pieces bytes b0 b1 b2 b3 b4 s5.0.1 s6.0.1 s7.0.1 s8.0.1 n m q t k s5.0.0 s6.0.0 s7.0.0 s8.0.0 low e0 e1 e2 e3 e4 s5.1 s6.1 s7.1 s8.1 in
    subst (λ (bs : List ℕ). Begins (AreHeadBytes fields) bytes bs) same.1 (subst (λ (f : HeadFields). Begins (AreHeadBytes f) bytes s8.0.1) same.0 whole)

-- The fields that are read begin the bytes.
fields_begin : (fields : HeadFields) (bytes rest : List ℕ) → AreBytes bytes → fields_at bytes ≡ Ok (fields, rest) → Begins (AreHeadBytes fields) bytes rest
unfolding fields_at
fields_begin fields bytes rest low e =
    let s0 = bind_inv (fixed_at w8 bytes) _ (fields, rest) e in
    let s1 = bind_inv (if_set (has_flag METADATA s0.0.0) (var_at w32) s0.0.1) _ (fields, rest) s0.2 in
    let s2 = bind_inv (if_set (has_flag SEQUENCE s0.0.0) sequence_at s1.0.1) _ (fields, rest) s1.2 in
    let s3 = bind_inv (if_set (has_flag THREAD s0.0.0) (var_at w64) s2.0.1) _ (fields, rest) s2.2 in
    let s4 = bind_inv (if_set (has_flag STACK s0.0.0) (var_at w32) s3.0.1) (λ stack. later_fields s0.0.0 s1.0.0 s2.0.0 s3.0.0 stack.0 stack.1) (fields, rest) s3.2 in
    later_begin bytes s0.0.1 s1.0.1 s2.0.1 s3.0.1 s4.0.1 rest s0.0.0 s1.0.0 s2.0.0 s3.0.0 s4.0.0 fields low s0.1 s1.1 s2.1 s3.1 s4.1 s4.2

-- What is read begins with a header that says it.
pub head_begins : (before now : HeadState) (bytes rest : List ℕ) → AreBytes bytes → head_at before bytes ≡ Ok (now, rest) → Begins (IsHead before now) bytes rest
head_begins before now bytes rest low e =
    let read = bind_inv (fields_at bytes) _ (now, rest) e in
    let fields = read.0.0 in
    let same = same_ok (state_after before fields) now read.0.1 rest read.2 in
    let begun = fields_begin fields bytes read.0.1 low read.1 in
    (begun.0, (fields, begun.1, sym same.0), begun.2 ∙ ap (λ (bs : List ℕ). begun.0 ++ bs) same.1)

-- The bytes of what is read are a header that says it.
pub head_form : (before now : HeadState) (bytes : List ℕ) (used : ℕ) → AreBytes bytes → used ≤ length bytes → head_at before bytes ≡ Ok (now, drop used bytes) → IsHead before now (take used bytes)
head_form before now bytes used low within e =
    let begun = head_begins before now bytes (drop used bytes) low e in
    let front = begun.0 in
    let long : length front ≡ used = omega (arith, ap (λ (bs : List ℕ). length bs) begun.2, length-append front (drop used bytes), length-drop used bytes) in
    let is : take used bytes ≡ front = ap (λ (bs : List ℕ). take used bs) begun.2 ∙ take_at front (drop used bytes) used long in
    subst (λ (bs : List ℕ). IsHead before now bs) (sym is) begun.1
