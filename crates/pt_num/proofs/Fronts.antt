-- What is read begins with a form of its value, and no form begins another.
use Rattle.std.proofs.Common.{◌≡◌, ℕ, zero, suc, ◌+◌, ◌*◌, ◌^◌, ◌<◌, ◌≤◌, List, [], ◌++◌, length, take, drop, Ok, Err, refl, ap, ◌∙◌, sym, subst, arith, get_or, inl, inr}
use Rattle.std.specs.Int.{Width, w16, w32, w64, byte_len}
use Rattle.std.proofs.lemmas.Bool.{cases_lt, le-ltb, lt-ltb, cond-true, cond-false}
use Rattle.std.proofs.lemmas.List.{take-append-drop, append_cancel_right}
use Rattle.byteorder.specs.Endian.{little_number}
use Rattle.byteorder.specs.Numbers.{little_from-lt}
use Rattle.pt_num.specs.Begins.{Begins}
use Rattle.pt_num.specs.Pieces.{Exactly}
use Rattle.pt_num.specs.Numbers.{fixed}
use Rattle.pt_num.specs.Texts.{IsTextC, IsTextZ}
use Rattle.pt_num.specs.Steps.{◌>>=◌}
use Rattle.pt_num.specs.Fields.{Field, Short, fixed_at, counted_units_at, text_c_at, text_z_at}
use Rattle.pt_num.proofs.FixedForms.{fixed_16, fixed_32, fixed_64, read_fixed}
use Rattle.pt_num.proofs.TextForms.{text_c-short, text_c-none, text_c-over, text_c-zero, form_c-none, form_c-zero, read_z}

-- ---- no form begins another

-- Fields that are the same have the same value, and the same bytes after it.
pub same_field : {A : Type 0} (x y : A) (xs ys : List ℕ) (left right : Field A) → left ≡ Ok (x, xs) → right ≡ Ok (y, ys) → left ≡ right → (x ≡ y) × (xs ≡ ys)
same_field {A} x y xs ys left right first second e =
    let value : Field A → A = λ field. elim field [ Ok read ↦ read.0 | Err fault ↦ x ] in
    let after : Field A → List ℕ = λ field. elim field [ Ok read ↦ read.1 | Err fault ↦ [] ] in
    let same = sym first ∙ e ∙ second in
    (ap value same, ap after same)

-- Pieces that are read alike, whatever follows, are the same where the bytes are.
pub same_pieces : {A : Type 0} (x y : A) (xs ys more other : List ℕ) (field : List ℕ → Field A) → field (xs ++ more) ≡ Ok (x, more) → field (ys ++ other) ≡ Ok (y, other) → xs ++ more ≡ ys ++ other → (x ≡ y) × (xs ≡ ys)
same_pieces x y xs ys more other field first second e =
    let same = same_field x y more other (field (xs ++ more)) (field (ys ++ other)) first second (ap field e) in
    (same.0, append_cancel_right xs ys more (e ∙ ap (λ (bytes : List ℕ). ys ++ bytes) (sym same.1)))

-- Numbers of fixed width.
pub same_numbers : (w : Width) (n m : ℕ) (more other : List ℕ) → n < 256 ^ byte_len w → m < 256 ^ byte_len w → fixed w n ++ more ≡ fixed w m ++ other → (n ≡ m) × (more ≡ other)
same_numbers w n m more other first second e =
    same_field n m more other (fixed_at w (fixed w n ++ more)) (fixed_at w (fixed w m ++ other)) (read_fixed w n more first) (read_fixed w m other second) (ap (fixed_at w) e)

-- Texts that a zero unit ends.
pub same_texts : (units others xs ys more other : List ℕ) → IsTextZ units xs → IsTextZ others ys → xs ++ more ≡ ys ++ other → (units ≡ others) × (xs ≡ ys)
same_texts units others xs ys more other first second e =
    same_pieces units others xs ys more other text_z_at (rw first.spelled (read_z units more first.no_zero)) (rw second.spelled (read_z others other second.no_zero)) e

-- ---- what is read begins with a form

-- Too few bytes are no number.
fixed_few : (w : Width) (bytes : List ℕ) → length bytes < byte_len w → fixed_at w bytes ≡ Err Short
fixed_few w bytes few = cond-true _ _ _ (lt-ltb (length bytes) (byte_len w) few)

-- Enough bytes are a number.
pub fixed_enough : (w : Width) (bytes : List ℕ) → byte_len w ≤ length bytes → fixed_at w bytes ≡ Ok (little_number (byte_len w) bytes, drop (byte_len w) bytes)
fixed_enough w bytes enough = cond-false _ _ _ (le-ltb (length bytes) (byte_len w) enough)

-- What is read as a number is there.
pub number_within : (w : Width) (bytes rest : List ℕ) (value : ℕ) → fixed_at w bytes ≡ Ok (value, rest) → byte_len w ≤ length bytes
number_within w bytes rest value e = elim (cases_lt (length bytes) (byte_len w)) [
  | inl few ↦ absurd (cc (fixed_few w bytes few))
  | inr enough ↦ enough
]

-- A number that is read begins the bytes.
begins_fixed : (w : Width) (bytes rest : List ℕ) (n : ℕ) → (byte_len w ≤ length bytes → fixed w (little_number (byte_len w) bytes) ≡ take (byte_len w) bytes) → fixed_at w bytes ≡ Ok (n, rest) → Begins (Exactly (fixed w n)) bytes rest
begins_fixed w bytes rest n form e =
    elim (cases_lt (length bytes) (byte_len w)) [
      | inl few ↦ absurd (cc (fixed_few w bytes few))
      | inr enough ↦
          let same = same_field (little_number (byte_len w) bytes) n (drop (byte_len w) bytes) rest (fixed_at w bytes) (fixed_at w bytes) (fixed_enough w bytes enough) e refl in
          (take (byte_len w) bytes, sym (form enough) ∙ ap (fixed w) same.0, sym (take-append-drop (byte_len w) bytes) ∙ ap (λ (bs : List ℕ). take (byte_len w) bytes ++ bs) same.1)
    ]

-- A number of two bytes that is read begins the bytes.
pub begins_fixed-16 : (bytes rest : List ℕ) (n : ℕ) → ((i : ℕ) → get_or bytes i 0 < 256) → fixed_at w16 bytes ≡ Ok (n, rest) → Begins (Exactly (fixed w16 n)) bytes rest
begins_fixed-16 bytes rest n fits e = begins_fixed w16 bytes rest n (λ enough. fixed_16 bytes enough fits) e

-- A number of four bytes that is read begins the bytes.
pub begins_fixed-32 : (bytes rest : List ℕ) (n : ℕ) → ((i : ℕ) → get_or bytes i 0 < 256) → fixed_at w32 bytes ≡ Ok (n, rest) → Begins (Exactly (fixed w32 n)) bytes rest
begins_fixed-32 bytes rest n fits e = begins_fixed w32 bytes rest n (λ enough. fixed_32 bytes enough fits) e

-- A number of eight bytes that is read begins the bytes.
pub begins_fixed-64 : (bytes rest : List ℕ) (n : ℕ) → ((i : ℕ) → get_or bytes i 0 < 256) → fixed_at w64 bytes ≡ Ok (n, rest) → Begins (Exactly (fixed w64 n)) bytes rest
begins_fixed-64 bytes rest n fits e = begins_fixed w64 bytes rest n (λ enough. fixed_64 bytes enough fits) e

-- So many bytes are a counted text, and these follow.
begun_c : (used : ℕ) (units others bytes rest : List ℕ) → IsTextC units (take used bytes) → text_c_at bytes ≡ Ok (units, drop used bytes) → text_c_at bytes ≡ Ok (others, rest) → Begins (IsTextC others) bytes rest
begun_c used units others bytes rest form read e =
    let same = same_field units others (drop used bytes) rest (text_c_at bytes) (text_c_at bytes) read e refl in (
      take used bytes,
      subst (λ (us : List ℕ). IsTextC us (take used bytes)) same.0 form,
      sym (take-append-drop used bytes) ∙ ap (λ (bs : List ℕ). take used bytes ++ bs) same.1,
    )

-- A counted text whose units are all there begins the bytes where the last of them is zero.
begins_counted : (count : ℕ) (bytes units rest : List ℕ) → fixed_at w32 bytes ≡ Ok (count, drop 4 bytes) → fixed w32 count ≡ take 4 bytes → count < 2 ^ 32 → 0 < count → 4 + 2 * count ≤ length bytes → ((i : ℕ) → get_or bytes i 0 < 256) → text_c_at bytes ≡ Ok (units, rest) → Begins (IsTextC units) bytes rest
begins_counted count bytes units rest counts spelled few some enough fits e =
    elim (cases_lt 0 (get_or bytes (2 * count + 2) 0 + 256 * get_or bytes (2 * count + 3) 0)) [
      | inl over ↦ absurd (cc (text_c-over bytes count counts some enough over))
      | inr none ↦
          let low : get_or bytes (2 * count + 2) 0 ≡ 0 = omega (arith, none) in
          let high : get_or bytes (2 * count + 3) 0 ≡ 0 = omega (arith, none) in
          begun_c _ _ units bytes rest (form_c-zero bytes count spelled few some enough fits low high) (text_c-zero bytes count counts some enough low high) e
    ]

-- A counted text that is read begins the bytes.
pub begins_c : (bytes units rest : List ℕ) → ((i : ℕ) → get_or bytes i 0 < 256) → text_c_at bytes ≡ Ok (units, rest) → Begins (IsTextC units) bytes rest
begins_c bytes units rest fits e =
    elim (cases_lt (length bytes) 4) [
      | inl few ↦
          let short : text_c_at bytes ≡ Err Short = ap (λ (field : Field ℕ). field >>= λ count. counted_units_at count.0 count.1) (fixed_few w32 bytes few) in
          absurd (cc)
      | inr there ↦
          by_count (little_number 4 bytes) there (fixed_enough w32 bytes there) (fixed_32 bytes there fits) (omega (arith, little_from-lt 0 4 bytes fits))
    ]
  where
    by_count : (count : ℕ) → 4 ≤ length bytes → fixed_at w32 bytes ≡ Ok (count, drop 4 bytes) → fixed w32 count ≡ take 4 bytes → count < 2 ^ 32 → Begins (IsTextC units) bytes rest
    by_count zero there counts spelled few = begun_c 4 [] units bytes rest (form_c-none bytes spelled) (text_c-none bytes counts) e
    by_count (suc count) there counts spelled few =
        elim (cases_lt (length bytes) (4 + 2 * suc count)) [
          | inl cut ↦ absurd (cc (text_c-short bytes (suc count) counts there cut))
          | inr enough ↦ begins_counted (suc count) bytes units rest counts spelled few (omega arith) enough fits e
        ]
