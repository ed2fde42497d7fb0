-- Texts, read and put.
use Rattle.std.proofs.Common.{◌≡◌, ◌↔◌, ℕ, zero, suc, ◌+◌, ◌-◌, ◌*◌, ◌/◌, ◌%◌, ◌^◌, ◌<◌, ◌≤◌, true, List, [], ◌∷◌, ◌++◌, inl, inr, length, take, drop, Ok, Err, refl, ap, ◌∙◌, sym, subst, arith, get_or, append_assoc, append-nil}
use Rattle.std.specs.Prelude.{nat_eq, nat_le, IsTrue}
use Rattle.std.specs.Int.{w16, w32, is_in_range}
use Rattle.std.proofs.lemmas.Bool.{cases_lt, le-leb, leb-true, and_from, and_parts, le-ltb, lt-ltb, cond-true, cond-false, eq-eqb, ne_eqb}
use Rattle.std.proofs.lemmas.Bool.Decides.{nat_tests}
use Rattle.std.proofs.lemmas.List.{length-append, length-drop, length-take-le, take_at, drop_at, take-append-drop, drop-drop, drop_more, get_or-drop}
use Rattle.byteorder.specs.Endian.{little_number}
use Rattle.ep_defs.specs.Text.{units_in}
use Rattle.pt_num.specs.declared.text.TakenText.{TakenText}
use Rattle.pt_num.specs.declared.text.TakenText.TheVariants as text
use Rattle.pt_num.specs.Numbers.{fixed}
use Rattle.pt_num.specs.Texts.{units_bytes, text_z, are_units, are_wide, text_c, IsTextZ, IsTextC}
use Rattle.pt_num.specs.Steps.{◌>>=◌, check}
use Rattle.pt_num.specs.Fields.{Field, Fault, Short, NoZero, fixed_at, with_unit, text_z_at, units_at, counted_units_at, text_c_at}
use Rattle.pt_num.specs.Taking.{TakesText, IfUnits}
use Rattle.pt_num.proofs.FixedForms.{fixed_16, front_fits, read_fixed}
use Rattle.pt_num.specs.Begins.{Begins}

-- ---- one unit

-- A unit that is read.
unit_at : (low high : ℕ) (bytes : List ℕ) → fixed_at w16 (low ∷ high ∷ bytes) ≡ Ok (low + 256 * high, bytes)
unit_at low high bytes =
    let value : little_number 2 (low ∷ high ∷ bytes) ≡ low + 256 * high = omega arith in
    cond-false _ _ _ (le-ltb (length (low ∷ high ∷ bytes)) 2 (omega arith)) ∙ ap (λ (n : ℕ). Ok (n, bytes)) value

-- No unit is left.
unit_short : (bytes : List ℕ) → length bytes < 2 → fixed_at w16 bytes ≡ Err Short
unit_short bytes few = cond-true _ _ _ (lt-ltb (length bytes) 2 few)

-- The bytes of a unit.
unit_bytes : (low high : ℕ) → low < 256 → high < 256 → fixed w16 (low + 256 * high) ≡ low ∷ high ∷ []
unit_bytes low high l h =
    let value : little_number 2 (low ∷ high ∷ []) ≡ low + 256 * high = omega arith in
    rw value at (fixed_16 (low ∷ high ∷ []) (omega arith) fits)
  where
    fits : (i : ℕ) → get_or (low ∷ high ∷ []) i 0 < 256
    fits zero = l
    fits (suc zero) = h
    fits (suc (suc i)) = omega arith

-- ---- units one after another

-- Units before those of a field.
abbrev pub before_units : List ℕ → Field (List ℕ) → Field (List ℕ)
before_units [] field = field
before_units (unit ∷ units) field = with_unit unit (before_units units field)

-- Two pieces of units.
before_units-append : (first second : List ℕ) (field : Field (List ℕ)) → before_units (first ++ second) field ≡ before_units first (before_units second field)
before_units-append [] second field = refl
before_units-append (unit ∷ first) second field = ap (with_unit unit) (before_units-append first second field)

-- Units before those that are read.
before_units-ok : (units later rest : List ℕ) → before_units units (Ok (later, rest)) ≡ Ok (units ++ later, rest)
before_units-ok [] later rest = refl
before_units-ok (unit ∷ units) later rest = ap (with_unit unit) (before_units-ok units later rest)

-- A fault stays.
before_units-err : (units : List ℕ) (fault : Fault) → before_units units (Err fault) ≡ Err fault
before_units-err [] fault = refl
before_units-err (unit ∷ units) fault = ap (with_unit unit) (before_units-err units fault)

-- The units of two pieces, the first of which is whole.
units_in-append : (count : ℕ) (front rest : List ℕ) → length front ≡ 2 * count → units_in (front ++ rest) ≡ units_in front ++ units_in rest
units_in-append count [] rest long = refl
units_in-append count (low ∷ []) rest long = absurd (omega arith)
units_in-append count (low ∷ high ∷ front) rest long =
    ap (λ (units : List ℕ). (low + 256 * high) ∷ units) (units_in-append (count - 1) front rest (omega arith))

-- A unit that is not the last.
text_more : (low high : ℕ) (bytes : List ℕ) → 0 < low + 256 * high → text_z_at (low ∷ high ∷ bytes) ≡ with_unit (low + 256 * high) (text_z_at bytes)
unfolding text_z_at
text_more low high bytes some = grind (arith, nat_tests)

-- The last unit.
text_ends : (low high : ℕ) (bytes : List ℕ) → low ≡ 0 → high ≡ 0 → text_z_at (low ∷ high ∷ bytes) ≡ Ok ([], bytes)
unfolding text_z_at
text_ends low high bytes none nothing = grind (arith, nat_tests)

-- The bytes end before a unit does.
text_cut : (bytes : List ℕ) → length bytes < 2 → text_z_at bytes ≡ Err Short
unfolding text_z_at
text_cut [] few = refl
text_cut (b ∷ []) few = refl
text_cut (b ∷ c ∷ bytes) few = absurd (omega arith)

-- The unit at a place, and what follows it.
pub unit_first : (bytes : List ℕ) (count : ℕ) → 2 * count + 2 ≤ length bytes → drop (2 * count) bytes ≡ get_or bytes (2 * count) 0 ∷ get_or bytes (2 * count + 1) 0 ∷ drop (2 * (count + 1)) bytes
unit_first bytes count within =
    let same : 2 * count + 1 + 1 ≡ 2 * (count + 1) = omega arith in
    drop_more bytes (2 * count) 0 (omega arith)
    ∙ ap (λ (rest : List ℕ). get_or bytes (2 * count) 0 ∷ rest)
    (drop_more bytes (2 * count + 1) 0 (omega arith) ∙ ap (λ (n : ℕ). get_or bytes (2 * count + 1) 0 ∷ drop n bytes) same)

-- This many units are read, none of which is zero.
pub record Skims (bytes rest : List ℕ) (count : ℕ) : Type 0 where
  pub front : List ℕ
  pub whole : bytes ≡ front ++ rest
  pub long : length front ≡ 2 * count
  pub read : text_z_at bytes ≡ before_units (units_in front) (text_z_at rest)

-- One unit more.
pub skims_more : (bytes later : List ℕ) (count low high : ℕ) → 0 < low + 256 * high → Skims bytes (low ∷ high ∷ later) count → Skims bytes later (count + 1)
skims_more bytes later count low high some skims =
    record {
      front = skims.front ++ low ∷ high ∷ [];
      whole = skims.whole ∙ sym (append_assoc skims.front (low ∷ high ∷ []) later);
      long = omega (arith, skims.long, length-append skims.front (low ∷ high ∷ []));
      read =
          skims.read
          ∙ ap (before_units (units_in skims.front)) (text_more low high later some)
          ∙ sym (before_units-append (units_in skims.front) ((low + 256 * high) ∷ []) (text_z_at later))
          ∙ ap (λ (units : List ℕ). before_units units (text_z_at later)) (sym (units_in-append count skims.front (low ∷ high ∷ []) skims.long));
    }

-- The zero unit is reached.
pub skims_end : (bytes later : List ℕ) (count low high : ℕ) → low ≡ 0 → high ≡ 0 → Skims bytes (low ∷ high ∷ later) count → TakesText (text_z_at bytes) 0 bytes (text.Units count (2 * count + 2))
skims_end bytes later count low high none nothing skims =
    let front : take (2 * count) bytes ≡ skims.front = ap (λ (bs : List ℕ). take (2 * count) bs) skims.whole ∙ take_at skims.front (low ∷ high ∷ later) (2 * count) skims.long in
    let whole : bytes ≡ (skims.front ++ low ∷ high ∷ []) ++ later = skims.whole ∙ sym (append_assoc skims.front (low ∷ high ∷ []) later) in
    let long : length (skims.front ++ low ∷ high ∷ []) ≡ 2 * count + 2 = omega (arith, skims.long, length-append skims.front (low ∷ high ∷ [])) in
    let rest : drop (2 * count + 2) bytes ≡ later = ap (λ (bs : List ℕ). drop (2 * count + 2) bs) whole ∙ drop_at (skims.front ++ low ∷ high ∷ []) later (2 * count + 2) long in (
      omega (arith, ap length whole, length-append (skims.front ++ low ∷ high ∷ []) later, long),
      omega arith,
      skims.read
          ∙ ap (before_units (units_in skims.front)) (text_ends low high later none nothing)
          ∙ before_units-ok (units_in skims.front) [] later
          ∙ rw (append-nil (units_in skims.front), front, rest) refl,
    )

-- No zero unit is there.
pub skims_cut : (bytes rest : List ℕ) (count : ℕ) → length rest < 2 → Skims bytes rest count → text_z_at bytes ≡ Err Short
skims_cut bytes rest count few skims =
    skims.read ∙ ap (before_units (units_in skims.front)) (text_cut rest few) ∙ before_units-err (units_in skims.front) Short

-- ---- what is read is a form

-- The bytes begin with this text, and then come these.
record FrontZ (units bytes rest : List ℕ) : Type 0 where
  pub front : List ℕ
  pub whole : bytes ≡ front ++ rest
  pub form : IsTextZ units front

-- What a field has before its others.
with_unit_ok : (unit : ℕ) (units rest : List ℕ) (field : Field (List ℕ)) → with_unit unit field ≡ Ok (units, rest) → (later : List ℕ) × (field ≡ Ok (later, rest)) × (units ≡ unit ∷ later)
with_unit_ok unit units rest (Ok later) e =
    let first : Field (List ℕ) → List ℕ = λ field. elim field [ Ok pair ↦ pair.0 | Err fault ↦ [] ] in
    let second : Field (List ℕ) → List ℕ = λ field. elim field [ Ok pair ↦ pair.1 | Err fault ↦ [] ] in
    (later.0, ap (λ (bytes : List ℕ). Ok (later.0, bytes)) (ap second e), sym (ap first e))
with_unit_ok unit units rest (Err fault) e = absurd (cc)

-- A text that is read is one.
front_z : (bytes units rest : List ℕ) → ((i : ℕ) → get_or bytes i 0 < 256) → text_z_at bytes ≡ Ok (units, rest) → FrontZ units bytes rest
front_z [] units rest fits e = absurd (cc (text_cut [] (omega arith)))
front_z (b ∷ []) units rest fits e = absurd (cc (text_cut (b ∷ []) (omega arith)))
front_z (low ∷ high ∷ bytes) units rest fits e =
    elim (cases_lt 0 (low + 256 * high)) [
      | inr none ↦
          let ends = text_ends low high bytes (omega arith) (omega arith) in
          let first : Field (List ℕ) → List ℕ = λ field. elim field [ Ok pair ↦ pair.0 | Err fault ↦ [] ] in
          let second : Field (List ℕ) → List ℕ = λ field. elim field [ Ok pair ↦ pair.1 | Err fault ↦ [] ] in
          let no_units : [] ≡ units = ap first (sym ends ∙ e) in
          let after : bytes ≡ rest = ap second (sym ends ∙ e) in
          let zeros = unit_bytes 0 0 (omega arith) (omega arith) in
          let l : low ≡ 0 = omega arith in
          let h : high ≡ 0 = omega arith in
          subst (λ (us : List ℕ). FrontZ us (low ∷ high ∷ bytes) rest) no_units
          (record { front = low ∷ high ∷ []; whole = ap (λ (bs : List ℕ). low ∷ high ∷ bs) after; form = record { spelled = rw (l, h) (sym zeros); no_zero = refl } })
      | inl some ↦
          let later = with_unit_ok (low + 256 * high) units rest (text_z_at bytes) (sym (text_more low high bytes some) ∙ e) in
          let front = front_z bytes later.0 rest (λ i. fits (suc (suc i))) later.1 in
          let spelled = unit_bytes low high (fits 0) (fits 1) in
          subst (λ (us : List ℕ). FrontZ us (low ∷ high ∷ bytes) rest) (sym later.2)
          (record {
            front = low ∷ high ∷ front.front;
            whole = ap (λ (bs : List ℕ). low ∷ high ∷ bs) front.whole;
            form = record {
              spelled = ap (λ (bs : List ℕ). low ∷ high ∷ bs) front.form.spelled ∙ rw spelled refl;
              no_zero =
                  and_from (is_in_range 1 65535 (low + 256 * high)) (are_units later.0)
                  (and_from (nat_le 1 (low + 256 * high)) (nat_le (low + 256 * high) 65535) (le-leb 1 (low + 256 * high) some)
                  (le-leb (low + 256 * high) 65535 (omega (arith, fits 0, fits 1))))
                  front.form.no_zero;
            };
          })
    ]

-- A text that is taken is one.
pub form_z : (bytes : List ℕ) (answer : TakenText) → ((i : ℕ) → get_or bytes i 0 < 256) → TakesText (text_z_at bytes) 0 bytes answer → IfUnits answer (λ count used. IsTextZ (units_in (take (2 * count) bytes)) (take used bytes))
form_z bytes (text.Units count used) fits takes =
    let front = front_z bytes (units_in (take (2 * count) bytes)) (drop used bytes) fits takes.2 in
    let long : length front.front ≡ used = omega (arith, takes.0, ap length front.whole, length-append front.front (drop used bytes), length-drop used bytes) in
    let begun : take used bytes ≡ front.front = ap (λ (bs : List ℕ). take used bs) front.whole ∙ take_at front.front (drop used bytes) used long in
    rw begun front.form
form_z bytes text.Short fits takes = tt
form_z bytes text.NoZero fits takes = tt

-- ---- what is short

-- Where no unit is zero the text is cut.
all_cut : (bytes : List ℕ) → are_units (units_in bytes) ≡ true → text_z_at bytes ≡ Err Short
all_cut [] all = text_cut [] (omega arith)
all_cut (b ∷ []) all = text_cut (b ∷ []) (omega arith)
all_cut (low ∷ high ∷ bytes) all =
    let parts = and_parts (is_in_range 1 65535 (low + 256 * high)) (are_units (units_in bytes)) all in
    let some = leb-true 1 (low + 256 * high) (and_parts (nat_le 1 (low + 256 * high)) (nat_le (low + 256 * high) 65535) parts.0).0 in
    text_more low high bytes some ∙ ap (with_unit (low + 256 * high)) (all_cut bytes parts.1)

-- A fault before which stands a unit.
with_unit_err : (unit : ℕ) (fault : Fault) (field : Field (List ℕ)) → with_unit unit field ≡ Err fault → field ≡ Err fault
with_unit_err unit fault (Ok later) e = absurd (cc)
with_unit_err unit fault (Err other) e = cc

-- In a text that is cut no unit is zero.
cut_all : (bytes : List ℕ) → ((i : ℕ) → get_or bytes i 0 < 256) → text_z_at bytes ≡ Err Short → are_units (units_in bytes) ≡ true
cut_all [] fits e = refl
cut_all (b ∷ []) fits e = refl
cut_all (low ∷ high ∷ bytes) fits e =
    elim (cases_lt 0 (low + 256 * high)) [
      | inr none ↦ absurd (cc (text_ends low high bytes (omega arith) (omega arith)))
      | inl some ↦
          let later = with_unit_err (low + 256 * high) Short (text_z_at bytes) (sym (text_more low high bytes some) ∙ e) in
          and_from (is_in_range 1 65535 (low + 256 * high)) (are_units (units_in bytes))
          (and_from (nat_le 1 (low + 256 * high)) (nat_le (low + 256 * high) 65535) (le-leb 1 (low + 256 * high) some)
          (le-leb (low + 256 * high) 65535 (omega (arith, fits 0, fits 1))))
          (cut_all bytes (λ i. fits (suc (suc i))) later)
    ]

-- An answer is short exactly where no unit is zero.
pub short_z : (bytes : List ℕ) (answer : TakenText) → ((i : ℕ) → get_or bytes i 0 < 256) → TakesText (text_z_at bytes) 0 bytes answer → (answer ≡ text.Short) ↔ IsTrue (are_units (units_in bytes))
short_z bytes (text.Units count used) fits takes = (λ e. absurd (cc), λ all. absurd (cc (takes.2, all_cut bytes all)))
short_z bytes text.Short fits takes = (λ e. cut_all bytes fits takes, λ all. refl)
short_z bytes text.NoZero fits takes = (λ e. absurd (cc), λ all. absurd (cc (takes, all_cut bytes all)))

-- ---- counted texts

-- The first four bytes are there where a number is read from them.
pub four_there : (bytes : List ℕ) (count : ℕ) → fixed_at w32 bytes ≡ Ok (count, drop 4 bytes) → 4 ≤ length bytes
four_there bytes count counts =
    elim (cases_lt (length bytes) 4) [
      | inl few ↦
          let short : fixed_at w32 bytes ≡ Err Short = cond-true _ _ _ (lt-ltb (length bytes) 4 few) in
          absurd (cc)
      | inr enough ↦ enough
    ]

-- This many units are read, whatever follows.
units_read : (count : ℕ) (front rest : List ℕ) → length front ≡ 2 * count → units_at count (front ++ rest) ≡ Ok (units_in front, rest)
unfolding units_at
units_read zero [] rest long = refl
units_read zero (b ∷ front) rest long = absurd (omega arith)
units_read (suc count) [] rest long = absurd (omega arith)
units_read (suc count) (b ∷ []) rest long = absurd (omega arith)
units_read (suc count) (low ∷ high ∷ front) rest long =
    ap (λ (field : Field ℕ). field >>= λ unit. with_unit unit.0 (units_at count unit.1)) (unit_at low high (front ++ rest))
    ∙ ap (with_unit (low + 256 * high)) (units_read count front rest (omega (arith, long)))

-- Too few bytes for this many units.
units_short : (count : ℕ) (bytes : List ℕ) → length bytes < 2 * count → units_at count bytes ≡ Err Short
unfolding units_at
units_short zero bytes few = absurd (omega arith)
units_short (suc count) [] few = refl
units_short (suc count) (b ∷ []) few = ap (λ (field : Field ℕ). field >>= λ unit. with_unit unit.0 (units_at count unit.1)) (unit_short (b ∷ []) (omega arith))
units_short (suc count) (low ∷ high ∷ bytes) few =
    ap (λ (field : Field ℕ). field >>= λ unit. with_unit unit.0 (units_at count unit.1)) (unit_at low high bytes)
    ∙ ap (with_unit (low + 256 * high)) (units_short count bytes (omega (arith, few)))

-- The units and a last one, which is judged.
abbrev ended : Field (List ℕ) → Field (List ℕ)
ended field = field >>= λ units. fixed_at w16 units.1 >>= λ end. check (nat_eq end.0 0) NoZero >>= λ zero. Ok (units.0, end.1)

-- The last unit is judged.
abbrev pub judged : ℕ → List ℕ → List ℕ → Field (List ℕ)
judged unit units rest = check (nat_eq unit 0) NoZero >>= λ zero. Ok (units, rest)

-- Counted units are all there.
counted_read : (count low high : ℕ) (front rest : List ℕ) → length front ≡ 2 * count → counted_units_at (suc count) (front ++ low ∷ high ∷ rest) ≡ judged (low + 256 * high) (units_in front) rest
counted_read count low high front rest long =
    ap ended (units_read count front (low ∷ high ∷ rest) long)
    ∙ ap (λ (field : Field ℕ). field >>= λ end. check (nat_eq end.0 0) NoZero >>= λ zero. Ok (units_in front, end.1)) (unit_at low high rest)

-- Counted units are not all there.
counted_short : (count : ℕ) (bytes : List ℕ) → length bytes < 2 * count → counted_units_at count bytes ≡ Err Short
counted_short zero bytes few = absurd (omega arith)
counted_short (suc count) bytes few =
    elim (cases_lt (length bytes) (2 * count)) [
      | inl less ↦ ap ended (units_short count bytes less)
      | inr enough ↦
          let whole = take-append-drop (2 * count) bytes in
          let units = units_read count (take (2 * count) bytes) (drop (2 * count) bytes) (length-take-le (2 * count) bytes enough) in
          let all : units_at count bytes ≡ Ok (units_in (take (2 * count) bytes), drop (2 * count) bytes) = ap (units_at count) (sym whole) ∙ units in
          ap ended all
          ∙ ap (λ (field : Field ℕ). field >>= λ end. check (nat_eq end.0 0) NoZero >>= λ zero. Ok (units_in (take (2 * count) bytes), end.1))
          (unit_short (drop (2 * count) bytes) (omega (arith, length-drop (2 * count) bytes, few)))
    ]

-- The first four bytes count more units than there are.
pub text_c-short : (bytes : List ℕ) (count : ℕ) → fixed_at w32 bytes ≡ Ok (count, drop 4 bytes) → 4 ≤ length bytes → length bytes < 4 + 2 * count → text_c_at bytes ≡ Err Short
text_c-short bytes count counts enough few =
    ap (λ (field : Field ℕ). field >>= λ count. counted_units_at count.0 count.1) counts
    ∙ counted_short count (drop 4 bytes) (omega (arith, length-drop 4 bytes))

-- The first four bytes count no unit.
pub text_c-none : (bytes : List ℕ) → fixed_at w32 bytes ≡ Ok (0, drop 4 bytes) → text_c_at bytes ≡ Ok ([], drop 4 bytes)
text_c-none bytes counts = ap (λ (field : Field ℕ). field >>= λ count. counted_units_at count.0 count.1) counts

-- The counted units and the last of them.
pub text_c-all : (bytes : List ℕ) (count : ℕ) → fixed_at w32 bytes ≡ Ok (count, drop 4 bytes) → 0 < count → 4 + 2 * count ≤ length bytes → text_c_at bytes ≡ judged (get_or bytes (2 * count + 2) 0 + 256 * get_or bytes (2 * count + 3) 0) (units_in (take (2 * (count - 1)) (drop 4 bytes))) (drop (4 + 2 * count) bytes)
text_c-all bytes zero counts some enough = absurd (omega arith)
text_c-all bytes (suc count) counts some enough =
    let units = drop 4 bytes in
    let front = take (2 * count) units in
    let long : length units ≡ length bytes - 4 = length-drop 4 bytes in
    let last = unit_first units count (omega (arith, long)) in
    let whole : units ≡ front ++ get_or units (2 * count) 0 ∷ get_or units (2 * count + 1) 0 ∷ drop (2 * (count + 1)) units =
    sym (take-append-drop (2 * count) units) ∙ ap (λ (rest : List ℕ). front ++ rest) last in
    let low : get_or units (2 * count) 0 ≡ get_or bytes (2 * suc count + 2) 0 = get_or-drop 4 bytes (2 * count) 0 ∙ ap (λ (n : ℕ). get_or bytes n 0) (omega arith) in
    let high : get_or units (2 * count + 1) 0 ≡ get_or bytes (2 * suc count + 3) 0 = get_or-drop 4 bytes (2 * count + 1) 0 ∙ ap (λ (n : ℕ). get_or bytes n 0) (omega arith) in
    let rest : drop (2 * (count + 1)) units ≡ drop (4 + 2 * suc count) bytes = drop-drop (2 * (count + 1)) 4 bytes ∙ ap (λ (n : ℕ). drop n bytes) (omega arith) in
    let same : suc count - 1 ≡ count = omega arith in
    ap (λ (field : Field ℕ). field >>= λ count. counted_units_at count.0 count.1) counts
    ∙ ap (counted_units_at (suc count)) whole
    ∙ counted_read count (get_or units (2 * count) 0) (get_or units (2 * count + 1) 0) front (drop (2 * (count + 1)) units) (length-take-le (2 * count) units (omega (arith, long)))
    ∙ rw (same, low, high, rest) refl

-- The last unit is judged: it is not zero.
judged_over : (low high : ℕ) (units rest : List ℕ) → 0 < low + 256 * high → judged (low + 256 * high) units rest ≡ Err NoZero
judged_over low high units rest some = rw (ne_eqb (low + 256 * high) 0 (omega arith)) refl

-- The last unit is judged: it is zero.
judged_zero : (low high : ℕ) (units rest : List ℕ) → low ≡ 0 → high ≡ 0 → judged (low + 256 * high) units rest ≡ Ok (units, rest)
judged_zero low high units rest none nothing = rw (eq-eqb (low + 256 * high) 0 (omega arith)) refl

-- The last counted unit is not zero.
pub text_c-over : (bytes : List ℕ) (count : ℕ) → fixed_at w32 bytes ≡ Ok (count, drop 4 bytes) → 0 < count → 4 + 2 * count ≤ length bytes → 0 < get_or bytes (2 * count + 2) 0 + 256 * get_or bytes (2 * count + 3) 0 → text_c_at bytes ≡ Err NoZero
text_c-over bytes count counts some enough over =
    text_c-all bytes count counts some enough
    ∙ judged_over (get_or bytes (2 * count + 2) 0) (get_or bytes (2 * count + 3) 0) (units_in (take (2 * (count - 1)) (drop 4 bytes))) (drop (4 + 2 * count) bytes) over

-- The last counted unit is zero.
pub text_c-zero : (bytes : List ℕ) (count : ℕ) → fixed_at w32 bytes ≡ Ok (count, drop 4 bytes) → 0 < count → 4 + 2 * count ≤ length bytes → get_or bytes (2 * count + 2) 0 ≡ 0 → get_or bytes (2 * count + 3) 0 ≡ 0 → text_c_at bytes ≡ Ok (units_in (take (2 * (count - 1)) (drop 4 bytes)), drop (4 + 2 * count) bytes)
text_c-zero bytes count counts some enough none nothing =
    text_c-all bytes count counts some enough
    ∙ judged_zero (get_or bytes (2 * count + 2) 0) (get_or bytes (2 * count + 3) 0) (units_in (take (2 * (count - 1)) (drop 4 bytes))) (drop (4 + 2 * count) bytes) none nothing

-- The bytes of the units that stand in them.
bytes_of_units : (count : ℕ) (front : List ℕ) → length front ≡ 2 * count → ((i : ℕ) → get_or front i 0 < 256) → units_bytes (units_in front) ≡ front
bytes_of_units count [] long fits = refl
bytes_of_units count (b ∷ []) long fits = absurd (omega arith)
bytes_of_units count (low ∷ high ∷ front) long fits =
    rw (unit_bytes low high (fits 0) (fits 1))
    (ap (λ (bytes : List ℕ). low ∷ high ∷ bytes) (bytes_of_units (count - 1) front (omega arith) (λ i. fits (suc (suc i)))))

-- Each unit that stands in bytes is one of 16 bits.
wide_units : (bytes : List ℕ) → ((i : ℕ) → get_or bytes i 0 < 256) → are_wide (units_in bytes) ≡ true
wide_units [] fits = refl
wide_units (b ∷ []) fits = refl
wide_units (low ∷ high ∷ bytes) fits =
    and_from (is_in_range 0 65535 (low + 256 * high)) (are_wide (units_in bytes))
    (and_from (nat_le 0 (low + 256 * high)) (nat_le (low + 256 * high) 65535) (le-leb 0 (low + 256 * high) (omega arith))
    (le-leb (low + 256 * high) 65535 (omega (arith, fits 0, fits 1))))
    (wide_units bytes (λ i. fits (suc (suc i))))

-- Two bytes make a unit.
length_units : (count : ℕ) (front : List ℕ) → length front ≡ 2 * count → length (units_in front) ≡ count
length_units count [] long = omega arith
length_units count (b ∷ []) long = absurd (omega arith)
length_units count (low ∷ high ∷ front) long =
    let later = length_units (count - 1) front (omega arith) in
    omega (arith, later)

-- The bytes of a counted text whose last unit is zero.
pub form_c-zero : (bytes : List ℕ) (count : ℕ) → fixed w32 count ≡ take 4 bytes → count < 2 ^ 32 → 0 < count → 4 + 2 * count ≤ length bytes → ((i : ℕ) → get_or bytes i 0 < 256) → get_or bytes (2 * count + 2) 0 ≡ 0 → get_or bytes (2 * count + 3) 0 ≡ 0 → IsTextC (units_in (take (2 * (count - 1)) (drop 4 bytes))) (take (4 + 2 * count) bytes)
form_c-zero bytes zero counts few some enough fits none nothing = absurd (omega arith)
form_c-zero bytes (suc count) counts few some enough fits none nothing =
    let same : suc count - 1 ≡ count = omega arith in
    let units = drop 4 bytes in
    let long : length units ≡ length bytes - 4 = length-drop 4 bytes in
    let front = take (2 * count) units in
    let front_long = length-take-le (2 * count) units (omega (arith, long)) in
    let units_fit : (i : ℕ) → get_or units i 0 < 256 = λ i. rw (get_or-drop 4 bytes i 0) (fits (4 + i)) in
    let fit = front_fits (2 * count) units (omega (arith, long)) units_fit in
    let last = unit_first units count (omega (arith, long)) in
    let low : get_or units (2 * count) 0 ≡ 0 = get_or-drop 4 bytes (2 * count) 0 ∙ ap (λ (n : ℕ). get_or bytes n 0) (omega arith) ∙ none in
    let high : get_or units (2 * count + 1) 0 ≡ 0 = get_or-drop 4 bytes (2 * count + 1) 0 ∙ ap (λ (n : ℕ). get_or bytes n 0) (omega arith) ∙ nothing in
    let rest = drop (2 * (count + 1)) units in
    let zeros : fixed w16 0 ≡ 0 ∷ 0 ∷ [] = unit_bytes 0 0 (omega arith) (omega arith) in
    let number = length_units count front front_long in
    let spelled : text_c (units_in front) ≡ (take 4 bytes ++ front) ++ 0 ∷ 0 ∷ [] =
    rw (number, zeros, bytes_of_units count front front_long fit)
    (ap (λ (first : List ℕ). first ++ (front ++ 0 ∷ 0 ∷ [])) (ap (λ (n : ℕ). fixed w32 n) (let next : count + 1 ≡ suc count = omega arith in next) ∙ counts) ∙ sym (append_assoc (take 4 bytes) front (0 ∷ 0 ∷ []))) in
    let end : drop (2 * count) units ≡ 0 ∷ 0 ∷ rest = last ∙ rw (low, high) refl in
    let grouped : take 4 bytes ++ (front ++ 0 ∷ 0 ∷ rest) ≡ ((take 4 bytes ++ front) ++ 0 ∷ 0 ∷ []) ++ rest = simp append_assoc in
    let whole : bytes ≡ ((take 4 bytes ++ front) ++ 0 ∷ 0 ∷ []) ++ rest =
    sym (take-append-drop 4 bytes)
    ∙ ap (λ (bs : List ℕ). take 4 bytes ++ bs) (sym (take-append-drop (2 * count) units))
    ∙ ap (λ (bs : List ℕ). take 4 bytes ++ (front ++ bs)) end
    ∙ grouped in
    let used : length ((take 4 bytes ++ front) ++ 0 ∷ 0 ∷ []) ≡ 4 + 2 * suc count =
    omega (arith, length-append (take 4 bytes ++ front) (0 ∷ 0 ∷ []), length-append (take 4 bytes) front, length-take-le 4 bytes (omega arith), front_long) in
    let begun : take (4 + 2 * suc count) bytes ≡ (take 4 bytes ++ front) ++ 0 ∷ 0 ∷ [] =
    ap (λ (bs : List ℕ). take (4 + 2 * suc count) bs) whole ∙ take_at ((take 4 bytes ++ front) ++ 0 ∷ 0 ∷ []) rest (4 + 2 * suc count) used in
    rw (same, begun) (inr (sym spelled, omega (arith, number, few), wide_units front fit))

-- The bytes of a text that counts no unit.
pub form_c-none : (bytes : List ℕ) → fixed w32 0 ≡ take 4 bytes → IsTextC [] (take 4 bytes)
form_c-none bytes counts = inl (sym counts, refl)

-- A text that is put with its count.
pub text_c_is : (units : List ℕ) → length units ≤ 32000 → ((i : ℕ) → get_or units i 0 < 65536) → IsTextC units (text_c units)
text_c_is units few fits = inr (refl, omega (arith, few), wide units fits)
  where
    wide : (units : List ℕ) → ((i : ℕ) → get_or units i 0 < 65536) → are_wide units ≡ true
    wide [] fits = refl
    wide (unit ∷ units) fits =
        and_from (is_in_range 0 65535 unit) (are_wide units)
        (and_from (nat_le 0 unit) (nat_le unit 65535) (le-leb 0 unit (omega arith)) (le-leb unit 65535 (omega (arith, fits 0))))
        (wide units (λ i. fits (suc i)))

-- ---- laws

-- The two bytes of a unit, and the unit that they make.
pub unit_made : (unit : ℕ) → unit < 2 ^ 16 → unit % 256 + 256 * (unit / 256 % 256) ≡ unit
unit_made unit fits = omega arith

-- A text is read, whatever follows.
pub read_z : (units rest : List ℕ) → are_units units ≡ true → text_z_at (text_z units ++ rest) ≡ Ok (units, rest)
unfolding fixed
read_z [] rest all = text_ends 0 0 rest refl refl
read_z (unit ∷ units) rest all =
    let parts = and_parts (is_in_range 1 65535 unit) (are_units units) all in
    let range = and_parts (nat_le 1 unit) (nat_le unit 65535) parts.0 in
    let some = leb-true 1 unit range.0 in
    let made = unit_made unit (omega (arith, leb-true unit 65535 range.1)) in
    let tail = text_z units ++ rest in
    text_more (unit % 256) (unit / 256 % 256) tail (omega (arith, made, some))
    ∙ ap (with_unit (unit % 256 + 256 * (unit / 256 % 256))) (read_z units rest parts.1)
    ∙ ap (λ (n : ℕ). Ok (n ∷ units, rest)) made

-- A text that is read begins the bytes.
pub begins_z : (bytes units rest : List ℕ) → ((i : ℕ) → get_or bytes i 0 < 256) → text_z_at bytes ≡ Ok (units, rest) → Begins (IsTextZ units) bytes rest
begins_z bytes units rest fits e = let front = front_z bytes units rest fits e in (front.front, front.form, front.whole)

-- The units of their own bytes.
units_back : (units : List ℕ) → are_wide units ≡ true → units_in (units_bytes units) ≡ units
unfolding fixed
units_back [] all = refl
units_back (unit ∷ units) all =
    let parts = and_parts (is_in_range 0 65535 unit) (are_wide units) all in
    let range = and_parts (nat_le 0 unit) (nat_le unit 65535) parts.0 in
    let made = unit_made unit (omega (arith, leb-true unit 65535 range.1)) in
    rw made (ap (λ (us : List ℕ). unit ∷ us) (units_back units parts.1))

-- Units take two bytes each.
pub units_long : (units : List ℕ) → length (units_bytes units) ≡ 2 * length units
unfolding fixed
units_long [] = refl
units_long (unit ∷ units) = omega (arith, units_long units)

-- A counted text is read, whatever follows.
pub read_c : (units bytes rest : List ℕ) → IsTextC units bytes → text_c_at (bytes ++ rest) ≡ Ok (units, rest)
read_c units bytes rest (inl none) =
    let counts = read_fixed w32 0 rest (omega arith) in
    rw (none.0, none.1) (ap (λ (field : Field ℕ). field >>= λ count. counted_units_at count.0 count.1) counts)
read_c units bytes rest (inr some) =
    let text = units_bytes units in
    let zeros : fixed w16 0 ≡ 0 ∷ 0 ∷ [] = unit_bytes 0 0 (omega arith) (omega arith) in
    let count : length units + 1 ≡ suc (length units) = omega arith in
    let grouped : (fixed w32 (length units + 1) ++ (text ++ 0 ∷ 0 ∷ [])) ++ rest ≡ fixed w32 (length units + 1) ++ (text ++ 0 ∷ 0 ∷ rest) = simp append_assoc in
    let counts = read_fixed w32 (length units + 1) (text ++ 0 ∷ 0 ∷ rest) (omega (arith, some.1)) in
    let whole : bytes ++ rest ≡ fixed w32 (length units + 1) ++ (text ++ 0 ∷ 0 ∷ rest) = rw (some.0, zeros) grouped in
    ap text_c_at whole
    ∙ ap (λ (field : Field ℕ). field >>= λ count. counted_units_at count.0 count.1) counts
    ∙ ap (λ (n : ℕ). counted_units_at n (text ++ 0 ∷ 0 ∷ rest)) count
    ∙ counted_read (length units) 0 0 text rest (units_long units)
    ∙ judged_zero 0 0 (units_in text) rest refl refl
    ∙ ap (λ (us : List ℕ). Ok (us, rest)) (units_back units some.2)
