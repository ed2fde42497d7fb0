-- Where records stand in a chunk's bytes.
use Rattle.std.proofs.Common.{◌≡◌, ℕ, ◌+◌, ◌-◌, ◌<◌, ◌≤◌, Bool, true, false, List, [], ◌∷◌, ◌++◌, length, drop, Some, None, refl, ap, sym, ◌∙◌, subst, arith, nat_le, ◌==◌, if◌then◌else◌}
use Rattle.std.proofs.lemmas.List.{drop_at, drop-drop}
use Rattle.std.proofs.lemmas.List.Elements.{All-head, All-tail}
use Rattle.std.proofs.lemmas.Bool.{false≢true, eqb-true, leb-true, ne_eqb, le-leb}
use Rattle.std.specs.List.{All, flat_map}
use Rattle.ep_chunk.specs.Record.{Record, IsRecord, size_of, total_size, bytes_of}
use Rattle.std.specs.Prelude.{IsSome}
use Rattle.ep_chunk.specs.declared.rec.RecOut.{RecOut}
use Rattle.ep_chunk.specs.Places.{records_at, Tells, TellsAt}
use Rattle.ep_chunk.specs.Held.{record_in, records_in, HasRecord, IsHeld}
use Rattle.ep_chunk.proofs.Laid.{length-bytes_of}
use Rattle.ep_chunk.proofs.Holding.{record_in-bytes_of, used-is}

-- Some records stand after a place.
pub record Splits (records : List Record) (place : ℕ) (later : List Record) : Type 0 where
  pub bytes : drop place (flat_map bytes_of records) ≡ flat_map bytes_of later
  pub sizes : place + total_size later ≡ total_size records
  pub fitting : All IsRecord later

-- All records stand after place 0.
pub records_at-zero : (records : List Record) → records_at records 0 ≡ Some records
records_at-zero [] = refl
records_at-zero (r ∷ records) = refl

-- What a place says of the bytes.
pub splits : (records later : List Record) (place : ℕ) → All IsRecord records → records_at records place ≡ Some later → Splits records place later
splits [] later place all here =
    elim (place == 0) as (λ v. (place == 0) ≡ v → (if v then Some [] else None) ≡ Some later → Splits [] place later) [
      | true ↦ λ is e.
          let zero' = eqb-true place 0 is in
          let none : [] ≡ later = cc in
          subst (λ (xs : List Record). Splits [] place xs) none (record { bytes = ap (λ (n : ℕ). drop n []) zero'; sizes = omega arith; fitting = all })
      | false ↦ λ is e. cc
    ]
    refl
    here
splits (r ∷ records) later place all here =
    elim (place == 0) as (λ v. (place == 0) ≡ v → (if v then Some (r ∷ records) else (if nat_le (size_of r) place then records_at records (place - size_of r) else None)) ≡ Some later → Splits (r ∷ records) place later) [
      | true ↦ λ is e.
          let zero' = eqb-true place 0 is in
          let whole : r ∷ records ≡ later = cc in
          subst (λ (xs : List Record). Splits (r ∷ records) place xs) whole
          (record {
            bytes = ap (λ (n : ℕ). drop n (flat_map bytes_of (r ∷ records))) zero';
            sizes = omega arith;
            fitting = all;
          })
      | false ↦ λ is e.
          elim (nat_le (size_of r) place) as (λ v. nat_le (size_of r) place ≡ v → (if v then records_at records (place - size_of r) else None) ≡ Some later → Splits (r ∷ records) place later) [
            | true ↦ λ fits e.
                let le = leb-true (size_of r) place fits in
                let s = splits records later (place - size_of r) (All-tail IsRecord r records all) e in
                let len = length-bytes_of r (All-head IsRecord r records all) in
                let sum : size_of r + (place - size_of r) ≡ place = omega arith in
                record {
                  bytes =
                      ap (λ (n : ℕ). drop n (flat_map bytes_of (r ∷ records))) (sym sum)
                      ∙ sym (drop-drop (place - size_of r) (size_of r) (flat_map bytes_of (r ∷ records)))
                      ∙ ap (drop (place - size_of r)) (drop_at (bytes_of r) (flat_map bytes_of records) (size_of r) len)
                      ∙ s.bytes;
                  sizes = omega (arith, s.sizes);
                  fitting = s.fitting;
                }
            | false ↦ λ fits e. cc
          ]
          refl
          e
    ]
    refl
    here

-- After a record that begins at a place stand the others.
pub records_at-next : (records : List Record) (place : ℕ) (r : Record) (others : List Record) → records_at records place ≡ Some (r ∷ others) → records_at records (place + size_of r) ≡ Some others
records_at-next [] place r others here =
    elim (place == 0) as (λ v. (if v then Some [] else None) ≡ Some (r ∷ others) → records_at [] (place + size_of r) ≡ Some others) [
      | true ↦ λ e. cc
      | false ↦ λ e. cc
    ]
    here
records_at-next (first ∷ records) place r others here =
    elim (place == 0) as (λ v. (place == 0) ≡ v → (if v then Some (first ∷ records) else (if nat_le (size_of first) place then records_at records (place - size_of first) else None)) ≡ Some (r ∷ others) → records_at (first ∷ records) (place + size_of r) ≡ Some others) [
      | true ↦ λ is e.
          let zero' = eqb-true place 0 is in
          let same : first ≡ r = cc in
          let rest : records ≡ others = cc in
          let size : size_of first ≡ size_of r = ap size_of same in
          let sum : place + size_of r ≡ size_of first = omega arith in
          ap (records_at (first ∷ records)) sum
          ∙ past first records (size_of first) (omega arith) (omega arith)
          ∙ ap (records_at records) (zero_left (size_of first))
          ∙ records_at-zero records
          ∙ ap (λ (xs : List Record). Some xs) rest
      | false ↦ λ is e.
          elim (nat_le (size_of first) place) as (λ v. nat_le (size_of first) place ≡ v → (if v then records_at records (place - size_of first) else None) ≡ Some (r ∷ others) → records_at (first ∷ records) (place + size_of r) ≡ Some others) [
            | true ↦ λ fits e.
                let le = leb-true (size_of first) place fits in
                past first records (place + size_of r) (omega arith) (omega arith)
                ∙ ap (records_at records) (moved (size_of first) (size_of r) place le)
                ∙ records_at-next records (place - size_of first) r others e
            | false ↦ λ fits e. cc
          ]
          refl
          e
    ]
    refl
    here
  where
    zero_left : (n : ℕ) → n - n ≡ 0
    zero_left n = omega arith

    moved : (a b place : ℕ) → a ≤ place → place + b - a ≡ place - a + b
    moved a b place h = omega arith

    past : (first : Record) (records : List Record) (place : ℕ) → 0 < place → size_of first ≤ place → records_at (first ∷ records) place ≡ records_at records (place - size_of first)
    past first records place some h =
        let not_zero : (place == 0) ≡ false = ne_eqb place 0 (λ e. omega arith) in
        let fits : nat_le (size_of first) place ≡ true = le-leb (size_of first) place h in
        ap (λ (v : Bool). if v then Some (first ∷ records) else (if nat_le (size_of first) place then records_at records (place - size_of first) else None)) not_zero
        ∙ ap (λ (v : Bool). if v then records_at records (place - size_of first) else None) fits

-- A record begins at a place in a chunk's bytes.
pub stands : (bytes : List ℕ) (room place : ℕ) (r : Record) (others : List Record) → IsHeld bytes room → records_at (records_in bytes) place ≡ Some (r ∷ others) → HasRecord (drop place bytes) × (record_in (drop place bytes) ≡ r)
stands bytes room place r others held here =
    let s = splits (records_in bytes) (r ∷ others) place held.fitting here in
    let fits = All-head IsRecord r others s.fitting in
    let rest = flat_map bytes_of others in
    let now : drop place bytes ≡ bytes_of r ++ rest = ap (drop place) held.spelled ∙ s.bytes in
    let is : record_in (drop place bytes) ≡ r = ap record_in now ∙ record_in-bytes_of r rest fits in
    let len = length-bytes_of r fits in (
      record {
        spelled =
            now
            ∙ ap (λ (xs : List ℕ). bytes_of r ++ xs) (sym (ap (drop (size_of r)) now ∙ drop_at (bytes_of r) rest (size_of r) len))
            ∙ ap (λ (x : Record). bytes_of x ++ drop (size_of x) (drop place bytes)) (sym is);
        fitting = subst IsRecord (sym is) fits;
      },
      is,
    )

-- What a place says of a chunk's bytes.
pub record At (bytes : List ℕ) (records : List Record) (place : ℕ) : Type 0 where
  pub within : place ≤ length bytes
  pub used : length bytes ≡ total_size records
  pub over : place ≡ length bytes → records_at records place ≡ Some []
  pub stands : (place ≡ length bytes → ⊥) → HasRecord (drop place bytes)
  pub told : (place ≡ length bytes → ⊥) → (out : RecOut) → Tells (record_in (drop place bytes)) out → out.next ≡ place + size_of (record_in (drop place bytes)) → TellsAt records place out

at-later : (bytes : List ℕ) (room place : ℕ) (later : List Record) → IsHeld bytes room → records_at (records_in bytes) place ≡ Some later → At bytes (records_in bytes) place
at-later bytes room place [] held here =
    let used = used-is bytes room held in
    let s = splits (records_in bytes) [] place held.fitting here in
    record {
      within = omega (arith, s.sizes);
      used = used;
      over = λ _. here;
      stands = λ ne. absurd (ne (omega (arith, s.sizes)));
      told = λ ne. absurd (ne (omega (arith, s.sizes)));
    }
at-later bytes room place (r ∷ others) held here =
    let records = records_in bytes in
    let used = used-is bytes room held in
    let s = splits records (r ∷ others) place held.fitting here in
    let h = stands bytes room place r others held here in
    record {
      within = omega (arith, s.sizes);
      used = used;
      over = λ e. absurd (omega (arith, s.sizes));
      stands = λ _. h.0;
      told =
          λ _ out parts next.
          record {
            told = r;
            others = others;
            parts = subst (λ (x : Record). Tells x out) h.1 parts;
            here = here;
            behind = ap (records_at records) (next ∙ ap (λ (x : Record). place + size_of x) h.1) ∙ records_at-next records place r others here;
            next = next ∙ ap (λ (x : Record). place + size_of x) h.1;
          };
    }

-- A place in a chunk that is held in these bytes.
pub at-place : (slice bytes : List ℕ) (room : ℕ) (records : List Record) (place : ℕ) → slice ≡ bytes → IsHeld bytes room → records_in bytes ≡ records → IsSome (records_at records place) → At slice records place
at-place slice bytes room records place same held view here =
    let at : At bytes (records_in bytes) place =
    elim (records_at (records_in bytes) place) as (λ o. records_at (records_in bytes) place ≡ o → IsSome o → At bytes (records_in bytes) place) [
      | Some later ↦ λ is _. at-later bytes room place later held is
      | None ↦ λ _ none. absurd (false≢true none)
    ]
    refl
    (subst (λ (rs : List Record). IsSome (records_at rs place)) (sym view) here)
    in
    subst (λ (xs : List ℕ). At xs records place) (sym same) (subst (λ (rs : List Record). At bytes rs place) view at)
