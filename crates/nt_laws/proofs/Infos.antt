-- The payload of a Trace object is read as what it says.
use Rattle.std.proofs.Common.{◌≡◌, ℕ, ◌^◌, ◌<◌, true, eqb, List, [], ◌∷◌, ◌++◌, length, take, drop, refl, ap, sym, ◌∙◌, arith, append_assoc, length-append}
use Rattle.std.specs.Prelude.{nat_lt, IsTrue}
use Rattle.std.specs.Int.{w16, w32, w64}
use Rattle.std.specs.List.{flat_map, list_all}
use Rattle.std.proofs.lemmas.Bool.{and_parts, eqb-true, ltb-true}
use Rattle.std.proofs.lemmas.List.{append-nil, take_at, drop_at}
use Rattle.byteorder.specs.Endian.{little_number}
use Rattle.byteorder.specs.Numbers.{little_number-reads_back}
use Rattle.ep_defs.specs.declared.session.TraceInfo.{TraceInfo}
use Rattle.ep_defs.specs.Session.{is_info}
use Rattle.ep_defs.specs.Text.{units_in}
use Rattle.pt_num.specs.Numbers.{fixed}
use Rattle.pt_num.proofs.Lengths.{length-fixed32, length-fixed64}
use Rattle.pt_num.proofs.TextForms.{unit_made, units_long}
use Rattle.nt_object.specs.Object.{trace_payload}
use Rattle.nt_object.specs.Reading.{number_in}
use Rattle.nt_blocks.specs.Verdict.{info_in}

-- ---- numbers

-- A number of four bytes after this many.
pub number-there : (bytes front more : List ℕ) (place n : ℕ) → n < 2 ^ 32 → length front ≡ place → bytes ≡ front ++ (fixed w32 n ++ more) → number_in bytes place ≡ n
unfolding fixed
number-there bytes front more place n fits long e =
    ap (λ (bs : List ℕ). little_number 4 (drop place bs)) e
    ∙ ap (little_number 4) (drop_at front (fixed w32 n ++ more) place long)
    ∙ little_number-reads_back 4 n more fits

-- A number of eight bytes after this many.
wide-there : (bytes front more : List ℕ) (place n : ℕ) → n < 2 ^ 64 → length front ≡ place → bytes ≡ front ++ (fixed w64 n ++ more) → little_number 8 (drop place bytes) ≡ n
unfolding fixed
wide-there bytes front more place n fits long e =
    ap (λ (bs : List ℕ). little_number 8 (drop place bs)) e
    ∙ ap (little_number 8) (drop_at front (fixed w64 n ++ more) place long)
    ∙ little_number-reads_back 8 n more fits

-- Units are read back from their bytes.
units-there : (units : List ℕ) → list_all (λ n. nat_lt n (2 ^ 16)) units ≡ true → units_in (flat_map (fixed w16) units) ≡ units
unfolding fixed
units-there [] all = refl
units-there (unit ∷ units) all =
    let parts = and_parts (nat_lt unit (2 ^ 16)) (list_all (λ n. nat_lt n (2 ^ 16)) units) all in
    let made = unit_made unit (ltb-true unit (2 ^ 16) parts.0) in
    rw made (ap (λ (us : List ℕ). unit ∷ us) (units-there units parts.1))

-- ---- the payload

-- Seven lists one after another, as each of them stands between those before it and those after it.
record Places (a b c d e f g : List ℕ) : Type 0 where
  pub first : a ++ b ++ c ++ d ++ e ++ f ++ g ≡ a ++ (b ++ (c ++ (d ++ (e ++ (f ++ g)))))
  pub third : a ++ b ++ c ++ d ++ e ++ f ++ g ≡ (a ++ b) ++ (c ++ (d ++ (e ++ (f ++ g))))
  pub fourth : a ++ b ++ c ++ d ++ e ++ f ++ g ≡ (a ++ b ++ c) ++ (d ++ (e ++ (f ++ g)))
  pub fifth : a ++ b ++ c ++ d ++ e ++ f ++ g ≡ (a ++ b ++ c ++ d) ++ (e ++ (f ++ g))
  pub sixth : a ++ b ++ c ++ d ++ e ++ f ++ g ≡ (a ++ b ++ c ++ d ++ e) ++ (f ++ g)
  pub seventh : a ++ b ++ c ++ d ++ e ++ f ++ g ≡ (a ++ b ++ c ++ d ++ e ++ f) ++ (g ++ [])

-- They stand so.
places : (a b c d e f g : List ℕ) → Places a b c d e f g
places a b c d e f g = record {
  first = simp append_assoc;
  third = simp append_assoc;
  fourth = simp append_assoc;
  fifth = simp append_assoc;
  sixth = simp append_assoc;
  seventh = ap (λ (last : List ℕ). (a ++ b ++ c ++ d ++ e ++ f) ++ last) (sym (append-nil g));
}

-- The numbers of a trace fit their types.
record Fits (info : TraceInfo) : Type 0 where
  pub eight : length info.date ≡ 8
  pub dates : list_all (λ n. nat_lt n (2 ^ 16)) info.date ≡ true
  pub sync : info.sync < 2 ^ 64
  pub frequency : info.frequency < 2 ^ 64
  pub pointer : info.pointer_size < 2 ^ 32
  pub process : info.process_id < 2 ^ 32
  pub processors : info.processors < 2 ^ 32
  pub rate : info.rate < 2 ^ 32

-- The test of a trace's facts finds what doesn't fit.
fits : (info : TraceInfo) → IsTrue (is_info info) → Fits info
fits info h =
    let ids = and_parts _ (list_all (λ n. nat_lt n (2 ^ 32)) (info.pointer_size ∷ info.process_id ∷ info.processors ∷ info.rate ∷ [])) h in
    let frequency = and_parts _ (nat_lt info.frequency (2 ^ 64)) ids.0 in
    let sync = and_parts _ (nat_lt info.sync (2 ^ 64)) frequency.0 in
    let dates = and_parts (eqb (length info.date) 8) (list_all (λ n. nat_lt n (2 ^ 16)) info.date) sync.0 in
    let pointer = and_parts (nat_lt info.pointer_size (2 ^ 32)) (list_all (λ n. nat_lt n (2 ^ 32)) (info.process_id ∷ info.processors ∷ info.rate ∷ [])) ids.1 in
    let process = and_parts (nat_lt info.process_id (2 ^ 32)) (list_all (λ n. nat_lt n (2 ^ 32)) (info.processors ∷ info.rate ∷ [])) pointer.1 in
    let processors = and_parts (nat_lt info.processors (2 ^ 32)) (list_all (λ n. nat_lt n (2 ^ 32)) (info.rate ∷ [])) process.1 in
    let rate = and_parts (nat_lt info.rate (2 ^ 32)) true processors.1 in
    record {
      eight = eqb-true (length info.date) 8 dates.0;
      dates = dates.1;
      sync = ltb-true info.sync (2 ^ 64) sync.1;
      frequency = ltb-true info.frequency (2 ^ 64) frequency.1;
      pointer = ltb-true info.pointer_size (2 ^ 32) pointer.0;
      process = ltb-true info.process_id (2 ^ 32) process.0;
      processors = ltb-true info.processors (2 ^ 32) processors.0;
      rate = ltb-true info.rate (2 ^ 32) rate.0;
    }

-- How many bytes stand before each number of the payload.
record Lengths (a b c d e f g : List ℕ) : Type 0 where
  pub second : length a ≡ 16
  pub third : length (a ++ b) ≡ 24
  pub fourth : length (a ++ b ++ c) ≡ 32
  pub fifth : length (a ++ b ++ c ++ d) ≡ 36
  pub sixth : length (a ++ b ++ c ++ d ++ e) ≡ 40
  pub seventh : length (a ++ b ++ c ++ d ++ e ++ f) ≡ 44
  pub all : length (a ++ b ++ c ++ d ++ e ++ f ++ g) ≡ 48

-- Lists of these lengths make up that many.
lengths : (a b c d e f g : List ℕ) → length a ≡ 16 → length b ≡ 8 → length c ≡ 8 → length d ≡ 4 → length e ≡ 4 → length f ≡ 4 → length g ≡ 4 → Lengths a b c d e f g
lengths a b c d e f g la lb lc ld le lf lg =
    let third : length (a ++ b) ≡ 24 = omega (arith, length-append a b) in
    let fourth : length (a ++ b ++ c) ≡ 32 = omega (arith, length-append (a ++ b) c) in
    let fifth : length (a ++ b ++ c ++ d) ≡ 36 = omega (arith, length-append (a ++ b ++ c) d) in
    let sixth : length (a ++ b ++ c ++ d ++ e) ≡ 40 = omega (arith, length-append (a ++ b ++ c ++ d) e) in
    let seventh : length (a ++ b ++ c ++ d ++ e ++ f) ≡ 44 = omega (arith, length-append (a ++ b ++ c ++ d ++ e) f) in
    record {
      second = la;
      third = third;
      fourth = fourth;
      fifth = fifth;
      sixth = sixth;
      seventh = seventh;
      all = omega (arith, length-append (a ++ b ++ c ++ d ++ e ++ f) g);
    }

-- The places of the numbers in a payload.
payload-lengths : (info : TraceInfo) → Fits info → Lengths (flat_map (fixed w16) info.date) (fixed w64 info.sync) (fixed w64 info.frequency) (fixed w32 info.pointer_size) (fixed w32 info.process_id) (fixed w32 info.processors) (fixed w32 info.rate)
payload-lengths info f =
    let dates : length (flat_map (fixed w16) info.date) ≡ 16 = omega (arith, units_long info.date, f.eight) in
    lengths _ _ _ _ _ _ _ dates (length-fixed64 info.sync) (length-fixed64 info.frequency) (length-fixed32 info.pointer_size) (length-fixed32 info.process_id) (length-fixed32 info.processors) (length-fixed32 info.rate)

-- The payload takes 48 bytes.
pub payload-long : (info : TraceInfo) → IsTrue (is_info info) → length (trace_payload info) ≡ 48
payload-long info h = (payload-lengths info (fits info h)).all

-- The payload is read back.
pub info-there : (info : TraceInfo) → IsTrue (is_info info) → info_in (trace_payload info) ≡ info
info-there info h =
    let f = fits info h in
    let bytes = trace_payload info in
    let at = payload-lengths info f in
    let stand = places (flat_map (fixed w16) info.date) (fixed w64 info.sync) (fixed w64 info.frequency) (fixed w32 info.pointer_size) (fixed w32 info.process_id) (fixed w32 info.processors) (fixed w32 info.rate) in
    let dates : units_in (take 16 bytes) ≡ info.date =
    ap (λ (bs : List ℕ). units_in (take 16 bs)) stand.first ∙ ap units_in (take_at (flat_map (fixed w16) info.date) _ 16 at.second) ∙ units-there info.date f.dates in
    let sync = wide-there bytes _ _ 16 info.sync f.sync at.second stand.first in
    let frequency = wide-there bytes _ _ 24 info.frequency f.frequency at.third stand.third in
    let pointer = number-there bytes _ _ 32 info.pointer_size f.pointer at.fourth stand.fourth in
    let process = number-there bytes _ _ 36 info.process_id f.process at.fifth stand.fifth in
    let processors = number-there bytes _ _ 40 info.processors f.processors at.sixth stand.sixth in
    let rate = number-there bytes _ _ 44 info.rate f.rate at.seventh stand.seventh in
    λ i. record {
      date = dates i;
      sync = sync i;
      frequency = frequency i;
      pointer_size = pointer i;
      process_id = process i;
      processors = processors i;
      rate = rate i;
    }
