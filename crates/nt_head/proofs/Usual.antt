-- The usual header: its flags announce no field but the stamp.
use Rattle.std.proofs.Common.{◌≡◌, ℕ, Bool, true, false, eqb, List, None, Ok, refl, sym, subst}
use Rattle.std.specs.Prelude.{◌||◌}
use Rattle.std.proofs.lemmas.Bool.{eqb-true, true≢false}
use Rattle.nt_head.specs.declared.flags.TheConstants.{ACTIVITY, METADATA, RELATED, SEQUENCE, SIZE, SORTED, STACK, THREAD}
use Rattle.pt_num.specs.Fields.{Field}
use Rattle.nt_head.specs.Reading.{has_flag, if_set}

-- No flag is set but that of a sorted blob.
pub record Usual (flags : ℕ) : Type 0 where
  pub metadata : has_flag METADATA flags ≡ false
  pub sequence : has_flag SEQUENCE flags ≡ false
  pub thread : has_flag THREAD flags ≡ false
  pub stack : has_flag STACK flags ≡ false
  pub activity : has_flag ACTIVITY flags ≡ false
  pub related : has_flag RELATED flags ≡ false
  pub size : has_flag SIZE flags ≡ false

none_usual : Usual 0
none_usual = record { metadata = refl; sequence = refl; thread = refl; stack = refl; activity = refl; related = refl; size = refl }

sorted_usual : Usual SORTED
sorted_usual = record { metadata = refl; sequence = refl; thread = refl; stack = refl; activity = refl; related = refl; size = refl }

usual_by : (flags : ℕ) (none sorted : Bool) → none ≡ eqb flags 0 → sorted ≡ eqb flags SORTED → (none || sorted) ≡ true → Usual flags
usual_by flags true sorted a b set = subst (λ (f : ℕ). Usual f) (sym (eqb-true flags 0 (sym a))) none_usual
usual_by flags false true a b set = subst (λ (f : ℕ). Usual f) (sym (eqb-true flags SORTED (sym b))) sorted_usual
usual_by flags false false a b set = absurd (true≢false (sym set))

pub usual_is : (flags : ℕ) → (eqb flags 0 || eqb flags SORTED) ≡ true → Usual flags
usual_is flags set = usual_by flags (eqb flags 0) (eqb flags SORTED) refl refl set

-- A field whose flag is not set is not there.
pub field_absent : {A : Type 0} (there : Bool) (field : List ℕ → Field A) (bytes : List ℕ) → there ≡ false → if_set there field bytes ≡ Ok (None, bytes)
field_absent there field bytes unset = rw unset refl
