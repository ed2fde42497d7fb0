-- Lines behind what stands before them, and more lines.
use Rattle.std.proofs.Common.{◌≡◌, ℕ, Bool, true, false, ◌&&◌, eqb, List, [], ◌∷◌, ◌++◌, length, inl, inr, refl, sym, ap, ◌∙◌, append_assoc, arith}
use Rattle.std.proofs.lemmas.List.{append-nil}
use Rattle.std.proofs.lemmas.Bool.{cases_Bool, eqb-true}
use Rattle.pt_lines.specs.declared.form.Form.{Form}
use Rattle.pt_lines.specs.declared.form.Form.TheVariants as forms
use Rattle.pt_lines.specs.Around.{head_of, opened, shown}

some-there : (x : ℕ) (lines : List ℕ) → eqb (length (x ∷ lines)) 0 ≡ false
some-there x lines =
    elim (cases_Bool (eqb (length (x ∷ lines)) 0)) [ inl none ↦ absurd (omega (arith, eqb-true (length (x ∷ lines)) 0 none)) | inr some ↦ some ]

-- More lines are shown behind those before them.
pub opened-more : (form : Form) (lines more : List ℕ) → opened form (lines ++ more) ≡ opened form lines ++ shown form (eqb (length lines) 0) more
opened-more forms.Lines lines more = refl
opened-more forms.Json lines more = refl
opened-more forms.Chromium [] more = refl
opened-more forms.Page [] more = ap (λ (xs : List ℕ). xs ++ shown forms.Page true more) (sym (append-nil (head_of forms.Page)))
opened-more forms.Page (x ∷ lines) more =
    sym (append_assoc (head_of forms.Page) lines more)
    ∙ ap (λ (first : Bool). opened forms.Page (x ∷ lines) ++ shown forms.Page first more) (sym (some-there x lines))
opened-more forms.Chromium (x ∷ lines) more = ap (λ (first : Bool). opened forms.Chromium (x ∷ lines) ++ shown forms.Chromium first more) (sym (some-there x lines))

-- There are none as long as none were there and none come.
pub none-more : (lines more : List ℕ) → eqb (length (lines ++ more)) 0 ≡ (eqb (length lines) 0 && eqb (length more) 0)
none-more [] more = refl
none-more (x ∷ lines) more = some-there x (lines ++ more) ∙ ap (λ (none : Bool). none && eqb (length more) 0) (sym (some-there x lines))

-- Where no lines are shown, what stands before them is.
pub opened-none : (form : Form) → opened form [] ≡ head_of form
opened-none forms.Lines = refl
opened-none forms.Json = refl
opened-none forms.Chromium = refl
opened-none forms.Page = append-nil (head_of forms.Page)
