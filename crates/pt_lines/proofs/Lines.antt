-- Lines and more lines.
use Rattle.std.proofs.Common.{◌≡◌, ℕ, false, eqb, List, [], ◌∷◌, ◌++◌, Result, refl, sym, ap, ◌∙◌, subst, append_assoc}
use Rattle.std.specs.Prelude.{OnOk}
use Rattle.std.proofs.lemmas.List.{append-nil}
use Rattle.std.proofs.lemmas.Result.{on_ok_weaker}
use Rattle.pt_lines.specs.declared.form.Form.{Form}
use Rattle.pt_lines.specs.declared.origin.Origin.{Origin}
use Rattle.pt_lines.specs.Line.{Line, Lost, lost_if}
use Rattle.pt_lines.specs.Forms.{IsLine, AreLines}
use Rattle.pt_lines.specs.Appends.{Appends}

-- One line is lines.
pub line-one : (form : Form) (line : Line) (text : List ℕ) → IsLine form line text → AreLines form (line ∷ []) text
line-one form line text is = (text, [], is, refl, sym (append-nil text))

-- Lines and more lines.
pub lines-append : (form : Form) (a b : List Line) (x y : List ℕ) → AreLines form a x → AreLines form b y → AreLines form (a ++ b) (x ++ y)
lines-append form [] b x y none more = subst (λ (text : List ℕ). AreLines form b (text ++ y)) (sym none) more
lines-append form (line ∷ a) b x y (first, rest, is, others, split) more =
    (first, rest ++ y, is, lines-append form a b rest y others more, ap (λ (text : List ℕ). text ++ y) split ∙ append_assoc first rest y)

-- The line of what is lost was put.
pub lost-put : {E A : Type 0} (form : Form) (answer : Result A E) (old new : List ℕ) (origin : Origin) (stamp thread count : ℕ) → eqb count 0 ≡ false → OnOk answer (Appends (IsLine form (Lost origin stamp thread count)) old new) → OnOk answer (Appends (AreLines form (lost_if origin stamp thread count)) old new)
lost-put form answer old new origin stamp thread count some put =
    on_ok_weaker answer (λ is. rw some (is.0, line-one form (Lost origin stamp thread count) is.0 is.1, is.2)) put
