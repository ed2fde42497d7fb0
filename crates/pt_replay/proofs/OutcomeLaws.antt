-- What lines come to is determined, since a line means one thing.
use Rattle.std.proofs.Common.{◌≡◌, ℕ, Bool, List, [], ◌∷◌, Some, sym, ap, ◌∙◌, subst, inl, inr}
use Rattle.ep_defs.specs.declared.event.EventDef.{EventDef}
use Rattle.ep_model.specs.declared.step.Step.{Step}
use Rattle.ep_model.specs.Lawful.{objection_to}
use Rattle.ep_plan.specs.Lines.{Bad, IsLine}
use Rattle.ep_plan.specs.declared.line.Line.{Line}
use Rattle.ep_plan.specs.declared.line.Line.TheVariants as line
use Rattle.pt_replay.specs.declared.errors.Reason.{Reason}
use Rattle.pt_replay.specs.declared.errors.Reason.TheVariants as reason
use Rattle.pt_replay.specs.declared.errors.Refusal.{Refusal}
use Rattle.pt_replay.specs.Schedule.{definitions_of, past_of, bad_after, Says, CanBeMade, Takes, IsWhy, Refuses, AreGood, HaveRefused}

-- A line means one thing.
abbrev pub OneMeaning : Type 0
OneMeaning = (events : List EventDef) (stepped : Bool) (text : List ℕ) (a b : Line) → IsLine events stepped text a → IsLine events stepped text b → a ≡ b

bad-same : (a b : Bad) → Some a ≡ Some b → a ≡ b
bad-same a b is = cc

refusal-same : (a b : Refusal) → a.line ≡ b.line → a.column ≡ b.column → a.reason ≡ b.reason → a ≡ b
refusal-same a b lines columns reasons =
    let by_line : ℕ → Refusal = λ l. record { line = l; column = a.column; reason = a.reason } in
    let by_column : ℕ → Refusal = λ c. record { line = b.line; column = c; reason = a.reason } in
    let by_reason : Reason → Refusal = λ r. record { line = b.line; column = b.column; reason = r } in
    ap by_line lines ∙ ap by_column columns ∙ ap by_reason reasons

module _ (law : OneMeaning) where
  says-one : (before : List Line) (text : List ℕ) (a b : Line) → Says before text a → Says before text b → a ≡ b
  says-one before text a b one other = law (definitions_of before) _ text a b one other

  step-one : (before : List Line) (text : List ℕ) (a b : Step) → Says before text (line.Step a) → Says before text (line.Step b) → a ≡ b
  step-one before text a b one other = let same = says-one before text (line.Step a) (line.Step b) one other in cc

  -- A line that says something is not bad.
  says-good : (before : List Line) (text : List ℕ) (a : Line) (bad : Bad) → Says before text a → bad_after before text ≡ Some bad → ⊥
  says-good before text a bad says is =
      let good = says.good in
      cc

  -- The line is refused in one way.
  why-one : (before : List Line) (text : List ℕ) (column column' : ℕ) (a b : Reason) → IsWhy before text column a → IsWhy before text column' b → (column ≡ column') × (a ≡ b)
  why-one before text column column' (reason.Line k) (reason.Line k') one other =
      let same = bad-same (record { column = column; kind = k }) (record { column = column'; kind = k' }) (sym one ∙ other) in
      (ap (λ bad. bad.column) same, ap (λ bad. reason.Line bad.kind) same)
  why-one before text column column' (reason.Line k) (reason.Step k') one other = absurd (says-good before text (line.Step other.1.0) (record { column = column; kind = k }) other.1.1 one)
  why-one before text column column' (reason.Step k) (reason.Line k') one other = absurd (says-good before text (line.Step one.1.0) (record { column = column'; kind = k' }) one.1.1 other)
  why-one before text column column' (reason.Step k) (reason.Step k') one other =
      let same = ap (λ s. objection_to (definitions_of before) (past_of before) s) (step-one before text one.1.0 other.1.0 one.1.1 other.1.1) in
      let kinds : Some k ≡ Some k' = sym one.1.2 ∙ same ∙ other.1.2 in
      (one.0 ∙ sym other.0, cc)

  refuses-one : (before : List Line) (text : List ℕ) (a b : Refusal) → Refuses before text a → Refuses before text b → a ≡ b
  refuses-one before text a b one other =
      let numbers = one.number ∙ sym other.number in
      let same = why-one before text a.column b.column a.reason b.reason one.why other.why in
      refusal-same a b numbers same.0 same.1

  -- A line that is taken is not refused.
  takes-not : (before : List Line) (text : List ℕ) (a : Line) (column : ℕ) (why : Reason) → Takes before text a → IsWhy before text column why → ⊥
  takes-not before text a column (reason.Line k) takes is = says-good before text a (record { column = column; kind = k }) takes.says is
  takes-not before text a column (reason.Step k) takes is =
      let same = says-one before text a (line.Step is.1.0) takes.says is.1.1 in
      let lawful = subst (λ l. CanBeMade before l) same takes.made in
      let kind = is.1.2 in
      cc

  pub good-one : (before : List Line) (texts : List (List ℕ)) (a b : List Line) → AreGood before texts a → AreGood before texts b → a ≡ b
  good-one before [] a b one other = one ∙ sym other
  good-one before (text ∷ texts) a b one other =
      let same = says-one before text one.0 other.0 one.1.says other.1.says in
      good-one (one.0 ∷ before) texts a b one.2 (subst (λ l. AreGood (l ∷ before) texts b) (sym same) other.2)

  pub refused-one : (before : List Line) (texts : List (List ℕ)) (a b : Refusal) → HaveRefused before texts a → HaveRefused before texts b → a ≡ b
  refused-one before [] a b one other = absurd one
  refused-one before (text ∷ texts) a b (inl one) (inl other) = refuses-one before text a b one other
  refused-one before (text ∷ texts) a b (inl one) (inr other) = absurd (takes-not before text other.0 a.column a.reason other.1 one.why)
  refused-one before (text ∷ texts) a b (inr one) (inl other) = absurd (takes-not before text one.0 b.column b.reason one.1 other.why)
  refused-one before (text ∷ texts) a b (inr one) (inr other) =
      let same = says-one before text one.0 other.0 one.1.says other.1.says in
      refused-one (one.0 ∷ before) texts a b one.2 (subst (λ l. HaveRefused (l ∷ before) texts b) (sym same) other.2)

  pub good-not_refused : (before : List Line) (texts : List (List ℕ)) (after : List Line) (refusal : Refusal) → AreGood before texts after → HaveRefused before texts refusal → ⊥
  good-not_refused before [] after refusal good refused = refused
  good-not_refused before (text ∷ texts) after refusal good (inl refused) = takes-not before text good.0 refusal.column refusal.reason good.1 refused.why
  good-not_refused before (text ∷ texts) after refusal good (inr refused) =
      let same = says-one before text good.0 refused.0 good.1.says refused.1.says in
      good-not_refused (good.0 ∷ before) texts after refusal good.2 (subst (λ l. HaveRefused (l ∷ before) texts refusal) (sym same) refused.2)
