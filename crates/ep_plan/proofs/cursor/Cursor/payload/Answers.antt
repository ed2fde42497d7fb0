use Rattle.std.proofs.Common.{ℕ, List, Option, Some, take, refl, sym, ap, ◌∙◌, subst}
use Rattle.std.specs.Prelude.{IfSome}
use Rattle.ep_plan.specs.declared.line.LineKind.TheVariants as kind
use Rattle.ep_plan.specs.Cursor.{SpellsAll}
use Rattle.ep_plan.specs.Lines.{Payload, unless}
use Rattle.ep_plan.proofs.Ahead.{dash_payload, digits_parts, digits_payload, not_empty}
use Rattle.ep_plan.proofs.CursorWords.{took-part, took-word}
use Rattle.ep_plan.proofs.cursor.Cursor.payload.Goals as goal

pub returns-then-dash_ahead-clause-took : goal.returns-then-dash_ahead-clause-took
returns-then-dash_ahead-clause-took c =
    let found = c.dash_ahead.ensures c.if-dash_ahead.true in
    let word : List ℕ = take 1 found.0.text.now in
    let spelled = dash_payload word found.1 in
    (word, took-part Payload _ _ _ (c.pass.ensures found.0) (ap (λ o. unless o kind.Hex) spelled), spelled ∙ ap Some (sym (c.new.ensures ∙ c.new-bytes.ensures.items)))

pub returns-in-Some-clause-took : goal.returns-in-Some-clause-took
returns-in-Some-clause-took c =
    let Found : Option (List ℕ) → Type 0 = λ o. IfSome o (SpellsAll c.args.self.now) in
    let found = subst Found c.in-Some.is c.in_ok-bytes.ensures in
    let text = found.text.now in
    let payload = digits_payload text c.in-Some.bytes found.some found.spelled in
    let word = took-word c.args.self.now _ found.text text refl refl found.rest (digits_parts text c.in-Some.bytes found.spelled) tt (not_empty text found.some) in
    (text, took-part Payload _ _ _ word (ap (λ o. unless o kind.Hex) payload), payload)
