use Rattle.std.proofs.Common.{◌≡◌, ℕ, List, Option, Some, take, sym, ap, ◌∙◌, subst}
use Rattle.std.specs.Prelude.{IfSome}
use Rattle.ep_plan.specs.declared.line.LineKind.TheVariants as kind
use Rattle.ep_plan.specs.Cursor.{IsNext}
use Rattle.ep_plan.specs.Lines.{Frames, unless}
use Rattle.ep_plan.specs.Words.{frames_in}
use Rattle.ep_plan.proofs.Ahead.{dash_frames}
use Rattle.ep_plan.proofs.CursorWords.{took-part}
use Rattle.ep_plan.proofs.cursor.Cursor.frames.Goals as goal

pub returns-then-dash_ahead-clause-took : goal.returns-then-dash_ahead-clause-took
returns-then-dash_ahead-clause-took c =
    let found = c.dash_ahead.ensures c.if-dash_ahead.true in
    let word : List ℕ = take 1 found.0.text.now in
    let spelled = dash_frames word found.1 in
    (word, took-part Frames _ _ _ (c.pass.ensures found.0) (ap (λ o. unless o kind.Hex) spelled), spelled ∙ ap Some (sym (c.new.ensures ∙ c.new-frames.ensures.items)))

pub returns-in-Some-clause-took : goal.returns-in-Some-clause-took
returns-in-Some-clause-took c =
    let Found : Option ℕ → Type 0 = λ o. IfSome o (λ count. (next : IsNext c.args.self.now count) × (frames_in (take count next.text.now) ≡ Some c.frames_ahead.new.frames.items)) in
    let found = subst Found c.in-Some.is c.in_ok-count.ensures in
    (take c.in-Some.count found.0.text.now, took-part Frames _ _ _ (c.pass-in-Some.ensures found.0) (ap (λ o. unless o kind.Hex) found.1), found.1 ∙ ap Some (sym c.new-in-Some.ensures))
