use Rattle.std.proofs.Common.{ℕ, List, [], ◌∷◌, codes, refl, sym, ap, ◌∙◌, subst}
use Rattle.ep_plan.specs.declared.verb.Verb.{Verb}
use Rattle.ep_plan.specs.declared.verb.Verb.TheVariants as verb
use Rattle.ep_plan.specs.Lines.{Number, form_of, Spells}
use Rattle.ep_plan.specs.Cursor.{TookWord}
use Rattle.ep_plan.proofs.CursorWords.{is-end}
use Rattle.ep_plan.proofs.WholeLines.{begins-word, if-over, verb-line}
use Rattle.ep_plan.proofs.short.read_short.Goals as goal

pub returns-in_ok-session-in-Show : goal.returns-in_ok-session-in-Show
unfolding Spells
returns-in_ok-session-in-Show c = λ events stepped.
    let Takes : Verb → Type 0 = λ v. TookWord c.new-words.result c.verb.new.self (form_of v).name in
    let took = subst Takes c.in-Show.is c.in_ok-verb.ensures in
    let first = c.in_ok-thread-in-Show.ensures.took in
    let second = c.in_ok-session-in-Show.ensures.took in
    let words = c.new-words.ensures.words in
    if-over _ c.is_over.result _ _ c.then_some.ensures c.is_over.ensures.over
    (λ over. verb-line events stepped c.args.text.now c.new-words.result c.verb.new.self verb.Show _ c.if-text-gt-LINE_BYTES.false (begins-word c.args.text.now (codes "show") _ (sym words ∙ took.words) refl) words c.new-words.ensures.column c.new-words.ensures.past took
    (first.1.bad (Number ∷ []) 0 ∙ second.1.bad [] 0 ∙ is-end _ over 0)
    (first.0, second.0, ap (λ (ws : List (List ℕ)). codes "show" ∷ ws) (first.1.words ∙ ap (λ (ws : List (List ℕ)). first.0 ∷ ws) (second.1.words ∙ ap (λ (ws : List (List ℕ)). second.0 ∷ ws) over)), first.2, second.2))

pub returns-in_ok-thread-in-End : goal.returns-in_ok-thread-in-End
unfolding Spells
returns-in_ok-thread-in-End c = λ events stepped.
    let Takes : Verb → Type 0 = λ v. TookWord c.new-words.result c.verb.new.self (form_of v).name in
    let took = subst Takes c.in-End.is c.in_ok-verb.ensures in
    let first = c.in_ok-thread-in-End.ensures.took in
    let words = c.new-words.ensures.words in
    if-over _ c.is_over-in-End.result _ _ c.then_some-in-End.ensures c.is_over-in-End.ensures.over
    (λ over. verb-line events stepped c.args.text.now c.new-words.result c.verb.new.self verb.End _ c.if-text-gt-LINE_BYTES.false (begins-word c.args.text.now (codes "end") _ (sym words ∙ took.words) refl) words c.new-words.ensures.column c.new-words.ensures.past took
    (first.1.bad [] 0 ∙ is-end _ over 0)
    (first.0, ap (λ (ws : List (List ℕ)). codes "end" ∷ ws) (first.1.words ∙ ap (λ (ws : List (List ℕ)). first.0 ∷ ws) over), first.2))
