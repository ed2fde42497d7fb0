-- The line is the pieces that were placed.
use Rattle.std.proofs.Common.{◌≡◌, List, ℕ, [], ◌++◌, drop, take, length, sym, ap, ◌∙◌, arith}
use Rattle.std.specs.Prelude.{codes}
use Rattle.std.proofs.lemmas.List.{drop_all, length-replicate, take-replicate}
use Rattle.ep_defs.specs.declared.event.EventDef.{EventDef}
use Rattle.pt_lines.specs.state.Pieces.{names_text, numbers_text}
use Rattle.pt_lines.proofs.Placing.{kept, line-placed}
use Rattle.pt_lines.proofs.line.place_event.Goals as goal

pub place_numbers-requires-clause-blank : goal.place_numbers-requires-clause-blank
place_numbers-requires-clause-blank c =
    let end = c.place_word-end in
    let named = c.place_word-named in
    let placed = c.in_ok-fields.ensures.placed in
    let fields = c.in_ok-fields.fields in
    named.ensures.before
    ∙ kept named.result fields _ _ (omega (arith, named.ensures.start)) placed.4.2
    ∙ kept named.result end.result _ _ (omega (arith, named.ensures.start, placed.4.0)) end.ensures.before
    ∙ ap (λ (xs : List ℕ). take named.result xs) c.requires
    ∙ take-replicate {X = ℕ} named.result 192 32 (omega (arith, named.ensures.start, placed.4.0, end.ensures.start))

pub returns : goal.returns
returns c =
    let end = c.place_word-end in
    let named = c.place_word-named in
    let placed = c.in_ok-fields.ensures.placed in
    let numbers = c.place_numbers in (
      omega (arith, numbers.ensures.before, named.ensures.start, placed.4.0, end.ensures.start),
      λ origin processor thread entry tells.
          let none : drop 192 c.args.text.now ≡ [] = drop_all 192 c.args.text.now (omega (arith, ap length c.requires, length-replicate {A = ℕ} 192 32)) in
          let behind = end.ensures.written ∙ ap (λ (xs : List ℕ). codes "\n" ++ xs) none in
          let fields = placed.4.1 ∙ ap (λ (xs : List ℕ). placed.1 ++ xs) behind in
          let names = c.names-names.ensures ∙ ap names_text tells.def in
          let all =
          numbers.ensures.written
          ∙ ap (λ (xs : List ℕ). numbers_text c.args.event.now.stamp c.args.event.now.thread c.args.event.now.number ++ xs)
          (named.ensures.written ∙ ap (λ (xs : List ℕ). xs ++ drop c.in_ok-fields.fields c.place_fields.new.text) names ∙ ap (λ (xs : List ℕ). names_text entry.def ++ xs) fields) in
          line-placed origin processor thread entry c.fields.result.now c.args.event.now.payload.now placed.0 placed.1 _
          (c.fields.ensures ∙ ap (λ (def : EventDef). def.fields) tells.def) tells.payload placed.2 placed.3
          (rw (sym tells.stamp, sym tells.thread, sym tells.number) all),
    )
