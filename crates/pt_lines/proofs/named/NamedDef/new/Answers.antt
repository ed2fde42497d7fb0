-- Each part is what was put of the definition, of which a copy is kept.
use Rattle.std.proofs.Common.{◌≡◌, ℕ, List, [], ◌++◌, ap, ◌∙◌, sym}
use Rattle.ep_defs.specs.declared.event.EventDef.{EventDef}
use Rattle.pt_lines.specs.Json.{behind_commas, definition_members}
use Rattle.pt_lines.specs.state.Pieces.{alone_text, end_of, instant_text, names_text, span_text}
use Rattle.pt_lines.proofs.named.NamedDef.new.Goals as goal

-- What is put behind nothing is the text itself.
put-of : (f : EventDef → List ℕ) {start out : List ℕ} {def kept : EventDef} → kept ≡ def → start ≡ [] → out ≡ start ++ f def → out ≡ f kept
put-of f {start} {out} {def} {kept} same none put = put ∙ ap (λ (xs : List ℕ). xs ++ f def) none ∙ ap f (sym same)

pub invariant_of-result : goal.invariant_of-result
invariant_of-result c =
    let same = c.in_ok-def.ensures in (
      c.in_ok-fields.ensures ∙ c.as_slice-2.ensures ∙ ap (λ (d : EventDef). d.fields) (sym same),
      put-of names_text same c.new-names.ensures.items c.in_ok-put_names.ensures,
      put-of (λ d. behind_commas (definition_members d)) same c.new-members.ensures.items c.in_ok-put_definition.ensures,
      put-of alone_text same c.new-alone.ensures.items c.in_ok-put_alone.ensures,
      put-of instant_text same c.new-instant.ensures.items c.in_ok-put_instant.ensures,
      put-of span_text same c.new-span.ensures.items c.in_ok-put_span.ensures,
      c.end_of-phase.ensures.phase ∙ ap (λ (n : List ℕ). (end_of n).0) c.as_slice.ensures ∙ ap (λ (d : EventDef). (end_of d.name).0) (sym same),
    )
