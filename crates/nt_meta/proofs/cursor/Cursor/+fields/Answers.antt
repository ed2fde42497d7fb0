use Rattle.std.proofs.Common.{◌≡◌, ℕ, suc, ◌+◌, ◌-◌, List, refl, sym, subst, ◌∙◌, arith}
use Rattle.std.proofs.lemmas.Result.{err_from_is_err_and}
use Rattle.std.proofs.Common.{eq-eqb}
use Rattle.std.proofs.lemmas.Bool.{ne_eqb}
use Rattle.ep_defs.specs.declared.event.FieldDef.{FieldDef}
use Rattle.std.specs.Prelude.{IsErr}
use Rattle.nt_meta.specs.Reading.{Part, text_at, fields_at}
use Rattle.nt_meta.proofs.FieldSteps.{stops_at_code, field_coded, coded_refused, Going, going_start, going_step, going_end, Holds, holds_none, holds_object, field_adds, stops_inside, stops_at_name, stops_among, bad_part}
use Rattle.nt_meta.proofs.cursor.Cursor.+fields.Goals as goal
use Rattle.nt_meta.proofs.cursor.Cursor.+fields.Goals.{field-then-code-eq-OBJECT_CODE+in_ok-count+in_ok-fields, field-else-code-eq-OBJECT_CODE, field-After-text}

-- The fields inside the field, where it is an object, and none where it is not.
holds : (t : _) (c : field-After-text t) → Holds c.args.depth c.in_ok-code.code c.number.new.self.rest.now c.push.new.self.items c.if-code-eq-OBJECT_CODE.self.rest.now c.if-code-eq-OBJECT_CODE.fields.items
holds t c =
    elim c.if-code-eq-OBJECT_CODE.branch [
      | field-then-code-eq-OBJECT_CODE+in_ok-count+in_ok-fields w ↦
          rw (w.self-is, w.fields-is)
          (holds_object c.args.depth c.in_ok-code.code w.in_ok-count.count c.number.new.self.rest.now w.number-then-code-eq-OBJECT_CODE.new.self.rest.now c.push.new.self.items w.fields.new.self.rest.now w.fields.new.fields.items (eq-eqb c.in_ok-code.code 1 w.if-code-eq-OBJECT_CODE.true) w.in_ok-count.ensures w.in_ok-fields.ensures)
      | field-else-code-eq-OBJECT_CODE w ↦
          rw (w.self-is, w.fields-is) (holds_none c.args.depth c.in_ok-code.code c.number.new.self.rest.now c.push.new.self.items (ne_eqb c.in_ok-code.code 1 w.if-code-eq-OBJECT_CODE.false))
    ]

pub field-returns-in_err-code : goal.field-returns-in_err-code
field-returns-in_err-code t c =
    let p = err_from_is_err_and c.from_residual-in_err-code.result c.from_residual-in_err-code.ensures.1 in
    rw (p.1, p.2)
    (stops_at_code c.in_err-code.field-0.0 c.args.depth c.args.self.now.rest.now c.args.fields.now.items c.number.new.self.rest.now c.args.fields.now.items
    (λ bad more. subst (λ (p : Part (List FieldDef)). IsErr p) (sym (field_coded (fields_at more) c.args.depth c.in_ok-number.field-0 c.args.self.now.rest.now c.number.new.self.rest.now c.in_ok-number.ensures))
    (coded_refused (fields_at more) c.args.depth c.in_ok-number.field-0 c.number.new.self.rest.now c.in_err-code.ensures)))

pub field-returns-in_err-fields : goal.field-returns-in_err-fields
field-returns-in_err-fields t c =
    let p = err_from_is_err_and c.from_residual-in_err-fields.result c.from_residual-in_err-fields.ensures.1 in
    rw (p.1, p.2)
    (stops_inside c.in_err-fields.field-0.0 c.args.depth c.in_ok-number.field-0 c.in_ok-code.code c.in_ok-count.count c.args.self.now.rest.now c.number.new.self.rest.now c.number-then-code-eq-OBJECT_CODE.new.self.rest.now c.args.fields.now.items c.fields.new.self.rest.now c.fields.new.fields.items c.push.new.self.items c.fields.new.fields.items c.fields.new.self.rest.now
    c.in_ok-number.ensures c.in_ok-code.ensures.0 c.in_ok-code.ensures.1 c.in_ok-code.ensures.2 (eq-eqb c.in_ok-code.code 1 c.if-code-eq-OBJECT_CODE.true) c.in_ok-count.ensures c.in_err-fields.ensures)

pub field-returns-in_err-name : goal.field-returns-in_err-name
field-returns-in_err-name t c =
    let inside = holds t (goal.at.field-returns-in_err-name t c).After-text in
    let p = err_from_is_err_and c.from_residual-in_err-name.result c.from_residual-in_err-name.ensures.1 in
    rw (p.1, p.2)
    (stops_at_name c.in_err-name.field-0.0 c.args.depth c.in_ok-number.field-0 c.in_ok-code.code c.args.self.now.rest.now c.number.new.self.rest.now c.args.fields.now.items c.if-code-eq-OBJECT_CODE.self.rest.now c.text.new.self.rest.now c.push.new.self.items c.if-code-eq-OBJECT_CODE.fields.items c.if-code-eq-OBJECT_CODE.fields.items
    c.in_ok-number.ensures c.in_ok-code.ensures.0 c.in_ok-code.ensures.1 c.in_ok-code.ensures.2 inside (bad_part (text_at c.if-code-eq-OBJECT_CODE.self.rest.now) c.in_err-name.field-0.0 c.text.new.self.rest.now c.in_err-name.ensures))

pub field-returns : goal.field-returns
field-returns t c =
    let inside = holds t (goal.at.field-returns t c).After-text in
    let first : FieldDef = record { depth = c.args.depth; code = c.in_ok-code.code; name = c.new-2.result } in
    field_adds c.args.depth c.in_ok-number.field-0 c.in_ok-code.code c.args.self.now.rest.now c.number.new.self.rest.now c.args.fields.now.items c.if-code-eq-OBJECT_CODE.self.rest.now c.text.new.self.rest.now c.in_ok-name.name c.push.new.self.items c.if-code-eq-OBJECT_CODE.fields.items c.len-place.result first c.index_mut.result.now
    c.in_ok-number.ensures c.in_ok-code.ensures.0 c.in_ok-code.ensures.1 c.in_ok-code.ensures.2
    c.in_ok-push.ensures.items refl refl (c.len-place.ensures ∙ c.args.fields.now.ok.0) inside c.in_ok-name.ensures c.index_mut.ensures.value

pub fields-loop-init : goal.fields-loop-init
fields-loop-init t c =
    let all : c.args.count ≡ c.args.count - 0 = omega arith in
    subst (λ (n : ℕ). Going c.args.depth c.args.count c.args.self.now.rest.now c.args.fields.now.items n c.args.self.now.rest.now c.args.fields.now.items) all
    (going_start c.args.depth c.args.count c.args.self.now.rest.now c.args.fields.now.items)

pub fields-returns-in_err-field : goal.fields-returns-in_err-field
fields-returns-in_err-field t c =
    let p = err_from_is_err_and c.from_residual.result c.from_residual.ensures.1 in
    let some : c.args.count - c.loop.counter ≡ suc (c.args.count - (c.loop.counter + 1)) = omega arith in
    let going : Going c.args.depth c.args.count c.args.self.now.rest.now c.args.fields.now.items (suc (c.args.count - (c.loop.counter + 1))) c.loop.self.rest.now c.loop.fields.items = subst (λ (n : ℕ). Going c.args.depth c.args.count c.args.self.now.rest.now c.args.fields.now.items n c.loop.self.rest.now c.loop.fields.items) some c.loop.invariant in
    rw (p.1, p.2)
    (stops_among c.in_err-field.field-0.0 c.args.depth c.args.count c.args.self.now.rest.now c.args.fields.now.items (c.args.count - (c.loop.counter + 1)) c.loop.self.rest.now c.loop.fields.items c.field.new.self.rest.now c.field.new.fields.items c.field.new.self.rest.now c.field.new.fields.items going c.in_err-field.ensures)

pub fields-loop-preserved : goal.fields-loop-preserved
fields-loop-preserved t c =
    let some : c.args.count - c.loop.counter ≡ suc (c.args.count - (c.loop.counter + 1)) = omega arith in
    let going : Going c.args.depth c.args.count c.args.self.now.rest.now c.args.fields.now.items (suc (c.args.count - (c.loop.counter + 1))) c.loop.self.rest.now c.loop.fields.items = subst (λ (n : ℕ). Going c.args.depth c.args.count c.args.self.now.rest.now c.args.fields.now.items n c.loop.self.rest.now c.loop.fields.items) some c.loop.invariant in
    going_step c.args.depth c.args.count c.args.self.now.rest.now c.args.fields.now.items (c.args.count - (c.loop.counter + 1)) c.loop.self.rest.now c.field.new.self.rest.now c.loop.fields.items c.field.new.fields.items going c.in_ok-field.ensures

pub fields-returns : goal.fields-returns
fields-returns t c =
    let none : c.args.count - c.loop.counter ≡ 0 = omega arith in
    going_end c.args.depth c.args.count c.args.self.now.rest.now c.args.fields.now.items c.loop.self.rest.now c.loop.fields.items
    (subst (λ (n : ℕ). Going c.args.depth c.args.count c.args.self.now.rest.now c.args.fields.now.items n c.loop.self.rest.now c.loop.fields.items) none c.loop.invariant)
