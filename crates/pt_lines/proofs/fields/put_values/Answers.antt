-- A field and those after it.
use Rattle.std.proofs.Common.{ℕ, ◌+◌, List, ◌∷◌, ◌++◌, drop, sym, ◌∙◌, subst, refl}
use Rattle.std.proofs.lemmas.List.{drop_all}
use Rattle.pt_num.proofs.Joined.{rest_is}
use Rattle.ep_defs.specs.declared.event.FieldDef.{FieldDef}
use Rattle.pt_lines.specs.Texts.{field_name}
use Rattle.pt_lines.proofs.Going.{Going, at-field, going-on, ends-misfit, ends-over, ends-all}
use Rattle.pt_lines.proofs.fields.put_values.Goals as goal

pub returns-in_default : goal.returns-in_default
returns-in_default c =
    let fields = c.args.fields.now in
    let index = c.loop-field.field-index in
    let field = c.field-item.result in
    let before = at-field (λ (left : List FieldDef). Going fields c.args.payload.now c.args.out.now.items left c.loop-field.bytes.now c.loop-field.opened c.loop-field.out.items) fields index field c.loop-field-test.true c.field-item.is c.loop-field.invariant in
    let none = rw c.in_default.is at c.in_ok-used.ensures in
    ends-misfit fields c.args.payload.now c.args.out.now.items (field ∷ drop (index + 1) fields) c.loop-field.bytes.now c.loop-field.opened c.put_field.new.out.items
    (rw none.1 before)
    (none.0 (drop (index + 1) fields))

pub loop-field-preserved : goal.loop-field-preserved
loop-field-preserved c =
    let fields = c.args.fields.now in
    let index = c.loop-field.field-index in
    let field = c.field-item.result in
    let used = c.in-Some.used in
    let put = rw c.in-Some.is at c.in_ok-used.ensures in
    let before = at-field (λ (left : List FieldDef). Going fields c.args.payload.now c.args.out.now.items left c.loop-field.bytes.now c.loop-field.opened c.loop-field.out.items) fields index field c.loop-field-test.true c.field-item.is c.loop-field.invariant in
    let after = going-on fields c.args.payload.now c.args.out.now.items field (drop (index + 1) fields) c.loop-field.bytes.now (drop used c.loop-field.bytes.now) c.loop-field.opened c.loop-field.out.items (c.loop-field.out.items ++ field_name c.loop-field.opened field) c.put_field.new.out.items put.1.kind put.0
    before put.1.known put.1.read refl put.2 in
    subst (λ (next : List ℕ). Going fields c.args.payload.now c.args.out.now.items (drop (index + 1) fields) next c.open_after-opened.result c.put_field.new.out.items) (sym (rest_is used c.loop-field.bytes.now))
    (subst (λ (n : ℕ). Going fields c.args.payload.now c.args.out.now.items (drop (index + 1) fields) (drop used c.loop-field.bytes.now) n c.put_field.new.out.items) (sym c.open_after-opened.ensures) after)

pub returns-then-not-is_empty : goal.returns-then-not-is_empty
returns-then-not-is_empty c =
    let fields = c.args.fields.now in
    let none = drop_all c.loop-field.field-index fields c.loop-field-test.false in
    ends-over fields c.args.payload.now c.args.out.now.items c.loop-field.bytes.now c.loop-field.opened c.loop-field.out.items
    (subst (λ (left : List FieldDef). Going fields c.args.payload.now c.args.out.now.items left c.loop-field.bytes.now c.loop-field.opened c.loop-field.out.items) none c.loop-field.invariant)
    (sym c.is_empty.ensures ∙ c.if-not-is_empty.true)

pub returns : goal.returns
returns c =
    let fields = c.args.fields.now in
    let none = drop_all c.loop-field.field-index fields c.loop-field-test.false in
    ends-all fields c.args.payload.now c.args.out.now.items c.loop-field.bytes.now c.loop-field.opened c.loop-field.out.items c.put_closes.new.out.items
    (subst (λ (left : List FieldDef). Going fields c.args.payload.now c.args.out.now.items left c.loop-field.bytes.now c.loop-field.opened c.loop-field.out.items) none c.loop-field.invariant)
    (sym c.is_empty.ensures ∙ c.if-not-is_empty.false) c.in_ok-put_closes.ensures
