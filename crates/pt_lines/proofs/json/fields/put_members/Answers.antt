-- A field and those after it.
use Rattle.std.proofs.Common.{ℕ, ◌+◌, List, ◌∷◌, drop, sym, ◌∙◌, subst}
use Rattle.std.proofs.lemmas.List.{drop_all}
use Rattle.pt_num.proofs.Joined.{rest_is}
use Rattle.ep_defs.specs.declared.event.FieldDef.{FieldDef}
use Rattle.pt_lines.proofs.Going.{at-field}
use Rattle.pt_lines.proofs.Members.{Membering, membering-none, membering-on, members-misfit, members-over, members-all}
use Rattle.pt_lines.proofs.json.fields.put_members.Goals as goal

pub loop-field-init : goal.loop-field-init
loop-field-init c = membering-none c.args.fields.now c.args.payload.now c.args.out.now.items c.args.nest.now c.requires

pub returns-in_default : goal.returns-in_default
returns-in_default c =
    let fields = c.args.fields.now in
    let index = c.loop-field.field-index in
    let field = c.field-item.result in
    let none = rw c.in_default.is at c.in_ok-used.ensures in
    let before = at-field (λ (left : List FieldDef). Membering fields c.args.payload.now c.args.out.now.items left c.loop-field.bytes.now c.loop-field.nest c.loop-field.out.items) fields index field c.loop-field-test.true c.field-item.is c.loop-field.invariant in
    members-misfit fields c.args.payload.now c.args.out.now.items (field ∷ drop (index + 1) fields) c.loop-field.bytes.now c.loop-field.nest c.put_next.new.out.items
    (rw none.2 before)
    (none.0 (drop (index + 1) fields))

pub loop-field-preserved : goal.loop-field-preserved
loop-field-preserved c =
    let fields = c.args.fields.now in
    let index = c.loop-field.field-index in
    let field = c.field-item.result in
    let used = c.in-Some.used in
    let put = rw c.in-Some.is at c.in_ok-used.ensures in
    let before = at-field (λ (left : List FieldDef). Membering fields c.args.payload.now c.args.out.now.items left c.loop-field.bytes.now c.loop-field.nest c.loop-field.out.items) fields index field c.loop-field-test.true c.field-item.is c.loop-field.invariant in
    let after = membering-on fields c.args.payload.now c.args.out.now.items field (drop (index + 1) fields) c.loop-field.bytes.now (drop used c.loop-field.bytes.now) c.loop-field.nest c.put_next.new.nest c.loop-field.out.items c.put_next.new.out.items put.1.kind put.0
    before put.1.known put.1.read (put.2, put.3, put.4) in
    subst (λ (next : List ℕ). Membering fields c.args.payload.now c.args.out.now.items (drop (index + 1) fields) next c.put_next.new.nest c.put_next.new.out.items) (sym (rest_is used c.loop-field.bytes.now)) after

pub returns-then-not-is_empty : goal.returns-then-not-is_empty
returns-then-not-is_empty c =
    let fields = c.args.fields.now in
    let none = drop_all c.loop-field.field-index fields c.loop-field-test.false in
    members-over fields c.args.payload.now c.args.out.now.items c.loop-field.bytes.now c.loop-field.nest c.loop-field.out.items
    (subst (λ (left : List FieldDef). Membering fields c.args.payload.now c.args.out.now.items left c.loop-field.bytes.now c.loop-field.nest c.loop-field.out.items) none c.loop-field.invariant)
    (sym c.is_empty.ensures ∙ c.if-not-is_empty.true)

pub returns : goal.returns
returns c =
    let fields = c.args.fields.now in
    let none = drop_all c.loop-field.field-index fields c.loop-field-test.false in
    members-all fields c.args.payload.now c.args.out.now.items c.loop-field.bytes.now c.loop-field.nest c.loop-field.out.items c.close_all.new.out.items
    (subst (λ (left : List FieldDef). Membering fields c.args.payload.now c.args.out.now.items left c.loop-field.bytes.now c.loop-field.nest c.loop-field.out.items) none c.loop-field.invariant)
    (sym c.is_empty.ensures ∙ c.if-not-is_empty.false) c.in_ok-close_all.ensures
