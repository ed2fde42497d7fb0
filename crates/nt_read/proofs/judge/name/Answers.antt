use Rattle.std.proofs.Common.{sym, ◌∙◌}
use Rattle.std.proofs.lemmas.Bool.{and_right}
use Rattle.nt_read.proofs.Steps.{name-least, name-refused, name-tests, name-turns, name-unknown, name-version}
use Rattle.nt_read.proofs.judge.name.Goals as goal
use Rattle.nt_read.proofs.judge.name.Goals.{then-unit-len-ne-END_OBJECT-via-then-unit-len-ne-END_OBJECT, then-unit-len-ne-END_OBJECT-via-else-unit-len-ne-END_OBJECT+then-not-may_stand}

pub returns-in_default : goal.returns-in_default
returns-in_default c = λ pending.
    rw c.bad.ensures
    (name-unknown c.args.has_trace c.args.len c.args.version c.args.least c.args.at pending c.args.unit.now c.requires (sym c.kind_named.ensures ∙ c.in_default.is))

pub returns-then-unit-len-ne-END_OBJECT : goal.returns-then-unit-len-ne-END_OBJECT
returns-then-unit-len-ne-END_OBJECT c = λ pending.
    rw c.bad-then-unit-len-ne-END_OBJECT.ensures
    (name-refused c.args.has_trace c.args.len c.args.version c.args.least c.args.at pending c.args.unit.now c.in-Some.kind c.requires (sym c.kind_named.ensures ∙ c.in-Some.is)
    (elim c.then-unit-len-ne-END_OBJECT.branch [
      | then-unit-len-ne-END_OBJECT-via-then-unit-len-ne-END_OBJECT w ↦ name-tests c.args.has_trace c.args.len c.args.unit.now c.in-Some.kind c.requires w.if-unit-len-ne-END_OBJECT.true
      | then-unit-len-ne-END_OBJECT-via-else-unit-len-ne-END_OBJECT+then-not-may_stand w ↦ and_right _ _ (sym w.may_stand.ensures ∙ w.if-not-may_stand.true)
    ]))

pub returns-then-version-version_of : goal.returns-then-version-version_of
returns-then-version-version_of c = λ pending.
    rw c.bad-then-version-version_of.ensures
    (name-version c.args.has_trace c.args.len c.args.version c.args.least c.args.at pending c.args.unit.now c.in-Some.kind c.requires (sym c.kind_named.ensures ∙ c.in-Some.is) c.if-unit-len-ne-END_OBJECT.false (sym c.may_stand.ensures ∙ c.if-not-may_stand.false) (rw c.version_of.ensures at c.if-version-version_of.true))

pub returns-then-least-version_of : goal.returns-then-least-version_of
returns-then-least-version_of c = λ pending.
    rw c.bad-then-least-version_of.ensures
    (name-least c.args.has_trace c.args.len c.args.version c.args.least c.args.at pending c.args.unit.now c.in-Some.kind c.requires (sym c.kind_named.ensures ∙ c.in-Some.is) c.if-unit-len-ne-END_OBJECT.false (sym c.may_stand.ensures ∙ c.if-not-may_stand.false) (c.if-version-version_of.false ∙ c.version_of.ensures) (rw c.version_of-2.ensures at c.if-least-version_of.true))

pub returns : goal.returns
returns c = λ pending.
    rw c.payload.ensures
    (name-turns c.args.has_trace c.args.len c.args.version c.args.least c.args.at pending c.args.unit.now c.in-Some.kind c.requires (sym c.kind_named.ensures ∙ c.in-Some.is) c.if-unit-len-ne-END_OBJECT.false (sym c.may_stand.ensures ∙ c.if-not-may_stand.false) (c.if-version-version_of.false ∙ c.version_of.ensures) (c.if-least-version_of.false ∙ c.version_of-2.ensures))
