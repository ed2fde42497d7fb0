use Rattle.std.proofs.Common.{sym, ◌∙◌}
use Rattle.std.proofs.lemmas.Result.{err_from_is_err_and}
use Rattle.std.specs.Int.{w32}
use Rattle.nt_meta.specs.Reading.{number_at, def_at}
use Rattle.nt_meta.proofs.FieldSteps.{bad_part}
use Rattle.nt_meta.proofs.DefSteps.{meta_id, meta_range, meta_def, meta_read}
use Rattle.nt_meta.proofs.cursor.Cursor.meta.Goals as goal

pub returns-in_err-id : goal.returns-in_err-id
returns-in_err-id c =
    let p = err_from_is_err_and c.from_residual.result c.from_residual.ensures.1 in
    rw (p.1, p.2) (λ bad. meta_id c.args.self.now.rest.now (bad_part (number_at w32 c.args.self.now.rest.now) c.in_err-id.field-0.0 c.number.new.self.rest.now c.in_err-id.ensures bad))

pub returns-then-not-is_id : goal.returns-then-not-is_id
returns-then-not-is_id c =
    λ bad. meta_range c.args.self.now.rest.now c.number.new.self.rest.now c.in_ok-id.id c.in_ok-id.ensures (sym c.is_id.ensures ∙ c.if-not-is_id.true)

pub returns-in_err-def : goal.returns-in_err-def
returns-in_err-def c =
    let p = err_from_is_err_and c.from_residual-in_err-def.result c.from_residual-in_err-def.ensures.1 in
    rw (p.1, p.2)
    (λ bad. meta_def c.args.self.now.rest.now c.number.new.self.rest.now c.in_ok-id.id c.in_ok-id.ensures (sym c.is_id.ensures ∙ c.if-not-is_id.false) (bad_part (def_at c.number.new.self.rest.now) c.in_err-def.field-0.0 c.definition.new.self.rest.now c.in_err-def.ensures bad))

pub returns : goal.returns
returns c =
    meta_read c.args.self.now.rest.now c.number.new.self.rest.now c.definition.new.self.rest.now c.in_ok-id.id c.in_ok-def.def c.in_ok-id.ensures (sym c.is_id.ensures ∙ c.if-not-is_id.false) c.in_ok-def.ensures
