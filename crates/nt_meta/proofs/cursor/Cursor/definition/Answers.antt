use Rattle.std.proofs.Common.{◌≡◌, List, ◌++◌, length, ap, ◌∙◌, arith}
use Rattle.ep_defs.specs.declared.event.FieldDef.{FieldDef}
use Rattle.std.proofs.lemmas.Result.{err_from_is_err_and}
use Rattle.std.specs.Int.{w32, w64}
use Rattle.nt_meta.specs.Reading.{number_at, text_at, def_at}
use Rattle.nt_meta.specs.state.Cursor.{AddsFields}
use Rattle.nt_meta.proofs.FieldSteps.{bad_part, ends_early, bad_fields}
use Rattle.nt_meta.proofs.DefSteps.{def_provider, def_id, def_name, def_keywords, def_version, def_level, def_count, def_fields, def_read}
use Rattle.nt_meta.proofs.cursor.Cursor.definition.Goals as goal

pub returns-in_err-provider : goal.returns-in_err-provider
returns-in_err-provider c =
    let p = err_from_is_err_and c.from_residual.result c.from_residual.ensures.1 in
    rw (p.1, p.2)
    (ends_early (def_at c.args.self.now.rest.now) c.in_err-provider.field-0.0 c.text.new.self.rest.now
    (λ bad. def_provider c.args.self.now.rest.now (bad_part (text_at c.args.self.now.rest.now) c.in_err-provider.field-0.0 c.text.new.self.rest.now c.in_err-provider.ensures bad)))

pub returns-in_err-id : goal.returns-in_err-id
returns-in_err-id c =
    let p = err_from_is_err_and c.from_residual-in_err-id.result c.from_residual-in_err-id.ensures.1 in
    rw (p.1, p.2)
    (ends_early (def_at c.args.self.now.rest.now) c.in_err-id.field-0.0 c.number.new.self.rest.now
    (λ bad. def_id c.args.self.now.rest.now c.text.new.self.rest.now c.in_ok-provider.provider c.in_ok-provider.ensures (bad_part (number_at w32 c.text.new.self.rest.now) c.in_err-id.field-0.0 c.number.new.self.rest.now c.in_err-id.ensures bad)))

pub returns-in_err-name : goal.returns-in_err-name
returns-in_err-name c =
    let p = err_from_is_err_and c.from_residual-in_err-name.result c.from_residual-in_err-name.ensures.1 in
    rw (p.1, p.2)
    (ends_early (def_at c.args.self.now.rest.now) c.in_err-name.field-0.0 c.text-2.new.self.rest.now
    (λ bad. def_name c.args.self.now.rest.now c.text.new.self.rest.now c.number.new.self.rest.now c.in_ok-provider.provider c.in_ok-id.id c.in_ok-provider.ensures c.in_ok-id.ensures (bad_part (text_at c.number.new.self.rest.now) c.in_err-name.field-0.0 c.text-2.new.self.rest.now c.in_err-name.ensures bad)))

pub returns-in_err-keywords : goal.returns-in_err-keywords
returns-in_err-keywords c =
    let p = err_from_is_err_and c.from_residual-in_err-keywords.result c.from_residual-in_err-keywords.ensures.1 in
    rw (p.1, p.2)
    (ends_early (def_at c.args.self.now.rest.now) c.in_err-keywords.field-0.0 c.long_number.new.self.rest.now
    (λ bad. def_keywords c.args.self.now.rest.now c.text.new.self.rest.now c.number.new.self.rest.now c.text-2.new.self.rest.now c.in_ok-provider.provider c.in_ok-name.name c.in_ok-id.id c.in_ok-provider.ensures c.in_ok-id.ensures c.in_ok-name.ensures (bad_part (number_at w64 c.text-2.new.self.rest.now) c.in_err-keywords.field-0.0 c.long_number.new.self.rest.now c.in_err-keywords.ensures bad)))

pub returns-in_err-version : goal.returns-in_err-version
returns-in_err-version c =
    let p = err_from_is_err_and c.from_residual-in_err-version.result c.from_residual-in_err-version.ensures.1 in
    rw (p.1, p.2)
    (ends_early (def_at c.args.self.now.rest.now) c.in_err-version.field-0.0 c.number-2.new.self.rest.now
    (λ bad. def_version c.args.self.now.rest.now c.text.new.self.rest.now c.number.new.self.rest.now c.text-2.new.self.rest.now c.long_number.new.self.rest.now c.in_ok-provider.provider c.in_ok-name.name c.in_ok-id.id c.in_ok-keywords.keywords c.in_ok-provider.ensures c.in_ok-id.ensures c.in_ok-name.ensures c.in_ok-keywords.ensures (bad_part (number_at w32 c.long_number.new.self.rest.now) c.in_err-version.field-0.0 c.number-2.new.self.rest.now c.in_err-version.ensures bad)))

pub returns-in_err-level : goal.returns-in_err-level
returns-in_err-level c =
    let p = err_from_is_err_and c.from_residual-in_err-level.result c.from_residual-in_err-level.ensures.1 in
    rw (p.1, p.2)
    (ends_early (def_at c.args.self.now.rest.now) c.in_err-level.field-0.0 c.number-3.new.self.rest.now
    (λ bad. def_level c.args.self.now.rest.now c.text.new.self.rest.now c.number.new.self.rest.now c.text-2.new.self.rest.now c.long_number.new.self.rest.now c.number-2.new.self.rest.now c.in_ok-provider.provider c.in_ok-name.name c.in_ok-id.id c.in_ok-keywords.keywords c.in_ok-version.version c.in_ok-provider.ensures c.in_ok-id.ensures c.in_ok-name.ensures c.in_ok-keywords.ensures c.in_ok-version.ensures (bad_part (number_at w32 c.number-2.new.self.rest.now) c.in_err-level.field-0.0 c.number-3.new.self.rest.now c.in_err-level.ensures bad)))

pub returns-in_err-count : goal.returns-in_err-count
returns-in_err-count c =
    let p = err_from_is_err_and c.from_residual-in_err-count.result c.from_residual-in_err-count.ensures.1 in
    rw (p.1, p.2)
    (ends_early (def_at c.args.self.now.rest.now) c.in_err-count.field-0.0 c.number-4.new.self.rest.now
    (λ bad. def_count c.args.self.now.rest.now c.text.new.self.rest.now c.number.new.self.rest.now c.text-2.new.self.rest.now c.long_number.new.self.rest.now c.number-2.new.self.rest.now c.number-3.new.self.rest.now c.in_ok-provider.provider c.in_ok-name.name c.in_ok-id.id c.in_ok-keywords.keywords c.in_ok-version.version c.in_ok-level.level c.in_ok-provider.ensures c.in_ok-id.ensures c.in_ok-name.ensures c.in_ok-keywords.ensures c.in_ok-version.ensures c.in_ok-level.ensures (bad_part (number_at w32 c.number-3.new.self.rest.now) c.in_err-count.field-0.0 c.number-4.new.self.rest.now c.in_err-count.ensures bad)))

pub returns-in_err-fields : goal.returns-in_err-fields
returns-in_err-fields c =
    let p = err_from_is_err_and c.from_residual-in_err-fields.result c.from_residual-in_err-fields.ensures.1 in
    rw (p.1, p.2)
    (ends_early (def_at c.args.self.now.rest.now) c.in_err-fields.field-0.0 c.fields.new.self.rest.now
    (λ bad. def_fields c.args.self.now.rest.now c.text.new.self.rest.now c.number.new.self.rest.now c.text-2.new.self.rest.now c.long_number.new.self.rest.now c.number-2.new.self.rest.now c.number-3.new.self.rest.now c.number-4.new.self.rest.now c.in_ok-provider.provider c.in_ok-name.name c.in_ok-id.id c.in_ok-keywords.keywords c.in_ok-version.version c.in_ok-level.level c.in_ok-count.count c.in_ok-provider.ensures c.in_ok-id.ensures c.in_ok-name.ensures c.in_ok-keywords.ensures c.in_ok-version.ensures c.in_ok-level.ensures c.in_ok-count.ensures (bad_fields c.in_err-fields.field-0.0 0 c.in_ok-count.count c.number-4.new.self.rest.now c.new-fields.result.items c.fields.new.self.rest.now c.fields.new.fields.items c.in_err-fields.ensures bad)))

pub returns : goal.returns
returns c =
    let adds : AddsFields 0 c.in_ok-count.count c.number-4.new.self.rest.now c.new-fields.result.items c.fields.new.self.rest.now c.fields.new.fields.items = c.in_ok-fields.ensures in
    let all : c.new.result ≡ adds.fields = c.new.ensures ∙ adds.added ∙ ap (λ (front : List FieldDef). front ++ adds.fields) c.new-fields.ensures.items in
    def_read c.args.self.now.rest.now c.text.new.self.rest.now c.number.new.self.rest.now c.text-2.new.self.rest.now c.long_number.new.self.rest.now c.number-2.new.self.rest.now c.number-3.new.self.rest.now c.number-4.new.self.rest.now c.fields.new.self.rest.now c.in_ok-provider.provider c.in_ok-name.name c.in_ok-id.id c.in_ok-keywords.keywords c.in_ok-version.version c.in_ok-level.level c.in_ok-count.count adds.fields c.new.result
    c.in_ok-provider.ensures c.in_ok-id.ensures c.in_ok-name.ensures c.in_ok-keywords.ensures c.in_ok-version.ensures c.in_ok-level.ensures c.in_ok-count.ensures (adds.read (length c.number-4.new.self.rest.now) (omega arith)) all
