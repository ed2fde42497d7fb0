use Rattle.std.proofs.Common.{◌≡◌, true, sym, ◌∙◌}
use Rattle.std.specs.Int.{w32}
use Rattle.pt_num.specs.Fields.{var_at}
use Rattle.nt_head.specs.Reading.{has_flag}
use Rattle.nt_head.proofs.Steps.{field_read, field_stops, stops_answer}
use Rattle.nt_head.proofs.take.set32.Goals as goal

pub returns-in_err-field-clause-stop : goal.returns-in_err-field-clause-stop
returns-in_err-field-clause-stop c =
    let set : has_flag c.args.worth c.args.flags ≡ true = sym c.has_flag.ensures ∙ c.if-not-has_flag.false in
    stops_answer _ _ _ c.from_residual.ensures.1 (field_stops (var_at w32) c.args.bytes.now c.args.at.now c.in_err-field.field-0.0 (has_flag c.args.worth c.args.flags) set c.in_err-field.ensures.stop)

pub returns-clause-ok : goal.returns-clause-ok
returns-clause-ok c =
    let set : has_flag c.args.worth c.args.flags ≡ true = sym c.has_flag.ensures ∙ c.if-not-has_flag.false in
    field_read _ _ _ _ _ _ _ set c.in_ok-field.ensures.ok
