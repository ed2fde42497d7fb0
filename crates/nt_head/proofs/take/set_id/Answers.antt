use Rattle.std.proofs.Common.{◌≡◌, true, sym, ◌∙◌, arith}
use Rattle.nt_head.specs.Reading.{has_flag}
use Rattle.nt_head.proofs.Steps.{field_read, id_read}
use Rattle.nt_head.proofs.take.set_id.Goals as goal

pub returns-clause-ok : goal.returns-clause-ok
returns-clause-ok c =
    let set : has_flag c.args.worth c.args.flags ≡ true = sym c.has_flag.ensures ∙ c.if-not-has_flag.false in
    field_read _ _ _ _ _ _ _ set
    (id_read c.args.bytes.now c.copy_from_slice.new.self c.args.at.now (omega arith) c.copy_from_slice.ensures.after)
