use Rattle.nt_meta.proofs.Definitions.{is-payload, short-payload}
use Rattle.nt_meta.proofs.put.put_meta.Goals as goal

pub returns-then-is_err-clause-form : goal.returns-then-is_err-clause-form
returns-then-is_err-clause-form c =
    is-payload c.args.id c.args.def.now c.requires.valid (c.event_fits.ensures c.requires.valid) c.requires.not_zero c.requires.id_fits

pub returns-then-is_err-clause-short : goal.returns-then-is_err-clause-short
returns-then-is_err-clause-short c = short-payload c.args.id c.args.def.now c.requires.valid

pub returns-else-is_err-clause-form : goal.returns-else-is_err-clause-form
returns-else-is_err-clause-form c =
    is-payload c.args.id c.args.def.now c.requires.valid (c.event_fits.ensures c.requires.valid) c.requires.not_zero c.requires.id_fits

pub returns-else-is_err-clause-short : goal.returns-else-is_err-clause-short
returns-else-is_err-clause-short c = short-payload c.args.id c.args.def.now c.requires.valid
