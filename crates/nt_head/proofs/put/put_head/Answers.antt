use Rattle.nt_head.proofs.Heads.{written-is, head-len}
use Rattle.nt_head.proofs.put.put_head.Goals as goal

pub returns-in_err-reserve-clause-few : goal.returns-in_err-reserve-clause-few
returns-in_err-reserve-clause-few c = head-len c.args.previous.now c.args.now.now c.state_fits-2.ensures

pub returns-in_err-reserve-clause-form : goal.returns-in_err-reserve-clause-form
returns-in_err-reserve-clause-form c = written-is c.args.previous.now c.args.now.now c.state_fits.ensures c.state_fits-2.ensures c.requires

pub returns-clause-few : goal.returns-clause-few
returns-clause-few c = head-len c.args.previous.now c.args.now.now c.state_fits-2.ensures

pub returns-clause-form : goal.returns-clause-form
returns-clause-form c = written-is c.args.previous.now c.args.now.now c.state_fits.ensures c.state_fits-2.ensures c.requires
