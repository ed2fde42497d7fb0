use Rattle.std.proofs.Common.{◌∙◌, sym}
use Rattle.nt_head.proofs.Heads.{written-is, head-len}
use Rattle.nt_head.proofs.PutHeads.{nothing_else}
use Rattle.nt_head.proofs.put.push_next.Goals as goal

pub returns-then-says_nothing_new-clause-few : goal.returns-then-says_nothing_new-clause-few
returns-then-says_nothing_new-clause-few c = head-len c.args.last.now c.args.now.now c.state_fits-2.ensures

pub returns-then-says_nothing_new-clause-form : goal.returns-then-says_nothing_new-clause-form
returns-then-says_nothing_new-clause-form c = written-is c.args.last.now c.args.now.now c.state_fits.ensures c.state_fits-2.ensures c.requires.keeps

pub returns-then-says_nothing_new-clause-last : goal.returns-then-says_nothing_new-clause-last
returns-then-says_nothing_new-clause-last c = nothing_else c.args.last.now c.args.now.now (sym c.says_nothing_new.ensures ∙ c.if-says_nothing_new.true)

pub returns-else-says_nothing_new-clause-few : goal.returns-else-says_nothing_new-clause-few
returns-else-says_nothing_new-clause-few c = head-len c.args.last.now c.args.now.now c.state_fits-2.ensures

pub returns-else-says_nothing_new-clause-form : goal.returns-else-says_nothing_new-clause-form
returns-else-says_nothing_new-clause-form c = written-is c.args.last.now c.args.now.now c.state_fits.ensures c.state_fits-2.ensures c.requires.keeps
