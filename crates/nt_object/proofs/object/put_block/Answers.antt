use Rattle.nt_object.proofs.Sizes.{block_size}
use Rattle.nt_object.proofs.object.put_block.Goals as goal

pub returns-then-is_err-clause-size : goal.returns-then-is_err-clause-size
returns-then-is_err-clause-size c = block_size c.args.at c.args.kind c.args.body.now

pub returns-else-is_err-clause-size : goal.returns-else-is_err-clause-size
returns-else-is_err-clause-size c = block_size c.args.at c.args.kind c.args.body.now
