-- Where the words found no memory nothing was touched.
use Rattle.pt_cli.proofs.Nothing.{plain-nothing}
use Rattle.pt_cli.proofs.waitless.answer.Goals as goal

pub returns-in-Err-clause-comes : goal.returns-in-Err-clause-comes
returns-in-Err-clause-comes g c = plain-nothing g.I.Source g.O.Sink _ c.args.input.now c.args.output.now
