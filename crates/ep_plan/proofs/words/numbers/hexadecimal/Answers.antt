use Rattle.std.proofs.Common.{◌∙◌}
use Rattle.ep_plan.proofs.Numerals.{at_most-hex}
use Rattle.ep_plan.proofs.words.numbers.hexadecimal.Goals as goal

pub returns : goal.returns
returns c = c.numeral.ensures ∙ at_most-hex c.args.word.now
