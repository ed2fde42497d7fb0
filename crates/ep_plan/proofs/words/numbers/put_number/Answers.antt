use Rattle.std.proofs.Common.{rules}
use Rattle.ep_plan.specs.Words.{number_text}
use Rattle.ep_plan.proofs.words.numbers.put_number.Goals as goal

pub returns : goal.returns
unfolding number_text
returns c = search rules
