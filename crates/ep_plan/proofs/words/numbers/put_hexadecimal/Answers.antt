use Rattle.std.proofs.Common.{rules}
use Rattle.ep_plan.specs.Words.{hex_text}
use Rattle.ep_plan.proofs.words.numbers.put_hexadecimal.Goals as goal

pub returns : goal.returns
unfolding hex_text
returns c = search rules
