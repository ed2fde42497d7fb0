use Rattle.std.proofs.Common.{ap}
use Rattle.ep_defs.specs.Gaps.{missing, last_number}
use Rattle.nt_blocks.specs.Ordered.{no_names, kinds_of}
use Rattle.nt_blocks.proofs.Seeing.{told-seen}
use Rattle.nt_blocks.proofs.laws.items_have_the_gaps_of_their_entries.Goals as goal

pub returns-clause-gaps : goal.returns-clause-gaps
returns-clause-gaps c = λ thread items entries told. ap (missing 0) (told-seen thread no_names (kinds_of items) entries told)

pub returns-clause-last : goal.returns-clause-last
returns-clause-last c = λ thread items entries told. ap (last_number 0) (told-seen thread no_names (kinds_of items) entries told)
