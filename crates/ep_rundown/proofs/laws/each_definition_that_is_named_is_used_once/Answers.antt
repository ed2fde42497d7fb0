use Rattle.ep_rundown.proofs.Used.{used-once, used-named, named-used}
use Rattle.ep_rundown.proofs.laws.each_definition_that_is_named_is_used_once.Goals as goal

pub returns-clause-named : goal.returns-clause-named
returns-clause-named c entries def = (used-named entries def, named-used entries def)

pub returns-clause-once : goal.returns-clause-once
returns-clause-once c = used-once
