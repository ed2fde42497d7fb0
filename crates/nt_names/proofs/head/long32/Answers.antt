use Rattle.pt_num.specs.Fields.{TooWide}
use Rattle.pt_num.proofs.Joined.{rest_is}
use Rattle.nt_names.proofs.head.long32.Goals as goal

pub returns-in-TooWide-clause-none : goal.returns-in-TooWide-clause-none
returns-in-TooWide-clause-none c = λ none. (TooWide _, rw (rest_is c.args.at c.args.bytes.now) at c.in-TooWide.ensures.read)
