use Rattle.std.proofs.Common.{rules}
use Rattle.ep_guarded.specs.Tied.{thread_of}
use Rattle.pt_roles.proofs.drafts.thread_of.Goals as goal

pub returns : goal.returns
unfolding thread_of
returns c = search rules
