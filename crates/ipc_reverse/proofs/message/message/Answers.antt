-- The pieces of the message, each at its place.
use Rattle.std.proofs.Common.{refl, rules}
use Rattle.pt_num.specs.Numbers.{fixed}
use Rattle.ipc_reverse.proofs.Back.{read_back}
use Rattle.ipc_reverse.proofs.message.message.Goals as goal

pub returns-clause-bytes : goal.returns-clause-bytes
unfolding fixed
returns-clause-bytes c = rw (c.write_u64.ensures, c.copy_from_slice.ensures.after, c.copy_from_slice-2.ensures.after) refl

pub returns-clause-back : goal.returns-clause-back
unfolding fixed
returns-clause-back c = λ after.
    rw (c.write_u64.ensures, c.copy_from_slice.ensures.after, c.copy_from_slice-2.ensures.after)
    (read_back c.args.cookie c.args.process_id after (search rules) (search rules))
