use Rattle.nt_head.proofs.PutHeads.{nothing_new, two_put}
use Rattle.nt_head.proofs.put.push_usual.Goals as goal

pub returns-clause-items : goal.returns-clause-items
returns-clause-items c =
    two_put _ _ _ _ _ _ c.push_reserved.ensures.items c.push_stamp.ensures.items c.flag.ensures.value
    (nothing_new c.args.previous.now c.args.now.now c.requires.usual)
