use Rattle.ep_table.proofs.Numbered.{numbered-free, held_bound}
use Rattle.ep_table.proofs.table.Table.free.Goals as goal

pub invariant_of-self : goal.invariant_of-self
invariant_of-self c =
    numbered-free _ c.args.slot c.self.invariant (held_bound c.self.inside.seats c.args.slot (rw (← c.self.view_is) at c.requires))
