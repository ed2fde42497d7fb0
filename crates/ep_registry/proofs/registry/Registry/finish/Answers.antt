use Rattle.ep_registry.proofs.Leaves.{none-on}
use Rattle.ep_registry.proofs.registry.Registry.finish.Goals as goal

pub meet_waiting-requires-clause-none : goal.meet_waiting-requires-clause-none
meet_waiting-requires-clause-none g c =
    let met = rw c.meet_mark.ensures.same.1 at c.meet_roles.ensures.met in
    none-on _ c.args.roles.items c.self.invariant.tied c.requires.roles met

pub finish-decisions-requires : goal.finish-decisions-requires
finish-decisions-requires g c =
    let met = rw c.meet_mark.ensures.same.1 at c.meet_roles.ensures.met in
    none-on _ c.args.roles.items c.self.invariant.tied c.requires.roles met

pub returns-clause-over : goal.returns-clause-over
returns-clause-over g c = rw (c.into_places.ensures, c.finish-decisions.ensures.same.1) c.self.invariant.over

pub returns-clause-none_waits : goal.returns-clause-none_waits
returns-clause-none_waits g c = rw (← c.self.view_is) c.meet_waiting.ensures
