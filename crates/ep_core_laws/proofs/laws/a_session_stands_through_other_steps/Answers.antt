use Rattle.ep_core_laws.proofs.Slots.{slot_stays}
use Rattle.ep_core_laws.proofs.Pools.{pool_stays}
use Rattle.ep_core_laws.proofs.Through.{stands_through}
use Rattle.ep_core_laws.proofs.laws.a_session_stands_through_other_steps.Goals as goal

pub returns : goal.returns
returns c = stands_through slot_stays pool_stays c.other_steps_change_nothing_kept.ensures.follows c.other_steps_change_nothing_kept.ensures.same_entries
