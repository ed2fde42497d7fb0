-- What holds of the tables holds in one way, so it is known where some lawful steps led to them.
use Rattle.std.proofs.Common.{List, [], ◌∷◌}
use Rattle.std.proofs.Props.{props}
use Rattle.std.specs.List.{AllByRecursion, AllByRecursion-prop}
use Rattle.ep_defs.specs.declared.event.EventDef.{EventDef}
use Rattle.ep_defs.specs.declared.session.Config.{Config}
use Rattle.nt_write.specs.declared.fault.Fault.{Fault}
use Rattle.ep_chunk.specs.Record.{Record}
use Rattle.ep_slot.specs.Hand.{HandState}
use Rattle.ep_slot.specs.Slot.{SlotState}
use Rattle.ep_rows.specs.declared.rows.Rows.{Rows}
use Rattle.ep_tables.specs.declared.tables.Present.{Present}
use Rattle.ep_tables.specs.declared.tables.Tables.{Tables}
use Rattle.ep_tables.specs.Tied.{AreTied, CanBeTold, IsTied, HaveOwnSlots}

-- ---- sets

EventDef-set : IsSet EventDef
EventDef-set = hlevel props

Config-set : IsSet Config
Config-set = hlevel props

Fault-set : IsSet Fault
Fault-set = hlevel props

HandState-set : IsSet HandState
HandState-set = hlevel props

Record-set : IsSet Record
Record-set = hlevel props

SlotState-set : IsSet SlotState
SlotState-set = hlevel (props, Record-set)

-- ---- the sessions know their rows

CanBeTold-prop : (events : List EventDef) → IsProp (CanBeTold events)
CanBeTold-prop events = hlevel props

IsTied-prop : (rows : Rows) (present : Present) → IsProp (IsTied rows present)
IsTied-prop rows present = hlevel (props, Config-set, Fault-set, HandState-set)

HaveOwnSlots-prop : (sessions : List Present) → IsProp (HaveOwnSlots sessions)
HaveOwnSlots-prop [] = hlevel
HaveOwnSlots-prop (present ∷ others) = hlevel (props, HaveOwnSlots-prop others)

AllTied-prop : (rows : Rows) (sessions : List Present) → IsProp (AllByRecursion (IsTied rows) sessions)
AllTied-prop rows sessions = AllByRecursion-prop (IsTied rows) (IsTied-prop rows) sessions

pub AreTied-prop : (tables : Tables) → IsProp (AreTied tables)
AreTied-prop tables =
    hlevel (props, EventDef-set, SlotState-set, CanBeTold-prop tables.events.items, AllTied-prop tables.rows tables.present.items, HaveOwnSlots-prop tables.present.items)
