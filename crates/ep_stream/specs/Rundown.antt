-- What is described at the end of a stream, and with which numbers (this project's profile).
use Rattle.std.specs.Prelude.{◌≡◌, ℕ, Bool, true, false, List, Option, Some, map}
use Rattle.ep_defs.specs.Definitions.{AreDistinct, definition_at}
use Rattle.ep_defs.specs.declared.event.EventDef.{EventDef}
use Rattle.ep_rundown.specs.declared.limits.TheConstants.{RUNDOWN_EVENT}
use Rattle.ep_rundown.specs.Rundown.{rundown_def, with_rundown}

-- The numbers are those of the definitions that were used, and that of the rundown is known too.
pub record AreUsed (events : List EventDef) (numbers : List ℕ) (used : List EventDef) (defs : ℕ → Option EventDef) : Type 0 where
  pub numbers_are : map (definition_at events) numbers ≡ map Some used
  pub rundown_is : defs RUNDOWN_EVENT ≡ Some rundown_def
  pub distinct : AreDistinct defs

-- The definitions by number at the end of a stream, with a rundown or without.
abbrev pub last_definitions : Bool → List EventDef → ℕ → Option EventDef
last_definitions false events = definition_at events
last_definitions true events = with_rundown (definition_at events)
