-- Which definitions are there, and which are refused.
use Rattle.std.specs.Prelude.{◌≤◌, ◌&&◌, nat_le, not, List, length, Option, Some, None, IsTrue, All, ◌==◌, if◌then◌else◌}
use Rattle.ep_defs.specs.declared.event.EventDef.{EventDef}
use Rattle.ep_defs.specs.declared.limits.TheConstants.{EVENTS}
use Rattle.ep_defs.specs.Definitions.{AreDistinct, definition_at}
use Rattle.ep_defs.specs.Event.{is_valid_event, is_same_event}
use Rattle.nt_write.specs.Layout.{id_in}
use Rattle.tp_c.specs.declared.refusal.Refusal.{Refusal}
use Rattle.tp_c.specs.declared.refusal.Refusal.TheVariants.{BadDefinition, TooManyDefinitions}

-- Not too many, each valid, none twice.
pub record IsCatalog (definitions : List EventDef) : Type 0 where
  pub few : length definitions ≤ EVENTS
  pub valid : All (λ def. IsTrue (is_valid_event def)) definitions
  pub distinct : AreDistinct (definition_at definitions)

-- Why these definitions don't take one more: a stream can't hold it, or there is no number left. One that is there has
-- its number.
abbrev pub definition_refused : List EventDef → EventDef → Option Refusal
definition_refused definitions def =
    if not (is_valid_event def) then Some BadDefinition
    else (if (id_in is_same_event def definitions == 0) && nat_le EVENTS (length definitions) then Some TooManyDefinitions else None)
