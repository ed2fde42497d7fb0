-- A program's definitions of events, by their numbers (this project's profile).
use Rattle.std.specs.Prelude.{◌≡◌, ℕ, zero, suc, List, Option, Some, None, slice_get}
use Rattle.ep_defs.specs.declared.event.EventDef.{EventDef}

-- Definitions are numbered from 1.
abbrev pub definition_at : List EventDef → ℕ → Option EventDef
definition_at definitions zero = None
definition_at definitions (suc place) = slice_get definitions place

-- No definition stands at two numbers.
abbrev pub AreDistinct : (ℕ → Option EventDef) → Type 0
AreDistinct definitions = (i j : ℕ) (def : EventDef) → definitions i ≡ Some def → definitions j ≡ Some def → i ≡ j
