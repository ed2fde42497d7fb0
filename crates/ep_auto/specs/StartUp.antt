-- What a start-up text means (after dotnet/runtime's DOTNET_EventPipeConfig; the grammar is this project's profile).
use Rattle.std.specs.Prelude.{ℕ, ◌+◌, Bool, true, false, nat_lt, if◌then◌else◌, List, [], ◌∷◌, ◌++◌, length, Option, Some, None, option_map}
use Rattle.ep_defs.specs.declared.limits.TheConstants.{RULES}
use Rattle.ep_defs.specs.declared.session.Rule.{Rule}
use Rattle.ep_defs.specs.declared.session.Config.{Config}
use Rattle.ep_plan.specs.Words.{comma, parts_at, all_in}
use Rattle.ep_auto.specs.declared.fault.AutoKind.TheVariants.{Count}
use Rattle.ep_auto.specs.declared.fault.AutoFault.{AutoFault}
use Rattle.ep_auto.specs.declared.fault.AutoFault.TheVariants.{Bad}
use Rattle.ep_auto.specs.Fields.{Field, rule_in, fields_at, first_wrong}

-- Commas part a text. A session has one rule for each part, and there may be too many.
abbrev pub has_too_many : List ℕ → Bool
has_too_many text = nat_lt RULES (length (parts_at comma text))

-- A session of these rules and this budget, with stacks and without a rundown.
abbrev pub session_of : ℕ → List Rule → Config
session_of chunks rules = record { rules = rules; chunks = chunks; stackwalk = true; rundown = false }

-- The session that a text asks for: each of its parts is a rule.
abbrev pub config_in : ℕ → List ℕ → Option Config
config_in chunks text = if has_too_many text then None else option_map (session_of chunks) (all_in rule_in (parts_at comma text))

-- The fields of parts in reading order, the first byte of the first part standing at this column.
abbrev pub fields_from : ℕ → List (List ℕ) → List Field
fields_from column [] = []
fields_from column (part ∷ parts) = fields_at column part ++ fields_from (column + length part + 1) parts

-- Too many parts are told at column 1, whatever they are, else the first wrong field in reading order.
abbrev pub fault_in : List ℕ → Option AutoFault
fault_in text = if has_too_many text then Some (Bad 1 Count) else first_wrong (fields_from 1 (parts_at comma text))
