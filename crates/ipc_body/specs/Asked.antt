-- Which sessions can be asked for, so that the request says what was asked.
use Rattle.std.specs.Prelude.{ℕ, ◌+◌, ◌-◌, ◌^◌, Bool, true, false, ◌&&◌, List, length, nat_lt, Ok, ◌≡◌}
use Rattle.std.specs.List.{list_all}
use Rattle.std.specs.Int.{is_in_range}
use Rattle.pt_num.specs.Texts.{are_wide}
use Rattle.ep_defs.specs.declared.limits.TheConstants.{RULES}
use Rattle.ep_defs.specs.declared.session.Rule.{Rule}
use Rattle.ep_defs.specs.declared.session.Config.{Config}
use Rattle.ipc_body.specs.declared.commands.TheConstants.{EVENT_PIPE, COLLECT_TRACING2}
use Rattle.ipc_body.specs.declared.request.Request.TheVariants as request
use Rattle.ipc_body.specs.Asking.{collect_body}
use Rattle.ipc_body.specs.Request.{chunks_of, request_of}

-- A rule whose numbers fit their types, and whose name is not empty and can be counted.
abbrev pub can_ask : Rule → Bool
can_ask rule =
    nat_lt rule.keywords (2 ^ 64)
    && nat_lt rule.level (2 ^ 32)
    && nat_lt 0 (length rule.name)
    && nat_lt (length rule.name + 1) (2 ^ 32)
    && are_wide rule.name

-- Some budget, and as many rules as a session may have, each of which can be asked for.
abbrev pub can_collect : ℕ → List Rule → Bool
can_collect megabytes rules = is_in_range 1 (2 ^ 32 - 1) megabytes && is_in_range 1 RULES (length rules) && list_all can_ask rules

-- What CollectTracing2 asks for: these rules, the budget in chunks, stacks, and no rundown.
abbrev pub asked_config : ℕ → List Rule → Config
asked_config megabytes rules =
    record { rules = rules; chunks = chunks_of megabytes; stackwalk = true; rundown = false }

-- The body that is put says what was asked.
abbrev pub SaysWhatIsAsked : ℕ → List Rule → Type 0
SaysWhatIsAsked megabytes rules =
    request_of EVENT_PIPE COLLECT_TRACING2 (collect_body megabytes rules) ≡ Ok (request.Collect (asked_config megabytes rules))
