-- The requests that a client sends, as bytes (the DOTNET_IPC_V1 protocol document of dotnet/diagnostics, "Commands").
use Rattle.std.specs.Prelude.{ℕ, List, [], ◌∷◌, length}
use Rattle.std.specs.List.{concat, flat_map}
use Rattle.std.specs.Int.{w32, w64}
use Rattle.pt_num.specs.Numbers.{fixed}
use Rattle.pt_num.specs.Texts.{text_c}
use Rattle.ep_defs.specs.declared.session.Rule.{Rule}
use Rattle.ipc_frame.specs.Message.{message}
use Rattle.ipc_body.specs.declared.commands.TheConstants.{EVENT_PIPE, STOP_TRACING, COLLECT_TRACING2, PROCESS, PROCESS_INFO, NETTRACE}

-- A provider: keywords, level, name, and a filter, which is empty and has the count 0 (the same document,
-- "CollectTracing2"; that an empty filter is written so is this project's profile).
abbrev pub provider_bytes : Rule → List ℕ
provider_bytes rule =
    concat (fixed w64 rule.keywords ∷ fixed w32 rule.level ∷ text_c rule.name ∷ fixed w32 0 ∷ [])

-- What CollectTracing2 asks for: a budget in megabytes, the format NetTrace, no rundown, and providers with their count
-- (the same section; that no rundown is asked for is this project's profile).
abbrev pub collect_body : ℕ → List Rule → List ℕ
collect_body megabytes rules =
    concat
    (fixed w32 megabytes
    ∷ fixed w32 NETTRACE
    ∷ (0 ∷ [])
    ∷ fixed w32 (length rules)
    ∷ flat_map provider_bytes rules
    ∷ [])

-- The request for a session with this budget and these rules.
abbrev pub collect_request : ℕ → List Rule → List ℕ
collect_request megabytes rules = message EVENT_PIPE COLLECT_TRACING2 (collect_body megabytes rules)

-- StopTracing has the session's id (the same document, "StopTracing").
abbrev pub stop_request : ℕ → List ℕ
stop_request id = message EVENT_PIPE STOP_TRACING (fixed w64 id)

-- ProcessInfo has no body (the same document, "ProcessInfo").
abbrev pub info_request : List ℕ
info_request = message PROCESS PROCESS_INFO []
