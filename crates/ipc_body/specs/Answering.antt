-- The replies of a traced program, as bytes (the DOTNET_IPC_V1 protocol document of dotnet/diagnostics, "Commands").
use Rattle.std.specs.Prelude.{ℕ, List, [], ◌∷◌}
use Rattle.std.specs.List.{concat}
use Rattle.std.specs.Int.{w32, w64}
use Rattle.pt_num.specs.Numbers.{fixed}
use Rattle.pt_num.specs.Texts.{text_c}
use Rattle.ipc_frame.specs.Message.{message}
use Rattle.ipc_body.specs.declared.commands.TheConstants.{SERVER, OK, ERROR}
use Rattle.ipc_body.specs.declared.reply.ProcessInfo.{ProcessInfo}

-- A request is refused with a code (the same document, "Error codes").
abbrev pub error_reply : ℕ → List ℕ
error_reply code = message SERVER ERROR (fixed w32 code)

-- A session was begun, or is to end: its id (the same document, "CollectTracing2" and "StopTracing").
abbrev pub session_reply : ℕ → List ℕ
session_reply id = message SERVER OK (fixed w64 id)

-- What a process says of itself: its id, the runtime cookie of 16 bytes, command line, operating system and
-- architecture (the same document, "ProcessInfo").
abbrev pub info_body : ProcessInfo → List ℕ
info_body info =
    concat
    (fixed w64 info.process_id
    ∷ info.cookie
    ∷ text_c info.command_line
    ∷ text_c info.system
    ∷ text_c info.arch
    ∷ [])

-- The reply that says what a process is.
abbrev pub info_reply : ProcessInfo → List ℕ
info_reply info = message SERVER OK (info_body info)
