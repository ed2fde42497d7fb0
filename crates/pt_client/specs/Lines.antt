-- The lines that the client's commands print (this project's profile).
use Rattle.std.specs.Prelude.{ℕ, List, [], ◌∷◌, ◌++◌, codes}
use Rattle.std.specs.List.{concat}
use Rattle.std.specs.Fmt.{decimal}
use Rattle.std.specs.Int.{w32, to_be_bytes}
use Rattle.hex.specs.Hex.{encode_lower}
use Rattle.uuid.specs.Text.{hyphenated_text, lower}
use Rattle.pt_print.specs.Printed.{number_part, text_part, units_part}
use Rattle.ipc_body.specs.declared.reply.ProcessInfo.{ProcessInfo}

-- A session that ends.
abbrev pub stopped_line : ℕ → List ℕ
stopped_line id = concat (codes "stopped" ∷ number_part id ∷ (10 ∷ []) ∷ [])

-- A program: its process id, its cookie as a UUID, its command line, operating system and architecture.
abbrev pub process_line : ProcessInfo → List ℕ
process_line info =
    concat
    (codes "process"
    ∷ number_part info.process_id
    ∷ text_part (hyphenated_text lower info.cookie)
    ∷ units_part info.command_line
    ∷ units_part info.system
    ∷ units_part info.arch
    ∷ (10 ∷ [])
    ∷ [])

-- The error of a peer, its code in eight hexadecimal digits.
abbrev pub peer_error : ℕ → List ℕ
peer_error code = concat (codes "error: peer " ∷ encode_lower (to_be_bytes w32 code) ∷ (10 ∷ []) ∷ [])

-- A reply that is none, with the offset of its first wrong field.
abbrev pub reply_error : ℕ → List ℕ
reply_error at = concat (codes "error: reply at " ∷ decimal at ∷ (10 ∷ []) ∷ [])

-- Nobody called, and nobody will.
abbrev pub no_peer : List ℕ
no_peer = codes "error: no peer" ++ 10 ∷ []
