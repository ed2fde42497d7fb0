-- The bytes of a peer that are its message, and those after it (the DOTNET_IPC_V1 protocol document of
-- dotnet/diagnostics, "IPC Message Format").
use Rattle.std.specs.Prelude.{ℕ, ◌+◌, List, length, take, drop, Result, Ok, Err}
use Rattle.ipc_frame.specs.declared.limits.TheConstants.{HEADER_BYTES}
use Rattle.ipc_frame.specs.Message.{Message, Gap, found}
use Rattle.ipc_frame.specs.Message as messages

-- How many bytes a header, of which these are the first bytes, says that its message has. What is no header ends with
-- it.
abbrev pub said_size : List ℕ → Result Message Gap → ℕ
said_size head (Err (messages.Lacks more)) = length head + more
said_size head (Err messages.OtherMagic) = length head
said_size head (Err (messages.SmallSize size)) = length head
said_size head (Ok message) = length head

-- How many of these bytes are the message's own, where this many are there.
abbrev pub own_size : List ℕ → ℕ
own_size bytes = said_size (take HEADER_BYTES bytes) (found (take HEADER_BYTES bytes))

-- The message's own bytes.
abbrev pub own_bytes : List ℕ → List ℕ
own_bytes bytes = take (own_size bytes) bytes

-- The bytes after the message.
abbrev pub later_bytes : List ℕ → List ℕ
later_bytes bytes = drop (own_size bytes) bytes
