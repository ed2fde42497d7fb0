-- What the bytes of a reply say, or the offset of their first wrong field (the DOTNET_IPC_V1 protocol document of
-- dotnet/diagnostics; what is wrong, and where, is this project's profile).
use Rattle.std.specs.Prelude.{◌≡◌, ℕ, ◌+◌, ◌-◌, Bool, true, false, ◌&&◌, ◌||◌, List, length, drop, slice_index, Result, Ok, Err, nat_le, nat_eq, ◌==◌, if◌then◌else◌}
use Rattle.std.specs.List.{starts_with}
use Rattle.std.specs.Int.{w32, w64}
use Rattle.pt_num.specs.Fields.{Field, Short, TooWide, NoZero, bytes_at, fixed_at, text_c_at}
use Rattle.pt_num.specs.Steps.{◌>>=◌, check}
use Rattle.ipc_frame.specs.declared.limits.TheConstants.{MAGIC, SIZE_AT, SET_AT, COMMAND_AT, HEADER_BYTES}
use Rattle.ipc_frame.specs.Message.{size_in}
use Rattle.ipc_body.specs.declared.commands.TheConstants.{SERVER, OK, ERROR}
use Rattle.ipc_body.specs.declared.limits.TheConstants.{COOKIE_BYTES}
use Rattle.ipc_body.specs.declared.reply.ProcessInfo.{ProcessInfo}
use Rattle.ipc_body.specs.declared.reply.Reply.{Reply}
use Rattle.ipc_body.specs.declared.reply.Reply.TheVariants as reply
use Rattle.ipc_body.specs.declared.reply.ReplyFault.{ReplyFault}
use Rattle.ipc_body.specs.declared.reply.ReplyFault.TheVariants as fault

-- This many bytes must be there, or else the reply is wrong where its bytes end.
abbrev pub reach : ℕ → List ℕ → Result (Unit {0}) ℕ
reach bytes whole = check (nat_le bytes (length whole)) (length whole)

-- The size counts the header, and no byte follows that it doesn't count.
abbrev pub is_sized : List ℕ → Bool
is_sized whole = nat_le HEADER_BYTES (size_in whole) && nat_le (length whole) (size_in whole)

-- The command set of the message is that of replies.
abbrev pub is_from_server : List ℕ → Bool
is_from_server whole = slice_index whole SET_AT == SERVER

-- Whether the request was refused.
abbrev pub is_error : List ℕ → Bool
is_error whole = slice_index whole COMMAND_AT == ERROR

-- The reply says that all is well.
abbrev pub is_ok : List ℕ → Bool
is_ok whole = slice_index whole COMMAND_AT == OK

-- The header's fields in their order, each judged once all of its bytes are there.
abbrev pub header_of : List ℕ → Result (Unit {0}) ℕ
header_of whole = do
  begun ← reach SIZE_AT whole
  known ← check (starts_with nat_eq whole MAGIC) 0
  sized ← reach SET_AT whole
  fitting ← check (is_sized whole) SIZE_AT
  placed ← reach (SET_AT + 1) whole
  answers ← check (is_from_server whole) SET_AT
  named ← reach (COMMAND_AT + 1) whole
  told ← check (is_ok whole || is_error whole) COMMAND_AT
  reach HEADER_BYTES whole

-- The field at this offset, and the offset after it. Where its bytes are not all there the reply is wrong where its
-- bytes end, and else at the field.
abbrev pub placed : {A : Type 0} → List ℕ → ℕ → Field A → Result (A × ℕ) ℕ
placed whole at (Ok field) = Ok (field.0, length whole - length field.1)
placed whole at (Err Short) = Err (length whole)
placed whole at (Err (TooWide from)) = Err at
placed whole at (Err NoZero) = Err at

-- A text at this offset, and the offset after it.
abbrev pub text_at : List ℕ → ℕ → Result (List ℕ × ℕ) ℕ
text_at whole at = placed whole at (text_c_at (drop at whole))

-- The code of an error, and the offset after it.
abbrev pub error_at : List ℕ → Result (Reply × ℕ) ℕ
error_at whole = do
  code ← placed whole HEADER_BYTES (fixed_at w32 (drop HEADER_BYTES whole))
  Ok (reply.Error code.0, code.1)

-- The id of a session.
abbrev pub session_at : List ℕ → Result (Reply × ℕ) ℕ
session_at whole = do
  id ← placed whole HEADER_BYTES (fixed_at w64 (drop HEADER_BYTES whole))
  Ok (reply.Session id.0, id.1)

-- What a process says of itself, by its parts.
abbrev pub info_from : ℕ → List ℕ → List ℕ → List ℕ → List ℕ → ProcessInfo
info_from process_id cookie command_line system arch =
    record { process_id = process_id; cookie = cookie; command_line = command_line; system = system; arch = arch }

-- What a process says of itself.
abbrev pub info_at : List ℕ → Result (Reply × ℕ) ℕ
info_at whole = do
  process_id ← placed whole HEADER_BYTES (fixed_at w64 (drop HEADER_BYTES whole))
  cookie ← placed whole process_id.1 (bytes_at COOKIE_BYTES (drop process_id.1 whole))
  command_line ← text_at whole cookie.1
  system ← text_at whole command_line.1
  arch ← text_at whole system.1
  Ok (reply.Info (info_from process_id.0 cookie.0 command_line.0 system.0 arch.0), arch.1)

-- The body of an error, of a process, or of a session.
abbrev pub body_at : Bool → List ℕ → Result (Reply × ℕ) ℕ
body_at wants_info whole =
    if is_error whole then error_at whole else if wants_info then info_at whole else session_at whole

-- The body ends where the size says.
abbrev pub whole_body : Bool → List ℕ → Result Reply ℕ
whole_body wants_info whole = do
  body ← body_at wants_info whole
  ended ← check (body.1 == size_in whole) body.1
  Ok body.0

-- The reply: a header and a body.
unfoldable pub reply_of : Bool → List ℕ → Result Reply ℕ
reply_of wants_info whole = header_of whole >>= λ _. whole_body wants_info whole

-- The answer is the wanted one, or out of memory, which may come at any place.
abbrev pub Replies : {A : Type 0} → Result A ℕ → Result A ReplyFault → Type 0
Replies wanted (Ok value) = wanted ≡ Ok value
Replies wanted (Err (fault.Bad at)) = wanted ≡ Err at
Replies wanted (Err fault.OutOfMemory) = Unit {0}

-- A session answers a request for a session or a stop, and the description of a process the request for it; an error
-- answers both.
abbrev pub IsReplyTo : Bool → Reply → Type 0
IsReplyTo wants_info (reply.Session id) = wants_info ≡ false
IsReplyTo wants_info (reply.Info info) = wants_info ≡ true
IsReplyTo wants_info (reply.Error code) = Unit {0}
