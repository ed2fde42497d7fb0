-- What the body of a request says, and which bodies are refused (the DOTNET_IPC_V1 protocol document of
-- dotnet/diagnostics, "Commands"; each refusal but that of a body that is cut is this project's profile).
use Rattle.std.specs.Prelude.{ℕ, zero, suc, ◌*◌, Bool, true, false, ◌&&◌, ◌||◌, List, [], ◌∷◌, length, min, Result, Ok, Err, nat_lt, ◌==◌, if◌then◌else◌}
use Rattle.std.specs.List.{list_all}
use Rattle.std.specs.Int.{w32, w64, is_in_range}
use Rattle.pt_num.specs.Fields.{Field, fixed_at, text_c_at}
use Rattle.pt_num.specs.Steps.{◌>>=◌, check, or_else_fault}
use Rattle.ep_defs.specs.declared.limits.TheConstants.{RULES}
use Rattle.ep_defs.specs.declared.session.Rule.{Rule}
use Rattle.ep_defs.specs.declared.session.Config.{Config}
use Rattle.ep_defs.specs.Session.{is_valid_config}
use Rattle.ipc_body.specs.declared.commands.TheConstants.{EVENT_PIPE, STOP_TRACING, COLLECT_TRACING, COLLECT_TRACING2, COLLECT_TRACING3, PROCESS, PROCESS_INFO, NETTRACE}
use Rattle.ipc_body.specs.declared.limits.TheConstants.{MEGABYTES, MEGABYTE_CHUNKS}
use Rattle.ipc_body.specs.declared.request.Request.{Request}
use Rattle.ipc_body.specs.declared.request.Request.TheVariants as request
use Rattle.ipc_body.specs.declared.request.RequestFault.{RequestFault}
use Rattle.ipc_body.specs.declared.request.RequestFault.TheVariants as fault
use Rattle.ipc_body.specs.declared.request.Wish.{Wish}
use Rattle.ipc_body.specs.Read.{byte_at}

-- What the bytes hold, or else the body is badly encoded.
abbrev pub read : {A : Type 0} → Field A → Result (A × List ℕ) RequestFault
read field = or_else_fault field fault.BadEncoding

-- A finding, where the test fails.
abbrev pub hold : Bool → Result (Unit {0}) RequestFault
hold test = check test fault.BadEncoding

-- No byte is left.
abbrev pub is_empty : List ℕ → Bool
is_empty [] = true
is_empty (b ∷ bytes) = false

-- ---- a session is asked for

-- A rule by its parts.
abbrev pub rule_of : ℕ → ℕ → List ℕ → Rule
rule_of keywords level name = record { name = name; keywords = keywords; level = level }

-- A name, which is not empty.
abbrev pub name_at : List ℕ → Result (List ℕ × List ℕ) RequestFault
name_at bytes = do
  name ← read (text_c_at bytes)
  named ← hold (nat_lt 0 (length name.0))
  Ok name

-- A provider: keywords, level, name and a filter, which is not used.
abbrev pub provider_at : List ℕ → Result (Rule × List ℕ) RequestFault
provider_at bytes = do
  keywords ← read (fixed_at w64 bytes)
  level ← read (fixed_at w32 keywords.1)
  name ← name_at level.1
  filter ← read (text_c_at name.1)
  Ok (rule_of keywords.0 level.0 name.0, filter.1)

-- A provider before others.
abbrev pub with_provider : Rule → Result (List Rule × List ℕ) RequestFault → Result (List Rule × List ℕ) RequestFault
with_provider rule (Ok later) = Ok (rule ∷ later.0, later.1)
with_provider rule (Err e) = Err e

-- This many providers.
unfoldable pub providers_at : ℕ → List ℕ → Result (List Rule × List ℕ) RequestFault
providers_at zero bytes = Ok ([], bytes)
providers_at (suc more) bytes = provider_at bytes >>= λ first. with_provider first.0 (providers_at more first.1)

-- Each provider has a name.
abbrev pub are_named : List Rule → Bool
are_named rules = list_all (λ rule. nat_lt 0 (length rule.name)) rules

-- This many providers, and no byte after them.
abbrev pub whole_providers : ℕ → List ℕ → Result (List Rule) RequestFault
whole_providers count bytes = do
  rules ← providers_at count bytes
  ended ← hold (is_empty rules.1)
  Ok rules.0

-- A flag of one byte, which is true where it is not 0. A command that lacks the flag means true.
abbrev pub flag_at : Bool → List ℕ → Field Bool
flag_at false bytes = Ok (true, bytes)
flag_at true bytes = byte_at bytes >>= λ flag. Ok (nat_lt 0 flag.0, flag.1)

-- What stands before the providers.
abbrev pub wish_of : ℕ → ℕ → Bool → Bool → ℕ → Wish
wish_of megabytes format rundown stackwalk count =
    record { megabytes = megabytes; format = format; rundown = rundown; stackwalk = stackwalk; count = count }

-- A budget in megabytes, a format, the flags that the command has, and the number of providers. CollectTracing2 has the
-- flag rundown, and CollectTracing3 also the flag stackwalk (that it stands after rundown is this project's profile).
abbrev pub wish_at : Bool → Bool → List ℕ → Field Wish
wish_at has_rundown has_stackwalk bytes = do
  megabytes ← fixed_at w32 bytes
  format ← fixed_at w32 megabytes.1
  rundown ← flag_at has_rundown format.1
  stackwalk ← flag_at has_stackwalk rundown.1
  count ← fixed_at w32 stackwalk.1
  Ok (wish_of megabytes.0 format.0 rundown.0 stackwalk.0 count.0, count.1)

-- Some budget, the format NetTrace, and at least one provider, but not too many.
abbrev pub can_grant : Wish → Bool
can_grant wish = nat_lt 0 wish.megabytes && (wish.format == NETTRACE) && is_in_range 1 RULES wish.count

-- The budget in chunks; a greater one than the greatest counts as that.
abbrev pub chunks_of : ℕ → ℕ
chunks_of megabytes = min megabytes MEGABYTES * MEGABYTE_CHUNKS

-- The configuration that is wished for, with these rules.
abbrev pub config_of : Wish → List Rule → Config
config_of wish rules =
    record { rules = rules; chunks = chunks_of wish.megabytes; stackwalk = wish.stackwalk; rundown = wish.rundown }

-- What a session is asked for, by the body of a command with these flags.
abbrev pub collect_of : Bool → Bool → List ℕ → Result Request RequestFault
collect_of has_rundown has_stackwalk body = do
  wish ← read (wish_at has_rundown has_stackwalk body)
  granted ← hold (can_grant wish.0)
  rules ← whole_providers wish.0.count wish.1
  Ok (request.Collect (config_of wish.0 rules))

-- A session is asked for, in one of three forms: the only command whose body takes memory to read.
abbrev pub is_collect : ℕ → ℕ → Bool
is_collect set command =
    (set == EVENT_PIPE)
    && ((command == COLLECT_TRACING) || (command == COLLECT_TRACING2) || (command == COLLECT_TRACING3))

-- ---- the other requests

-- A session's id, and no byte after it.
abbrev pub stop_of : List ℕ → Result Request RequestFault
stop_of body = do
  id ← read (fixed_at w64 body)
  ended ← hold (is_empty id.1)
  Ok (request.Stop id.0)

-- Nothing.
abbrev pub info_of : List ℕ → Result Request RequestFault
info_of body = hold (is_empty body) >>= λ _. Ok request.Info

-- What a request of EventPipe says.
abbrev pub event_pipe_of : ℕ → List ℕ → Result Request RequestFault
event_pipe_of command body =
    if command == STOP_TRACING then stop_of body
    else if command == COLLECT_TRACING then collect_of false false body
    else if command == COLLECT_TRACING2 then collect_of true false body
    else if command == COLLECT_TRACING3 then collect_of true true body
    else Err fault.UnknownCommand

-- What a request says, by its command set, its command and its body. Dump, Profiler and start-up commands,
-- CollectTracing4 and ProcessInfo2 are unknown here (this project's profile).
abbrev pub request_of : ℕ → ℕ → List ℕ → Result Request RequestFault
request_of set command body =
    if set == EVENT_PIPE then event_pipe_of command body
    else if (set == PROCESS) && (command == PROCESS_INFO) then info_of body
    else Err fault.UnknownCommand

-- A configuration that is asked for is valid.
abbrev pub is_valid_request : Request → Bool
is_valid_request (request.Collect config) = is_valid_config config
is_valid_request (request.Stop id) = true
is_valid_request request.Info = true
