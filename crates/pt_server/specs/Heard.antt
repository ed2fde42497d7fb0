-- What the bytes of a connection are found to ask for.
use Rattle.std.specs.Prelude.{◌⊎◌, IsTrue}
use Rattle.pt_io.specs.Sides.{ReadSide}
use Rattle.ipc_body.specs.Request.{is_valid_request}
use Rattle.pt_server.specs.declared.hear.Heard.{Heard}
use Rattle.pt_server.specs.declared.hear.Heard.TheVariants as heard
use Rattle.pt_server.specs.Connection.{HasAsked, HasFinding, LacksMemory, HasReadFault}

-- A request, a code with which they are refused, or nothing, since a read failed.
abbrev pub IsHeard : Heard → ReadSide → Type 0
IsHeard (heard.Request request) gave = HasAsked gave request × IsTrue (is_valid_request request)
IsHeard (heard.Refused code) gave = HasFinding gave code ⊎ LacksMemory gave code
IsHeard heard.Lost gave = HasReadFault gave
