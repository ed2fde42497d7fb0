-- What the program tells of an end in numbers (this project's profile).
use Rattle.std.specs.Prelude.{ℕ}
use Rattle.pt_command.specs.declared.end.End.{End}
use Rattle.pt_command.specs.declared.end.End.TheVariants as ends
use Rattle.pt_command.specs.declared.status.TheConstants as statuses

-- The status.
abbrev pub status_of : End → ℕ
status_of ends.Done = statuses.DONE
status_of ends.Words = statuses.WORDS
status_of (ends.Refused at) = statuses.REFUSED
status_of ends.ReadFault = statuses.READ_FAULT
status_of ends.WriteFault = statuses.WRITE_FAULT
status_of ends.LinkFault = statuses.LINK_FAULT
status_of (ends.PeerError code) = statuses.PEER_ERROR
status_of (ends.BadReply at) = statuses.BAD_REPLY
status_of ends.OutOfMemory = statuses.OUT_OF_MEMORY
status_of ends.TooLong = statuses.TOO_LONG

-- A peer's code, 0 where there is none.
abbrev pub code_of : End → ℕ
code_of (ends.PeerError code) = code
code_of end = 0

-- The offset of what is refused, 0 where there is none.
abbrev pub at_of : End → ℕ
at_of (ends.Refused at) = at
at_of (ends.BadReply at) = at
at_of end = 0
