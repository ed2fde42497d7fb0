-- What a streaming role does with its sessions. All of it is this project's own.
use Rattle.std.specs.Prelude.{◌≡◌, Bool, true, false, Option, None, Some}
use Rattle.ep_journal.specs.declared.session.Fate.{Fate}
use Rattle.ep_journal.specs.declared.session.Fate.TheVariants as fate
use Rattle.ep_journal.specs.declared.session.Stage.TheVariants as stage
use Rattle.ep_registry.specs.declared.hold.Hold.{Hold}

-- A role finds a session's end by a stop, or by the program's end.
abbrev pub is_found : Fate → Bool
is_found (fate.Requested conn) = true
is_found fate.ProgramEnd = true
is_found fate.LinkFault = false
is_found fate.TooLong = false
is_found fate.OutOfMemory = false

-- What a role knows of its session once it has looked at it.
abbrev pub IsLooked : Hold → Hold → Option Fate → Type 0
IsLooked old new None = new ≡ old
IsLooked old new (Some found) = (is_found found ≡ true) × (new ≡ record old { stage = stage.Ending found })
