-- Why a session ended, as its stream says it and as the table's journal says it.
use Rattle.ep_stream.specs.declared.session.Fate.{Fate}
use Rattle.ep_stream.specs.declared.session.Fate.TheVariants as fate
use Rattle.ep_journal.specs.declared.session.Fate.{Fate as Kept}
use Rattle.ep_journal.specs.declared.session.Fate.TheVariants as kept

-- The journal's word for it.
abbrev pub fate_as : Fate → Kept
fate_as (fate.Requested conn) = kept.Requested conn
fate_as fate.ProgramEnd = kept.ProgramEnd
fate_as fate.LinkFault = kept.LinkFault
fate_as fate.TooLong = kept.TooLong
fate_as fate.OutOfMemory = kept.OutOfMemory

-- The stream's word for it.
abbrev pub fate_of : Kept → Fate
fate_of (kept.Requested conn) = fate.Requested conn
fate_of kept.ProgramEnd = fate.ProgramEnd
fate_of kept.LinkFault = fate.LinkFault
fate_of kept.TooLong = fate.TooLong
fate_of kept.OutOfMemory = fate.OutOfMemory
