-- Why a session ended (this project's profile).
use Rattle.std.specs.Prelude.{Result, Ok, Err}
use Rattle.nt_write.specs.declared.fault.Fault.{Fault}
use Rattle.nt_write.specs.declared.fault.Fault.TheVariants.{WriteFault, TooLong, OutOfMemory}
use Rattle.ep_stream.specs.declared.session.Fate.{Fate}
use Rattle.ep_stream.specs.declared.session.Fate.TheVariants as fate

-- The fate of a session whose stream was ended with this answer: the fault's own, or else the one that was handed in.
abbrev pub fate_after : Result (Unit {0}) Fault → Fate → Fate
fate_after (Ok u) handed = handed
fate_after (Err WriteFault) handed = fate.LinkFault
fate_after (Err TooLong) handed = fate.TooLong
fate_after (Err OutOfMemory) handed = fate.OutOfMemory
