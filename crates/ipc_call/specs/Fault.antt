-- Why a call has no result, by what was lacking where the reply was read (this project's profile).
use Rattle.ipc_take.specs.declared.lack.Lack.{Lack}
use Rattle.ipc_take.specs.declared.lack.Lack.TheVariants as lack
use Rattle.ipc_call.specs.declared.fault.CallFault.{CallFault}
use Rattle.ipc_call.specs.declared.fault.CallFault.TheVariants as fault

-- The fault that is told where there is no message.
abbrev pub fault_of : Lack → CallFault
fault_of lack.LinkFault = fault.LinkFault
fault_of lack.OutOfMemory = fault.OutOfMemory
