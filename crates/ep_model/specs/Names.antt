-- How a kind is said.
use Rattle.std.specs.Prelude.{ℕ, List, codes}
use Rattle.ep_model.specs.declared.step.Kind.{Kind}
use Rattle.ep_model.specs.declared.step.Kind.TheVariants as kind

-- The name of a kind, as an error line has it.
abbrev pub step_kind_name : Kind → List ℕ
step_kind_name kind.SessionNumber = codes "SessionNumber"
step_kind_name kind.BadConfig = codes "BadConfig"
step_kind_name kind.Full = codes "Full"
step_kind_name kind.NoSession = codes "NoSession"
step_kind_name kind.NoThread = codes "NoThread"
step_kind_name kind.ThreadsFull = codes "ThreadsFull"
step_kind_name kind.AlreadyOpen = codes "AlreadyOpen"
step_kind_name kind.ThreadLimit = codes "ThreadLimit"
step_kind_name kind.InWrite = codes "InWrite"
step_kind_name kind.NotInWrite = codes "NotInWrite"
step_kind_name kind.NoEvent = codes "NoEvent"
step_kind_name kind.TooLarge = codes "TooLarge"
step_kind_name kind.TooMany = codes "TooMany"
step_kind_name kind.NotDue = codes "NotDue"
step_kind_name kind.ShowsDue = codes "ShowsDue"
step_kind_name kind.NotOpen = codes "NotOpen"
step_kind_name kind.HandFull = codes "HandFull"
step_kind_name kind.StillOpen = codes "StillOpen"
