-- What the machine has come to.
use Rattle.std.specs.Prelude.{◌≡◌, ℕ, ◌+◌, Bool, true, false, List, ◌∷◌, length, Option, Some, None, Result, Err, OnOk, OnErr}
use Rattle.ep_defs.specs.declared.event.EventDef.{EventDef}
use Rattle.ep_defs.specs.declared.session.TraceInfo.{TraceInfo}
use Rattle.ep_defs.specs.declared.session.Write.{Write}
use Rattle.ep_model.specs.History.{Past}
use Rattle.ep_model.specs.Lawful.{IsLawful, objection_to}
use Rattle.ep_model.specs.declared.step.Step.{Step}
use Rattle.ep_model.specs.declared.step.Unlawful.{Unlawful}
use Rattle.ep_core.specs.declared.machine.Machine.{Machine}
use Rattle.ep_core.specs.declared.machine.StepFault.{StepFault}
use Rattle.ep_core.specs.declared.machine.StepFault.TheVariants.{Unlawful as Refused, OutOfMemory}
use Rattle.ep_core.specs.Writes.{with_write}
use Rattle.ep_core.specs.state.Works.{HasWorked, EndedFollow}

-- How many steps the machine has made.
abbrev pub steps_of : Machine → ℕ
steps_of machine = machine.steps

-- The machine has found no memory, and answers so from then on.
abbrev pub has_failed : Machine → Bool
has_failed machine = machine.failed

-- The machine stands for these steps.
pub record Follows (events : List EventDef) (info : TraceInfo) (past : Past) (machine : Machine) : Type 0 where
  pub count : steps_of machine ≡ length past
  pub info_is : machine.info ≡ info
  pub works : HasWorked events info past machine.work
  pub ended : EndedFollow events info past machine.ended

-- The step was made after those before it, or refused with the first kind that stands against it, and then nothing changed;
-- or no memory was found, and the machine answers so from then on.
pub record IsStepped (step : Step) (old new : Machine) (result : Result (Unit {0}) StepFault) : Type 0 where
  pub made : (events : List EventDef) (info : TraceInfo) (past : Past) → Follows events info past old
      → OnOk result ((objection_to events past step ≡ None) × Follows events info (step ∷ past) new)
  pub unlawful : (events : List EventDef) (info : TraceInfo) (past : Past) (why : Unlawful) → Follows events info past old
      → result ≡ Err (Refused why) → (objection_to events past step ≡ Some why.kind) × (why.step ≡ length past + 1)
  pub unchanged : (why : Unlawful) → result ≡ Err (Refused why) → new ≡ old
  pub failed : result ≡ Err OutOfMemory → has_failed new ≡ true
  pub stays : has_failed old ≡ true → (result ≡ Err OutOfMemory) × (new ≡ old)
  pub working : OnOk result (has_failed new ≡ false)
  -- where it stands is known after every answer
  pub counted : OnOk result (steps_of new ≡ steps_of old + 1)
  pub numbered : (why : Unlawful) → result ≡ Err (Refused why) → why.step ≡ steps_of old + 1
  pub uncounted : OnErr result (steps_of new ≡ steps_of old)

-- The machine stands for some steps, after which the whole write can be made.
pub record CanWrite (thread stamp : ℕ) (write : Write) (sessions : List ℕ) (machine : Machine) : Type 0 where
  pub events : List EventDef
  pub info : TraceInfo
  pub past : Past
  pub follows : Follows events info past machine
  pub lawful : IsLawful events (with_write thread stamp write sessions past)
