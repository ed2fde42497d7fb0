-- What the types of the code say of each step: its numbers have 32 bits, stamps 64, and the parts of a configuration
-- and of a write their own.
use Rattle.std.specs.Prelude.{◌^◌, ◌<◌}
use Rattle.ep_defs.specs.Ranges.{ConfigFits, WriteFits}
use Rattle.ep_model.specs.declared.step.Step.{Step}
use Rattle.ep_model.specs.declared.step.Step.TheVariants as step

-- The numbers of a step fit their types.
abbrev pub StepFits : Step → Type 0
StepFits (step.Accept s config) = (s < 2 ^ 32) × ConfigFits config
StepFits (step.Enter t) = t < 2 ^ 32
StepFits (step.Leave t) = t < 2 ^ 32
StepFits (step.Open s t) = (s < 2 ^ 32) × (t < 2 ^ 32)
StepFits (step.Begin t stamp write) = (t < 2 ^ 32) × (stamp < 2 ^ 64) × WriteFits write
StepFits (step.Show t s) = (t < 2 ^ 32) × (s < 2 ^ 32)
StepFits (step.End t) = t < 2 ^ 32
StepFits (step.Steal s t) = (s < 2 ^ 32) × (t < 2 ^ 32)
StepFits (step.Give s) = s < 2 ^ 32
StepFits (step.Point s stamp) = (s < 2 ^ 32) × (stamp < 2 ^ 64)
StepFits (step.Close s t) = (s < 2 ^ 32) × (t < 2 ^ 32)
StepFits (step.Finish s stamp) = (s < 2 ^ 32) × (stamp < 2 ^ 64)
