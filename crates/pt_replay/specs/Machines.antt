-- The machine that makes the steps of a schedule.
use Rattle.std.specs.Prelude.{◌≡◌, ℕ, ◌≤◌, true, List, [], Option, Some, None}
use Rattle.ep_defs.specs.declared.event.EventDef.{EventDef}
use Rattle.ep_defs.specs.Session.{standard_info_of}
use Rattle.ep_model.specs.declared.step.Step.{Step}
use Rattle.ep_model.specs.declared.step.Kind.{Kind}
use Rattle.ep_model.specs.History.{Past}
use Rattle.ep_model.specs.Lawful.{objection_to}
use Rattle.ep_core.specs.Machine.{Follows, steps_of}
use Rattle.ep_core.specs.declared.machine.Machine.{Machine}
use Rattle.pt_replay.specs.declared.errors.Refusal.{Refusal}
use Rattle.pt_replay.specs.declared.errors.Reason.TheVariants as reason
use Rattle.pt_replay.specs.Schedule.{has_stepped}

-- The machine stands for the steps, of which there are no more than lines. Before the first step there is none.
abbrev pub IsMachineOf : List EventDef → Past → ℕ → Option Machine → Type 0
IsMachineOf events past lines None = past ≡ []
IsMachineOf events past lines (Some machine) =
    Follows events (standard_info_of 1 1) past machine × (steps_of machine ≤ lines) × (has_stepped past ≡ true)

-- The step of the line with this number can't be made, and the line is refused for that.
abbrev pub IsUnlawful : List EventDef → Past → Step → ℕ → Refusal → Type 0
IsUnlawful events past step number refusal =
    (kind : Kind) × (objection_to events past step ≡ Some kind) × (refusal ≡ record { line = number; column = 1; reason = reason.Step kind })
