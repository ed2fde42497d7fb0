-- What a line of a trace's events tells (this project's profile).
use Rattle.std.specs.Prelude.{ℕ, List, [], ◌∷◌, ◌==◌, if◌then◌else◌}
use Rattle.ep_defs.specs.Entry.{EventEntry, PointEntry}
use Rattle.pt_lines.specs.declared.origin.Origin.{Origin}

-- What a line tells, with what the stream has said of the traced program before: how many numbers a thread leaves out at this
-- stamp, an event, with the processor and the thread that it names beside its capture thread, or a point.
pub data Line : Type 0 where
  Lost : (origin : Origin) (stamp thread count : ℕ) → Line
  Event : (origin : Origin) (processor thread : ℕ) (event : EventEntry) → Line
  Point : (origin : Origin) (point : PointEntry) → Line

-- A line where some are.
abbrev pub lost_if : Origin → ℕ → ℕ → ℕ → List Line
lost_if origin stamp thread count = if count == 0 then [] else Lost origin stamp thread count ∷ []
