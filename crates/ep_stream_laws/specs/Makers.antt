-- Which steps are a session's own, and which of them its stream tells of (this project's profile).
use Rattle.std.specs.Prelude.{ℕ, Bool, false, ◌==◌}
use Rattle.ep_model.specs.declared.step.Step.{Step}
use Rattle.ep_model.specs.declared.step.Step.TheVariants as step

-- The session makes the step. A Show is made by the thread whose write it shows.
abbrev pub is_made_by : ℕ → Step → Bool
is_made_by session (step.Accept s config) = s == session
is_made_by session (step.Open s t) = s == session
is_made_by session (step.Enter t) = false
is_made_by session (step.Leave t) = false
is_made_by session (step.Begin t stamp write) = false
is_made_by session (step.Show t s) = false
is_made_by session (step.End t) = false
is_made_by session (step.Steal s t) = s == session
is_made_by session (step.Give s) = s == session
is_made_by session (step.Point s stamp) = s == session
is_made_by session (step.Close s t) = s == session
is_made_by session (step.Finish s stamp) = s == session

-- The session's stream tells of the step: what a Steal or a Close takes, or how far the threads had come.
abbrev pub is_told_by : ℕ → Step → Bool
is_told_by session (step.Steal s t) = s == session
is_told_by session (step.Close s t) = s == session
is_told_by session (step.Point s stamp) = s == session
is_told_by session (step.Finish s stamp) = s == session
is_told_by session _ = false
