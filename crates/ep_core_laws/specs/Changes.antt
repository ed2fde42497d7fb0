-- Which steps change what is kept (this project's profile).
use Rattle.std.specs.Prelude.{ℕ, Bool, false, ◌&&◌, ◌==◌}
use Rattle.ep_model.specs.declared.step.Step.{Step}
use Rattle.ep_model.specs.declared.step.Step.TheVariants as step

-- The step changes what the session has of the thread: it opens or closes the session there, shows it a write of the
-- thread, or takes what is pending.
abbrev pub changes_slot : ℕ → ℕ → Step → Bool
changes_slot session thread (step.Open s t) = (s == session) && (t == thread)
changes_slot session thread (step.Show t s) = (s == session) && (t == thread)
changes_slot session thread (step.Steal s t) = (s == session) && (t == thread)
changes_slot session thread (step.Close s t) = (s == session) && (t == thread)
changes_slot session thread _ = false

-- The step changes how many chunks of the session are free: it accepts the session, shows it a write, or gives chunks
-- back. What is taken stays held.
abbrev pub changes_pool : ℕ → Step → Bool
changes_pool session (step.Accept s config) = s == session
changes_pool session (step.Show t s) = s == session
changes_pool session (step.Give s) = s == session
changes_pool session _ = false
