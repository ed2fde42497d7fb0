-- A whole write of a thread as steps.
use Rattle.std.specs.Prelude.{ℕ, List, [], ◌∷◌, ◌++◌, map, reverse}
use Rattle.ep_defs.specs.declared.session.Write.{Write}
use Rattle.ep_model.specs.declared.step.Step.{Step}
use Rattle.ep_model.specs.declared.step.Step.TheVariants as step
use Rattle.ep_model.specs.History.{Past}

-- The thread begins the write, which is shown to these sessions in their order, and ends it.
abbrev pub whole_write : ℕ → ℕ → Write → List ℕ → List Step
whole_write thread stamp write sessions =
    step.Begin thread stamp write ∷ map (λ session. step.Show thread session) sessions ++ step.End thread ∷ []

-- These steps were made after those before.
abbrev pub with_write : ℕ → ℕ → Write → List ℕ → Past → Past
with_write thread stamp write sessions past = reverse (whole_write thread stamp write sessions) ++ past
