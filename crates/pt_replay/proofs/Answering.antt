-- What can't be said of the same bytes.
use Rattle.std.proofs.Common.{◌≡◌, ℕ, List, ap, subst, inl, inr}
use Rattle.ep_model.specs.History.{is_finished}
use Rattle.ep_plan.specs.declared.line.Line.{Line}
use Rattle.pt_replay.specs.declared.errors.Refusal.{Refusal}
use Rattle.pt_replay.specs.Schedule.{past_of, IsSchedule, IsRefused}
use Rattle.pt_replay.specs.Replay.{IsReplayed, IsUnfinished, Finishes, IsError}

module _ (one_schedule : (bytes : List ℕ) (a b : List Line) → IsSchedule bytes a → IsSchedule bytes b → a ≡ b) (not_both : (bytes : List ℕ) (lines : List Line) (refusal : Refusal) → IsSchedule bytes lines → IsRefused bytes refusal → ⊥) where
  -- A text does not both finish a session and leave it unfinished.
  unfinished-not : (session : ℕ) (bytes : List ℕ) → Finishes session bytes → IsUnfinished session bytes → ⊥
  unfinished-not session bytes finishes unfinished =
      let lines = one_schedule bytes finishes.0 unfinished.0 finishes.1 unfinished.1 in
      let ended : is_finished session (past_of finishes.0) ≡ is_finished session (past_of unfinished.0) = ap (λ ls. is_finished session (past_of ls)) lines in
      let yes = finishes.2 in
      let not = unfinished.2 in
      cc

  -- The bytes that were read are those that the input had left.
  pub replayed-not_refused : (session : ℕ) (bytes left stream : List ℕ) (refusal : Refusal) → left ≡ bytes → IsReplayed session bytes stream → IsRefused left refusal → ⊥
  replayed-not_refused session bytes left stream refusal same replayed refused =
      not_both bytes replayed.lines refusal replayed.schedule (subst (λ bs. IsRefused bs refusal) same refused)

  pub replayed-not_unfinished : (session : ℕ) (bytes left stream : List ℕ) → left ≡ bytes → IsReplayed session bytes stream → IsUnfinished session left → ⊥
  replayed-not_unfinished session bytes left stream same replayed unfinished =
      unfinished-not session bytes (replayed.lines, replayed.schedule, replayed.finished) (subst (λ bs. IsUnfinished session bs) same unfinished)

  pub error-not_finished : (session : ℕ) (bytes left text : List ℕ) → left ≡ bytes → IsError session bytes text → Finishes session left → ⊥
  error-not_finished session bytes left text same (inl error) finishes =
      let here = subst (λ bs. Finishes session bs) same finishes in
      not_both bytes here.0 error.0 here.1 error.1
  error-not_finished session bytes left text same (inr error) finishes =
      unfinished-not session bytes (subst (λ bs. Finishes session bs) same finishes) error.0
