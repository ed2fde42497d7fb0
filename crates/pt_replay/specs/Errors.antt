-- The error lines, each with its line feed.
use Rattle.std.specs.Prelude.{ℕ, List, [], ◌∷◌, codes}
use Rattle.std.specs.List.{concat}
use Rattle.std.specs.Fmt.{decimal}
use Rattle.ep_model.specs.Names.{step_kind_name}
use Rattle.ep_plan.specs.Lines.{kind_name}
use Rattle.pt_replay.specs.declared.errors.Reason.{Reason}
use Rattle.pt_replay.specs.declared.errors.Reason.TheVariants as reason
use Rattle.pt_replay.specs.declared.errors.Refusal.{Refusal}

-- The name of a reason, as an error line has it.
abbrev pub reason_name : Reason → List ℕ
reason_name (reason.Line kind) = kind_name kind
reason_name (reason.Step kind) = step_kind_name kind

-- A line that is refused.
abbrev pub refusal_error : Refusal → List ℕ
refusal_error refusal =
    concat (codes "error: line " ∷ decimal refusal.line ∷ codes " column " ∷ decimal refusal.column ∷ codes ": " ∷ reason_name refusal.reason ∷ (10 ∷ []) ∷ [])

-- A schedule at whose end the session is not finished.
abbrev pub unfinished_error : ℕ → List ℕ
unfinished_error session = concat (codes "error: end: NotFinished " ∷ decimal session ∷ (10 ∷ []) ∷ [])
