-- What the writers of a run have. All of it is this project's own.
use Rattle.std.specs.Prelude.{◌≡◌, ℕ, ◌+◌, List, Some, slice_get}
use Rattle.ep_tie.specs.Tied.{Tied}
use Rattle.ep_guarded.specs.declared.agreed.Agreed.{Agreed}
use Rattle.ep_guarded.specs.Tied.{stand_in}
use Rattle.pt_load.specs.Shape.{Drafted}
use Rattle.pt_load.specs.declared.plan.Plan.{Plan}

-- The draft of each thread, the first being thread 1.
abbrev pub AreDrafts : Plan → List Drafted → Type 0
AreDrafts plan drafts = (k : ℕ) (draft : Drafted) → slice_get drafts k ≡ Some draft → draft ≡ record { plan = plan; thread = k + 1 }

-- A writer: the half of the tie to its row, and what gives its writes.
pub record WriterState : Type 0 where
  pub half : Tied Agreed
  pub draft : Drafted

-- It is the writer of the row with this number, whose thread has begun so many writes.
pub record StandsAt (plan : Plan) (number index : ℕ) (writer : WriterState) : Type 0 where
  pub place : writer.half.place ≡ number
  pub stands : stand_in writer.half.value ≡ Some (record { thread = number + 1; index = index })
  pub drafted : writer.draft ≡ record { plan = plan; thread = number + 1 }

-- They are the writers of the rows, by number, and each thread has begun so many writes.
abbrev pub AreReady : Plan → ℕ → List WriterState → Type 0
AreReady plan index writers = (k : ℕ) (writer : WriterState) → slice_get writers k ≡ Some writer → StandsAt plan k index writer
