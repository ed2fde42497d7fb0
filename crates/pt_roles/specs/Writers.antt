-- What the writers of a run have. All of it is this project's own.
use Rattle.std.specs.Prelude.{◌≡◌, ℕ, zero, suc, ◌+◌, ◌-◌, List, [], ◌∷◌, ◌++◌, Some, slice_get}
use Rattle.ep_tie.specs.Tied.{Tied}
use Rattle.ep_guarded.specs.declared.agreed.Agreed.{Agreed}
use Rattle.ep_guarded.specs.Tied.{stand_in, left_in, thread_of}
use Rattle.pt_load.specs.Shape.{Drafted}
use Rattle.pt_load.specs.declared.plan.Plan.{Plan}

-- What gives the writes of the thread that a row, by its number, serves in a life.
abbrev pub drafted : Plan → ℕ → ℕ → Drafted
drafted plan number life = record { plan = plan; thread = thread_of plan.threads number life }

-- The same for so many lives from this one on, the last one first.
abbrev pub drafts_from : Plan → ℕ → ℕ → ℕ → List Drafted
drafts_from plan number life zero = []
drafts_from plan number life (suc count) = drafts_from plan number (life + 1) count ++ drafted plan number life ∷ []

-- A writer: the half of the tie to its row, and what gives the writes of the lives that are to come.
pub record WriterState : Type 0 where
  pub half : Tied Agreed
  pub drafts : List Drafted

-- The half is of the tie to the row with this number, whose thread of this life has begun so many writes.
pub record IsAt (plan : Plan) (number life index : ℕ) (half : Tied Agreed) : Type 0 where
  pub place : half.place ≡ number
  pub stands : stand_in half.value ≡ Some (record { thread = thread_of plan.threads number life; index = index })

-- The same, where the thread has made all its writes and has left the row.
pub record HasLeft (plan : Plan) (number life : ℕ) (half : Tied Agreed) : Type 0 where
  pub place : half.place ≡ number
  pub left : left_in half.value ≡ Some (record { thread = thread_of plan.threads number life; index = plan.writes })

-- The writer of the row with this number, whose thread of this life has begun so many writes, has what gives the writes of
-- the lives from this one on.
pub record StandsAt (plan : Plan) (lives number life index next : ℕ) (writer : WriterState) : Type 0 where
  pub at : IsAt plan number life index writer.half
  pub drafts_are : writer.drafts ≡ drafts_from plan number next (lives - next)

-- They are the writers of the rows, by number, and no thread has made a write.
abbrev pub HaveYetToWrite : Plan → ℕ → List WriterState → Type 0
HaveYetToWrite plan lives writers = (k : ℕ) (writer : WriterState) → slice_get writers k ≡ Some writer → StandsAt plan lives k 0 0 0 writer

-- They are the writers of the rows, by number, and each row's last thread has made all its writes.
abbrev pub HaveWritten : Plan → ℕ → List WriterState → Type 0
HaveWritten plan lives writers =
    (k : ℕ) (writer : WriterState) → slice_get writers k ≡ Some writer → StandsAt plan lives k (lives - 1) plan.writes lives writer

-- The halves of the ties to the rows, by number, where each row's last thread has made all its writes.
abbrev pub AreAtEnd : Plan → ℕ → List (Tied Agreed) → Type 0
AreAtEnd plan lives halves = (k : ℕ) (half : Tied Agreed) → slice_get halves k ≡ Some half → IsAt plan k (lives - 1) plan.writes half

-- What gives the writes of each row, by number, in all its lives.
abbrev pub AreRowDrafts : Plan → ℕ → List (List Drafted) → Type 0
AreRowDrafts plan lives drafts = (k : ℕ) (ds : List Drafted) → slice_get drafts k ≡ Some ds → ds ≡ drafts_from plan k 0 lives
