-- What a run came to, and how it is printed (this project's profile).
use Rattle.std.specs.Prelude.{ℕ, List, [], ◌∷◌, ◌++◌, codes}
use Rattle.std.specs.List.{flat_map, sum_by}
use Rattle.ep_defs.specs.declared.session.Marks.{Marks}
use Rattle.ep_stream.specs.declared.session.Fate.{Fate}
use Rattle.ep_stream.specs.declared.session.Fate.TheVariants as fates
use Rattle.pt_load.specs.declared.plan.Plan.{Plan}
use Rattle.pt_print.specs.Printed.{number_part, text_part}

-- Why a session ended, in a word.
abbrev pub fate_text : Fate → List ℕ
fate_text (fates.Requested conn) = codes "stop"
fate_text fates.ProgramEnd = codes "end"
fate_text fates.LinkFault = codes "link"
fate_text fates.TooLong = codes "long"
fate_text fates.OutOfMemory = codes "memory"

-- What is told of a session.
pub record SessionTold : Type 0 where
  pub id : ℕ
  pub marks : List Marks
  pub fate : Fate

-- ---- lines

-- A line's word and its numbers.
abbrev pub begun_line : List ℕ → List ℕ → List ℕ
begun_line word numbers = word ++ flat_map number_part numbers

-- What was asked for.
abbrev pub plan_line : Plan → List ℕ
plan_line plan = begun_line (codes "run") (plan.threads ∷ plan.writes ∷ []) ++ 10 ∷ []

-- A session: how many events of all threads it wrote, how many were refused, and why it ended.
abbrev pub session_line : SessionTold → List ℕ
session_line session =
    begun_line (codes "session") (session.id ∷ sum_by (λ mark. mark.taken) session.marks ∷ sum_by (λ mark. mark.refused) session.marks ∷ [])
    ++ text_part (fate_text session.fate) ++ 10 ∷ []

-- What the session of this id had of one thread.
abbrev pub mark_line : ℕ → Marks → List ℕ
mark_line id mark = begun_line (codes "mark") (id ∷ mark.thread ∷ mark.from ∷ mark.to ∷ mark.taken ∷ mark.refused ∷ []) ++ 10 ∷ []

-- A session, and under it what it had of each thread.
abbrev pub session_lines : SessionTold → List ℕ
session_lines session = session_line session ++ flat_map (mark_line session.id) session.marks

-- How many connections there were.
abbrev pub connections_line : ℕ → List ℕ
connections_line connections = begun_line (codes "connections") (connections ∷ []) ++ 10 ∷ []

-- The lines of a run.
abbrev pub run_text : Plan → List SessionTold → ℕ → List ℕ
run_text plan sessions connections = plan_line plan ++ flat_map session_lines sessions ++ connections_line connections
