-- What the steps so far have come to. A past is the list of them, the newest first.
use Rattle.std.specs.Prelude.{ℕ, ◌+◌, Bool, false, ◌&&◌, ◌||◌, not, List, [], ◌∷◌, ◌++◌, length, take, drop, filter, Option, Some, None, unwrap_or, nat_lt, ◌==◌, if◌then◌else◌}
use Rattle.std.specs.Int.{is_in_range}
use Rattle.std.specs.List.{list_any, range_with_len}
use Rattle.std.specs.Option.{option_map_or}
use Rattle.ep_defs.specs.declared.limits.TheConstants.{THREADS}
pub use Rattle.ep_defs.specs.Definitions.{definition_at as event_at}
use Rattle.ep_defs.specs.Definitions.{definition_at}
use Rattle.ep_defs.specs.declared.event.EventDef.{EventDef}
use Rattle.ep_defs.specs.declared.session.Config.{Config}
use Rattle.ep_defs.specs.declared.session.Write.{Write}
use Rattle.ep_defs.specs.Admits.{session_admits}
use Rattle.ep_model.specs.declared.step.Step.{Step}
use Rattle.ep_model.specs.declared.step.Step.TheVariants as step

-- The list of the steps so far.
abbrev pub Past : Type 0
Past = List Step

-- ---- sessions

-- What the session was accepted with.
abbrev pub config_of : ℕ → Past → Option Config
config_of session [] = None
config_of session (step.Accept s config ∷ past) = if s == session then Some config else config_of session past
config_of session (_ ∷ past) = config_of session past

-- The sessions that were accepted, the newest first.
abbrev pub accepted : Past → List ℕ
accepted [] = []
accepted (step.Accept s config ∷ past) = s ∷ accepted past
accepted (_ ∷ past) = accepted past

-- From Accept to Finish.
abbrev pub is_present : ℕ → Past → Bool
is_present session [] = false
is_present session (step.Accept s config ∷ past) = (s == session) || is_present session past
is_present session (step.Finish s stamp ∷ past) = not (s == session) && is_present session past
is_present session (_ ∷ past) = is_present session past

-- Its stream has ended.
abbrev pub is_finished : ℕ → Past → Bool
is_finished session [] = false
is_finished session (step.Finish s stamp ∷ past) = (s == session) || is_finished session past
is_finished session (_ ∷ past) = is_finished session past

-- The sessions that are present.
abbrev pub present : Past → List ℕ
present past = filter (λ s. is_present s past) (accepted past)

-- ---- threads

-- The threads that came, the newest first. Threads 1 to 256 are there from the start.
abbrev pub entered : Past → List ℕ
entered [] = []
entered (step.Enter t ∷ past) = t ∷ entered past
entered (_ ∷ past) = entered past

-- The thread left.
abbrev pub has_left : ℕ → Past → Bool
has_left thread [] = false
has_left thread (step.Leave t ∷ past) = (t == thread) || has_left thread past
has_left thread (_ ∷ past) = has_left thread past

-- The thread is there from the start, or came.
abbrev pub was_there : ℕ → Past → Bool
was_there thread past = is_in_range 1 THREADS thread || list_any (λ t. t == thread) (entered past)

-- From the start, or from its Enter, to its Leave.
abbrev pub is_there : ℕ → Past → Bool
is_there thread past = was_there thread past && not (has_left thread past)

-- ---- a session on a thread

-- The number in its place among the others.
abbrev pub insert_ascending : ℕ → List ℕ → List ℕ
insert_ascending n [] = n ∷ []
insert_ascending n (m ∷ ms) = if nat_lt n m then n ∷ m ∷ ms else m ∷ insert_ascending n ms

-- The threads on which the session was ever opened, ascending.
abbrev pub opened : ℕ → Past → List ℕ
opened session [] = []
opened session (step.Open s t ∷ past) = if s == session then insert_ascending t (opened session past) else opened session past
opened session (_ ∷ past) = opened session past

-- From Open to Close.
abbrev pub is_open : ℕ → ℕ → Past → Bool
is_open session thread [] = false
is_open session thread (step.Open s t ∷ past) = ((s == session) && (t == thread)) || is_open session thread past
is_open session thread (step.Close s t ∷ past) = not ((s == session) && (t == thread)) && is_open session thread past
is_open session thread (_ ∷ past) = is_open session thread past

-- A row is taken while its thread is there, or a session is open on that thread (this project's profile).
abbrev pub takes_row : ℕ → Past → Bool
takes_row thread past = is_there thread past || list_any (λ s. is_open s thread past) (present past)

-- The threads whose rows are taken.
abbrev pub rows : Past → List ℕ
rows past = filter (λ t. takes_row t past) (entered past ++ range_with_len 1 THREADS)

-- ---- writes

-- All writes of a thread, the oldest first.
abbrev pub writes_of : ℕ → Past → List Write
writes_of thread [] = []
writes_of thread (step.Begin t stamp write ∷ past) = if t == thread then writes_of thread past ++ write ∷ [] else writes_of thread past
writes_of thread (_ ∷ past) = writes_of thread past

-- How many writes the thread had begun where the session was opened on it.
abbrev pub opened_at : ℕ → ℕ → Past → Option ℕ
opened_at session thread [] = None
opened_at session thread (step.Open s t ∷ past) =
    if (s == session) && (t == thread) then Some (length (writes_of thread past)) else opened_at session thread past
opened_at session thread (_ ∷ past) = opened_at session thread past

-- The same where it was closed.
abbrev pub closed_at : ℕ → ℕ → Past → Option ℕ
closed_at session thread [] = None
closed_at session thread (step.Close s t ∷ past) =
    if (s == session) && (t == thread) then Some (length (writes_of thread past)) else closed_at session thread past
closed_at session thread (_ ∷ past) = closed_at session thread past

-- Where it was closed, or the writes so far.
abbrev pub to_of : ℕ → ℕ → Past → ℕ
to_of session thread past = unwrap_or (closed_at session thread past) (length (writes_of thread past))

-- From Begin to End.
abbrev pub in_write : ℕ → Past → Bool
in_write thread [] = false
in_write thread (step.Begin t stamp write ∷ past) = (t == thread) || in_write thread past
in_write thread (step.End t ∷ past) = not (t == thread) && in_write thread past
in_write thread (_ ∷ past) = in_write thread past

-- A write with the stamp of its Begin.
pub record Begun : Type 0 where
  pub stamp : ℕ
  pub write : Write

-- The last write that the thread began.
abbrev pub last_begun : ℕ → Past → Option Begun
last_begun thread [] = None
last_begun thread (step.Begin t stamp write ∷ past) = if t == thread then Some (record { stamp = stamp; write = write }) else last_begun thread past
last_begun thread (_ ∷ past) = last_begun thread past

-- ---- admission

-- The configuration admits the event of the write.
abbrev pub admits_write : List EventDef → Option Config → Write → Bool
admits_write definitions config write =
    option_map_or (λ c. option_map_or (λ def. session_admits c def) (definition_at definitions write.event) false) config false

-- The writes of a list from this place on that a session gets.
abbrev pub admitted_from : List EventDef → Option Config → ℕ → List Write → List Write
admitted_from definitions config from writes = filter (λ write. admits_write definitions config write) (drop from writes)

-- The writes of a thread that a session gets, between its opening and its closing there; none where it was never
-- opened.
abbrev pub admitted : List EventDef → ℕ → ℕ → Past → List Write
admitted definitions session thread past =
    option_map_or
    (λ from. admitted_from definitions (config_of session past) from (take (to_of session thread past) (writes_of thread past)))
    (opened_at session thread past)
    []

-- From the Begin of a write that the session gets, to its Show.
abbrev pub is_due : List EventDef → ℕ → ℕ → Past → Bool
is_due definitions session thread [] = false
is_due definitions session thread (step.Begin t stamp write ∷ past) =
    if t == thread
    then is_open session thread past && admits_write definitions (config_of session past) write
    else is_due definitions session thread past
is_due definitions session thread (step.Show t s ∷ past) = not ((s == session) && (t == thread)) && is_due definitions session thread past
is_due definitions session thread (_ ∷ past) = is_due definitions session thread past

-- How many writes of a thread were shown to a session. The k-th of them has the number k.
abbrev pub shows : ℕ → ℕ → Past → ℕ
shows session thread [] = 0
shows session thread (step.Show t s ∷ past) = (if (s == session) && (t == thread) then 1 else 0) + shows session thread past
shows session thread (_ ∷ past) = shows session thread past
