-- The steps that are still to come, from where a generator stands. All of it is this project's own.
use Rattle.std.specs.Prelude.{ℕ, ◌+◌, ◌-◌, ◌<◌, ◌≤◌, List, [], ◌∷◌, ◌++◌, map, filter, Option, Some, None}
use Rattle.std.specs.List.{flat_map, range_with_len}
use Rattle.ep_model.specs.declared.step.Step.{Step}
use Rattle.ep_model.specs.declared.step.Step.TheVariants as step
use Rattle.pt_gen.specs.declared.limits.TheConstants.{NARROW, THREADS, WIDE}
use Rattle.pt_gen.specs.declared.session.Session.{Session}
use Rattle.pt_gen.specs.declared.session.Session.TheVariants.{Wide, Narrow}
use Rattle.pt_gen.specs.declared.stage.Stage.{Stage}
use Rattle.pt_gen.specs.declared.stage.Stage.TheVariants as stage
use Rattle.pt_gen.specs.declared.walk.Walk.{Walk}
use Rattle.pt_gen.specs.declared.walk.Walk.TheVariants as walk
use Rattle.pt_gen.specs.Schedule.{threads, config_of, thread_at, write_at, gets, from_each, sweep_after, round_at, closing}

-- The session's number.
abbrev pub number_of : Session → ℕ
number_of Wide = WIDE
number_of Narrow = NARROW

-- The sessions after it.
abbrev pub after_session : Session → List ℕ
after_session Wide = NARROW ∷ []
after_session Narrow = []

-- The threads from this one on.
abbrev pub threads_from : ℕ → List ℕ
threads_from thread = range_with_len thread (THREADS + 1 - thread)

-- ---- on the way over all sessions and threads

-- What one session still does.
abbrev pub of_session : (ℕ → Step) → ℕ → Walk → List Step
of_session take session (walk.Take s thread) = flat_map (λ t. take t ∷ step.Give session ∷ []) (threads_from thread)
of_session take session (walk.Give s thread) =
    step.Give session ∷ flat_map (λ t. take t ∷ step.Give session ∷ []) (threads_from (thread + 1))
of_session take session (walk.Tell s) = []

-- Whose turn it is.
abbrev pub session_of : Walk → Session
session_of (walk.Take session thread) = session
session_of (walk.Give session thread) = session
session_of (walk.Tell session) = session

-- Taking from each thread, and then telling.
abbrev pub walked : (ℕ → ℕ → Step) → (ℕ → Step) → Walk → List Step
walked take tell w =
    of_session (take (number_of (session_of w))) (number_of (session_of w)) w
    ++ tell (number_of (session_of w)) ∷ []
    ++ flat_map (λ s. from_each s (take s) ++ tell s ∷ []) (after_session (session_of w))

-- What comes first.
abbrev pub first_walked : (ℕ → ℕ → Step) → (ℕ → Step) → Walk → Step
first_walked take tell (walk.Take session thread) = take (number_of session) thread
first_walked take tell (walk.Give session thread) = step.Give (number_of session)
first_walked take tell (walk.Tell session) = tell (number_of session)

-- What is left of the way, if anything is.
abbrev pub left_to_walk : (ℕ → ℕ → Step) → (ℕ → Step) → Option Walk → List Step
left_to_walk take tell None = []
left_to_walk take tell (Some w) = walked take tell w

-- Threads are numbered from 1.
abbrev pub IsThread : ℕ → Type 0
IsThread thread = (1 ≤ thread) × (thread ≤ THREADS)

-- The thread of a place in a sweep is one of the schedule.
abbrev pub IsWalk : Walk → Type 0
IsWalk (walk.Take session thread) = IsThread thread
IsWalk (walk.Give session thread) = IsThread thread
IsWalk (walk.Tell session) = Unit {0}

-- ---- in the whole

-- The rounds from this one on, and the end.
abbrev pub rounds_from : ℕ → ℕ → ℕ → List Step
rounds_from seed rounds round = flat_map (round_at seed) (range_with_len round (rounds - round)) ++ closing rounds

-- The end of a round's write, and what comes then.
abbrev pub end_from : ℕ → ℕ → ℕ → List Step
end_from seed rounds round = step.End (thread_at seed round) ∷ sweep_after (round + 1) ++ rounds_from seed rounds (round + 1)

-- The write is shown to those of these sessions that get it.
abbrev pub shows_from : ℕ → ℕ → List ℕ → List Step
shows_from seed round sessions =
    map (λ s. step.Show (thread_at seed round) s) (filter (gets (write_at seed round)) sessions)

-- The steps that are still to come from a place in the schedule on.
abbrev pub to_come : ℕ → ℕ → Stage → List Step
to_come seed rounds (stage.Accept session) =
    map (λ s. step.Accept s (config_of s)) (number_of session ∷ after_session session)
    ++ flat_map (λ s. map (λ t. step.Open s t) threads) (WIDE ∷ NARROW ∷ [])
    ++ rounds_from seed rounds 0
to_come seed rounds (stage.Open session thread) =
    map (λ t. step.Open (number_of session) t) (threads_from thread)
    ++ flat_map (λ s. map (λ t. step.Open s t) threads) (after_session session)
    ++ rounds_from seed rounds 0
to_come seed rounds (stage.Begin round) = rounds_from seed rounds round
to_come seed rounds (stage.Show round session) =
    step.Show (thread_at seed round) (number_of session) ∷ shows_from seed round (after_session session) ++ end_from seed rounds round
to_come seed rounds (stage.End round) = end_from seed rounds round
to_come seed rounds (stage.Sweep round w) =
    walked (λ s t. step.Steal s t) (λ s. step.Point s (round + 1)) w ++ rounds_from seed rounds (round + 1)
to_come seed rounds (stage.Close w) = walked (λ s t. step.Close s t) (λ s. step.Finish s rounds) w
to_come seed rounds stage.Ended = []

-- The step of a stage.
abbrev pub next_step : ℕ → ℕ → Stage → Option Step
next_step seed rounds (stage.Accept session) = Some (step.Accept (number_of session) (config_of (number_of session)))
next_step seed rounds (stage.Open session thread) = Some (step.Open (number_of session) thread)
next_step seed rounds (stage.Begin round) = Some (step.Begin (thread_at seed round) round (write_at seed round))
next_step seed rounds (stage.Show round session) = Some (step.Show (thread_at seed round) (number_of session))
next_step seed rounds (stage.End round) = Some (step.End (thread_at seed round))
next_step seed rounds (stage.Sweep round w) = Some (first_walked (λ s t. step.Steal s t) (λ s. step.Point s (round + 1)) w)
next_step seed rounds (stage.Close w) = Some (first_walked (λ s t. step.Close s t) (λ s. step.Finish s rounds) w)
next_step seed rounds stage.Ended = None

-- A stage names threads and rounds that are there.
abbrev pub IsStage : ℕ → Stage → Type 0
IsStage rounds (stage.Accept session) = Unit {0}
IsStage rounds (stage.Open session thread) = IsThread thread
IsStage rounds (stage.Begin round) = round < rounds
IsStage rounds (stage.Show round session) = round < rounds
IsStage rounds (stage.End round) = round < rounds
IsStage rounds (stage.Sweep round w) = (round < rounds) × IsWalk w
IsStage rounds (stage.Close w) = IsWalk w
IsStage rounds stage.Ended = Unit {0}
