-- What the words of the command line mean (this project's profile).
use Rattle.std.specs.Prelude.{ℕ, Bool, true, false, not, ◌≤◌, ◌-◌, ◌^◌, if◌then◌else◌, List, [], ◌∷◌, codes, Option, Some, None, is_some, option_map}
use Rattle.ep_defs.specs.Event.{is_same_text}
use Rattle.ep_plan.specs.Words.{number_in, at_least, at_most}
use Rattle.pt_words.specs.Session.{session_in}
use Rattle.pt_gen.specs.declared.limits.TheConstants.{MOST_WRITES}
use Rattle.pt_events.specs.Words.{form_in}
use Rattle.pt_gen.specs.Words as gen
use Rattle.pt_client.specs.Answers as client
use Rattle.pt_client.specs.Words.{command_in}
use Rattle.pt_client.specs.Greeting.{greet_in}
use Rattle.pt_run.specs.Words as run
use Rattle.pt_asked.specs.Words as sample
use Rattle.pt_cli.specs.declared.words.Command.{Command}
use Rattle.pt_cli.specs.declared.words.Command.TheVariants as command

-- The number of a session is from 1 to 4,294,967,295.
abbrev pub session_number : List ℕ → Option ℕ
session_number digits = at_least 1 (at_most (2 ^ 32 - 1) (number_in (2 ^ 64 - 1) digits))

-- The session that the option names, and session 1 where it isn't there.
abbrev pub session_asked : Option (Option (List ℕ)) → Option ℕ
session_asked (Some (Some digits)) = session_number digits
session_asked (Some None) = Some 1
session_asked None = None

-- The words are `replay`, with the option `--session N` or `--session=N` or without.
abbrev pub replay_in : List (List ℕ) → Option ℕ
replay_in [] = None
replay_in (name ∷ words) = if is_same_text name (codes "replay") then session_asked (session_in words) else None

-- The words are `report`.
abbrev pub is_report : List (List ℕ) → Bool
is_report (name ∷ []) = is_same_text name (codes "report")
is_report words = false

-- The first that is there. Of the commands that words are read as, one at most is, since each has a name of its own.
abbrev pub first_some : {A : Type 0} → List (Option A) → Option A
first_some [] = None
first_some (Some a ∷ others) = Some a
first_some (None ∷ others) = first_some others

-- What the words ask for.
abbrev pub meant : List (List ℕ) → Option Command
meant words =
    first_some
    (option_map (λ session. command.Replay session) (replay_in words)
    ∷ (if is_report words then Some command.Report else None)
    ∷ option_map (λ form. command.Events form) (form_in words)
    ∷ option_map (λ asked. command.Gen asked) (gen.asked_in words)
    ∷ option_map (λ asked. command.Trace asked) (sample.asked_in (codes "trace") words)
    ∷ option_map (λ asked. command.Watch asked) (sample.asked_in (codes "watch") words)
    ∷ option_map (λ asked. command.Run asked) (run.asked_in words)
    ∷ option_map (λ asked. command.Client asked) (command_in words)
    ∷ option_map (λ target. command.Greet target) (greet_in words)
    ∷ [])

-- ---- what such words keep to

-- What is asked for can be done.
abbrev pub Fits : Command → Type 0
Fits (command.Replay session) = Unit {0}
Fits command.Report = Unit {0}
Fits (command.Events form) = Unit {0}
Fits (command.Gen asked) = asked.writes ≤ MOST_WRITES
Fits (command.Trace asked) = sample.Fits asked
Fits (command.Watch asked) = sample.Fits asked
Fits (command.Run asked) = run.Fits asked
Fits (command.Client asked) = client.Fits asked
Fits (command.Greet target) = Unit {0}

-- ---- what a command touches

-- It waits for nobody.
abbrev pub is_plain : Option Command → Bool
is_plain (Some (command.Replay session)) = true
is_plain (Some command.Report) = true
is_plain (Some (command.Events form)) = true
is_plain (Some (command.Gen asked)) = true
is_plain asked = false

-- It reads the input.
abbrev pub reads_input : Option Command → Bool
reads_input (Some (command.Replay session)) = true
reads_input (Some command.Report) = true
reads_input (Some (command.Events form)) = true
reads_input asked = false

-- It calls a peer, or a tool.
abbrev pub calls_peer : Option Command → Bool
calls_peer (Some (command.Run asked)) = is_some asked.reverse
calls_peer (Some (command.Client asked)) = true
calls_peer asked = false

-- It waits for peers that come in.
abbrev pub awaits_peers : Option Command → Bool
awaits_peers (Some (command.Run asked)) = not (is_some asked.reverse)
awaits_peers (Some (command.Greet target)) = true
awaits_peers asked = false

-- It can end with the link to a peer in its hands.
abbrev pub has_peer : Option Command → Bool
has_peer (Some (command.Greet target)) = true
has_peer asked = calls_peer asked

-- It runs the diagnostic server.
abbrev pub runs_server : Option Command → Bool
runs_server (Some (command.Run asked)) = true
runs_server asked = false

-- It runs threads under a session of its own.
abbrev pub runs_threads : Option Command → Bool
runs_threads (Some (command.Trace asked)) = true
runs_threads (Some (command.Watch asked)) = true
runs_threads asked = false

-- It writes its answer as it runs.
abbrev pub writes_early : Option Command → Bool
writes_early (Some (command.Trace asked)) = true
writes_early asked = false
