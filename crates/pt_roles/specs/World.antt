-- What is fixed of a run from its beginning. All of it is this project's own.
use Rattle.std.specs.Prelude.{◌≡◌, ℕ, ◌-◌, ◌<◌, ◌≤◌, ◌++◌, List, [], map}
use Rattle.std.specs.List.{range_with_len}
use Rattle.ep_defs.specs.declared.limits.TheConstants.{SESSIONS, THREADS, WRITES}
use Rattle.ep_defs.specs.declared.event.EventDef.{EventDef}
use Rattle.ep_defs.specs.declared.session.Facts.{Facts}
use Rattle.ep_defs.specs.declared.session.Write.{Write}
use Rattle.ep_defs.specs.Session.{standard_info_of}
use Rattle.ep_guarded.specs.Tied.{thread_of}
use Rattle.pt_load.specs.Sample.{sample}
use Rattle.pt_load.specs.declared.plan.Plan.{Plan}
use Rattle.pt_writers.specs.Written.{no_plan}
pub use Rattle.pt_writers.specs.Written.{writes_of}
use Rattle.ipc_body.specs.Answering.{session_reply}
use Rattle.pt_stream.specs.Setting.{Setting}
use Rattle.pt_roles.specs.declared.limits.TheConstants.{LIVES}
use Rattle.pt_roles.specs.declared.options.LiveOptions.{LiveOptions}

-- What the run writes, what is asked of it beside that, what the program says of itself, and the bytes that each link has
-- taken before it comes in.
pub record WorldState : Type 0 where
  pub plan : Plan
  pub options : LiveOptions
  pub facts : Facts
  pub greeting : List ℕ

-- A run of no thread.
abbrev pub no_world : WorldState
no_world =
    record {
      plan = no_plan;
      options = record { wait = 0; streamers = 0; lives = 0 };
      facts =
          record {
            process_id = 0;
            cookie = [];
            command_line = [];
            system = [];
            arch = [];
            info = standard_info_of 0 0;
          };
      greeting = [];
    }

-- The options are in their bounds.
pub record AreOptions (options : LiveOptions) : Type 0 where
  pub some : 0 < options.wait
  pub few : options.wait ≤ SESSIONS
  pub some_roles : 0 < options.streamers
  pub few_roles : options.streamers ≤ SESSIONS
  pub some_lives : 0 < options.lives
  pub few_lives : options.lives ≤ LIVES

-- ---- what the threads write

-- The last thread of a row, by its number from 0.
abbrev pub last_of : Plan → ℕ → ℕ → ℕ
last_of plan lives number = thread_of plan.threads number (lives - 1)

-- Each row's last thread, with the number of its writes.
abbrev pub rows_of : Plan → ℕ → List (ℕ × ℕ)
rows_of plan lives = map (λ number. (last_of plan lives number, plan.writes)) (range_with_len 0 plan.threads)

-- What the link of the session with an id took before the session's stream: the greeting of its dock, and the reply with
-- the id.
abbrev pub before_of : WorldState → ℕ → List ℕ
before_of world id = world.greeting ++ session_reply id

-- What is fixed of the streams of a run: no write to a link has failed when it comes in.
abbrev pub setting_of : WorldState → Setting
setting_of world =
    record { lives = world.options.lives; info = world.facts.info; before = before_of world; faults = λ _. 0 }

-- The program is the sample program, as the plan says, in its bounds, and its server says of it what is fixed.
pub record IsWorldOf (world : WorldState) (rows : ℕ) (events : List EventDef) (writes : ℕ → List Write) (setting : Setting) (facts : Facts) (greeting : List ℕ) : Type 0 where
  pub rows_are : rows ≡ world.plan.threads
  pub events_are : events ≡ sample
  pub writes_are : writes ≡ writes_of world.plan
  pub setting_is : setting ≡ setting_of world
  pub facts_are : facts ≡ world.facts
  pub greeting_is : greeting ≡ world.greeting
  pub some : 0 < world.plan.threads
  pub few : world.plan.threads ≤ THREADS
  pub few_writes : world.plan.writes ≤ WRITES
  pub options : AreOptions world.options

-- What is fixed of a run that is asked for so, whose dock greets so.
abbrev pub world_of : Plan → LiveOptions → Facts → List ℕ → WorldState
world_of plan options facts greeting = record { plan = plan; options = options; facts = facts; greeting = greeting }
