-- What is fixed of a run whose sessions stream (this project's profile).
use Rattle.std.specs.Prelude.{ℕ, ◌+◌, ◌-◌, ◌%◌, List, []}
use Rattle.ep_defs.specs.declared.event.EventDef.{EventDef}
use Rattle.ep_defs.specs.declared.session.Config.{Config}
use Rattle.ep_defs.specs.declared.session.TraceInfo.{TraceInfo}
use Rattle.ep_defs.specs.declared.session.Write.{Write}
use Rattle.ep_defs.specs.Session.{standard_info_of}
use Rattle.ep_live_laws.specs.Tracing.{Watch}

-- What is fixed of a run, beside what its threads write: how many lives each row has, what a stream says of the program, and,
-- by a session's id, what its sink had taken before the session's stream, and how often a write to it had failed.
pub record Setting : Type 0 where
  pub lives : ℕ
  pub info : TraceInfo
  pub before : ℕ → List ℕ
  pub faults : ℕ → ℕ

-- A run of no thread.
abbrev pub no_setting : Setting
no_setting = record { lives = 0; info = standard_info_of 0 0; before = λ _. []; faults = λ _. 0 }

-- The row of a thread, from 1: the threads of each life stand by row.
unfoldable pub home_of : ℕ → ℕ → ℕ
home_of rows thread = (thread - 1) % rows + 1

-- What the session with an id is a session of.
abbrev pub watch_of : ℕ → List EventDef → (ℕ → List Write) → Setting → Config → ℕ → Watch
watch_of rows events writes setting config id =
    record {
      events = events;
      writes = writes;
      home = home_of rows;
      config = config;
      info = setting.info;
      before = setting.before id;
    }
