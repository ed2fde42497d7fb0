-- What is fixed of a run from its beginning. All of it is this project's own.
use Rattle.std.specs.Prelude.{◌≡◌, ℕ, Bool, false, List, [], Result}
use Rattle.ep_defs.specs.declared.session.Config.{Config}
use Rattle.ep_defs.specs.declared.session.TraceInfo.{TraceInfo}
use Rattle.ep_defs.specs.Session.{standard_info_of}
use Rattle.pt_io.specs.declared.sink.Sink.{Ghosts as Sink}
use Rattle.pt_stream.specs.Setting.{Setting}
use Rattle.pt_load.specs.declared.plan.Plan.{Plan}
use Rattle.pt_live.specs.Trace.{Traces}
use Rattle.pt_live.specs.declared.trace.TraceEnd.{TraceEnd}

-- What the stream says of the program, and what the session was asked for; and of the output by which
-- reference it is lent, whether it tells what it takes, what it had taken, and how often a write to it had failed.
pub record RunState : Type 0 where
  pub info : TraceInfo
  pub config : Config
  pub loan : ℕ
  pub tells : Bool
  pub before : List ℕ
  pub faults : ℕ

-- A run of which nothing is known.
abbrev pub no_run : RunState
no_run =
    record {
      info = standard_info_of 0 0;
      config = record { rules = []; chunks = 0; stackwalk = false; rundown = false };
      loan = 0;
      tells = false;
      before = [];
      faults = 0;
    }

-- What is fixed of the one session's stream of such a run: each row has one life.
abbrev pub setting_of : RunState → Setting
setting_of run = record { lives = 1; info = run.info; before = λ _. run.before; faults = λ _. run.faults }

-- The output is the one that the run is lent, as it was.
pub record IsLentTo {O : Type 0} (sink : Sink O) (run : RunState) (loan : ℕ) (output : O) : Type 0 where
  pub same : loan ≡ run.loan
  pub tells_is : sink.tells_taken output ≡ run.tells
  pub before_is : sink.taken output ≡ run.before
  pub faults_are : sink.write_faults output ≡ run.faults

-- What a run answers whose output was the first and is the second.
abbrev pub TracesOver : {O E : Type 0} → Sink O → RunState → Plan → O → O → Result TraceEnd E → Type 0
TracesOver sink run plan = Traces sink run.info plan run.config
