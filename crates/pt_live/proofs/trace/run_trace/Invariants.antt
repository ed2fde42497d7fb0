use Rattle.pt_load.specs.Sample.{sample}
use Rattle.pt_writers.specs.Written.{writes_of}
use Rattle.pt_live.specs.state.Run.{setting_of}
use Rattle.pt_live.proofs.trace.run_trace.Given as goal

-- the ties that were just made
abbrev pub ghosts-run_named-P-Named : goal.ghosts-run_named-P-Named
ghosts-run_named-P-Named g a = record { ties = a.parts.blank.ties }

-- the sample program
abbrev pub ghosts-run_named-P-Program : goal.ghosts-run_named-P-Program
ghosts-run_named-P-Program g a = record { rows = a.parts.plan.now.threads; events = sample; writes = writes_of a.parts.plan.now }

abbrev pub ghosts-run_named-P-SampleRun : goal.ghosts-run_named-P-SampleRun
ghosts-run_named-P-SampleRun g a = record { plan = a.parts.plan.now }

-- what is asked for, and the output as it is
abbrev pub ghosts-run_named-P-TraceRun : goal.ghosts-run_named-P-TraceRun
ghosts-run_named-P-TraceRun g a =
    record {
      run =
          record {
            info = a.info.now;
            config = a.grant.now.config;
            loan = a.lent.output.ghost_name;
            tells = g.O.Sink.tells_taken a.lent.output.now;
            before = g.O.Sink.taken a.lent.output.now;
            faults = g.O.Sink.write_faults a.lent.output.now;
          };
    }

-- one session, in one life of each row
abbrev pub ghosts-run_named-P-Run : goal.ghosts-run_named-P-Run
ghosts-run_named-P-Run g a =
    record {
      setting = setting_of (record {
        info = a.info.now;
        config = a.grant.now.config;
        loan = a.lent.output.ghost_name;
        tells = g.O.Sink.tells_taken a.lent.output.now;
        before = g.O.Sink.taken a.lent.output.now;
        faults = g.O.Sink.write_faults a.lent.output.now;
      });
    }
