use Rattle.pt_load.specs.Sample.{sample}
use Rattle.ep_listen.specs.Listening.{callback_of}
use Rattle.pt_writers.specs.Written.{writes_of}
use Rattle.pt_listen.proofs.watch.run_watch.Given as goal

-- the ties that were just made
abbrev pub ghosts-run_named-P-Named : goal.ghosts-run_named-P-Named
ghosts-run_named-P-Named g a = record { ties = a.parts.blank.ties }

-- the sample program
abbrev pub ghosts-run_named-P-Program : goal.ghosts-run_named-P-Program
ghosts-run_named-P-Program g a = record { rows = a.parts.plan.now.threads; events = sample; writes = writes_of a.parts.plan.now }

abbrev pub ghosts-run_named-P-SampleRun : goal.ghosts-run_named-P-SampleRun
ghosts-run_named-P-SampleRun g a = record { plan = a.parts.plan.now }

-- what is asked for, and the callback as it is
abbrev pub ghosts-run_named-P-WatchRun : goal.ghosts-run_named-P-WatchRun
ghosts-run_named-P-WatchRun g a = record { config = a.grant.now.config; at_first = g.K.Callback.has_heard (callback_of a.listener) }
