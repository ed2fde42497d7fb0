use Rattle.pt_run.proofs.reverse.run_reverse.Given as goal

-- the calls of the dock that was just made
abbrev pub ghosts-run_named : goal.ghosts-run_named
ghosts-run_named g a =
    record {
      calls =
          record {
            loan = a.dock.caller.ghost_name;
            links = g.K.Caller.links a.dock.caller.now;
            advert = a.dock.advert;
            most = a.dock.most;
          };
    }
