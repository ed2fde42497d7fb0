use Rattle.pt_listen.proofs.watch.run_watch.Goals as goal

pub returns : goal.returns
returns g c = rw c.in_ok-grant.ensures.asked at (rw c.in-Ok.ensures.callback at c.run_named.ensures)
