use Rattle.pt_listen.proofs.threads.fn.run_both.scope.Goals as goal

pub work-done-requires-after_bounds : goal.work-done-requires-after_bounds
work-done-requires-after_bounds g c κs within =
    rw c.in-Err.ensures (c.requires.0, c.requires.1)
