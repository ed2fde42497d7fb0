use Rattle.std.proofs.Common.{sym, subst}
use Rattle.std.proofs.lemmas.Result.{IfOk-weaker}
use Rattle.pt_listen.specs.declared.watch.WatchEnd.{WatchEnd}
use Rattle.pt_listen.specs.Watched.{Watched, WatchedFrom}
use Rattle.pt_watch.specs.declared.counts.Counts.{Counts}
use Rattle.pt_watch.specs.Counting.{IsNothing, StandsFor}
use Rattle.pt_watch.proofs.command.counted.Goals as goal

pub returns : goal.returns
returns g c =
    IfOk-weaker c.run_watch.result (Watched StandsFor c.args.plan.now c.args.config c.in_ok-counts.counts) (WatchedFrom StandsFor IsNothing c.args.plan.now c.args.config)
    (λ (end : WatchEnd Counts) (w : Watched StandsFor c.args.plan.now c.args.config c.in_ok-counts.counts end).
    record {
      rows = w.rows;
      whole = w.whole;
      spent = w.spent;
      heard = w.heard;
      told = λ before is. w.told before (subst (StandsFor c.in_ok-counts.counts) (sym is) c.in_ok-counts.ensures);
      watched = w.watched;
    })
    c.run_watch.ensures
