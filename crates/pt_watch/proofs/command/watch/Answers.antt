-- The run ended, and what was told of it is what was heard.
use Rattle.std.proofs.Common.{List, [], refl, subst}
use Rattle.ep_defs.specs.declared.session.Marks.{Marks}
use Rattle.pt_watch.specs.Command.{Tells}
use Rattle.pt_watch.specs.Counting.{counts_in}
use Rattle.pt_watch.specs.Lines.{told_lines}
use Rattle.pt_watch.proofs.Ending.{watches-some}
use Rattle.pt_watch.proofs.command.watch.Goals as goal

pub told-end-requires : goal.told-end-requires
told-end-requires g c = (c.in-Ok.ensures.told [] refl).0

pub returns-in-Ok : goal.returns-in-Ok
returns-in-Ok g c =
    let run = c.in-Ok.run' in
    watches-some g.O.Sink c.args.output.now c.told-end.new.output c.args.asked run c.requires c.in-Ok.ensures c.told-end.result
    (subst (λ (marks : List Marks). Tells g.O.Sink c.args.output.now c.told-end.new.output (told_lines marks (counts_in run.listened.callback)) run.listened.failed c.told-end.result) c.as_slice.ensures c.told-end.ensures)
