use Rattle.std.proofs.Common.{◌∙◌, refl, sym, subst}
use Rattle.std.specs.List.{AllByRecursion}
use Rattle.pt_stream.specs.State.{IsDone}
use Rattle.pt_stream.proofs.Keeping.{marks-more}
use Rattle.pt_stream.proofs.stream.Stream.close_done.Goals as goal

pub returns-clause-done : goal.returns-clause-done
returns-clause-done g c all =
    let m = c.close.ensures.marked in
    subst (AllByRecursion (IsDone g.P.Program.writes)) (sym m.more)
    (marks-more (IsDone g.P.Program.writes) m.mark c.args.self.marks (m.ends_at c.requires.lent c.args.writes refl ∙ sym (c.requires.each m.mark.thread)) all)
