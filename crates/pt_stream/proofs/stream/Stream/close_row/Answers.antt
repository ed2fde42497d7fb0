use Rattle.std.proofs.Common.{sym, subst}
use Rattle.std.specs.List.{AllByRecursion}
use Rattle.pt_stream.specs.State.{EndsAt}
use Rattle.pt_stream.proofs.Keeping.{marks-more}
use Rattle.pt_stream.proofs.stream.Stream.close_row.Goals as goal

pub returns-clause-ends : goal.returns-clause-ends
returns-clause-ends g c to is all =
    let m = c.close.ensures.marked in
    subst (AllByRecursion (EndsAt to)) (sym m.more) (marks-more (EndsAt to) m.mark c.args.self.marks (m.stands_at to is) all)
