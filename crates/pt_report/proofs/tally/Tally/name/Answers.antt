use Rattle.std.proofs.Common.{is_some, sym, ap, arith}
use Rattle.pt_report.proofs.Tallies.{name-new, name-old}
use Rattle.pt_report.proofs.tally.Tally.name.Goals as goal

pub returns-in-Some-clause-ok : goal.returns-in-Some-clause-ok
returns-in-Some-clause-ok g c = λ names uses h.
    name-old g.K.Ord.cmp g.met.K.Ord.total names uses c.args.self.now c.args.key h (ap is_some (sym c.in-Some.ensures.value))

pub returns-clause-ok : goal.returns-clause-ok
returns-clause-ok g c = λ names uses h.
    name-new g.K.Ord.cmp g.met.K.Ord.total names uses c.args.self.now _ c.args.key c.len-place.result h (sym c.in_default.ensures.value) (omega (arith, c.len-place.ensures)) c.in_ok-push.ensures.items c.in_ok-insert.ensures.entries c.in_ok-insert.ensures.updates.0
