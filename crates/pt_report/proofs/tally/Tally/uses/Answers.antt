use Rattle.std.proofs.Common.{sym, ◌∙◌}
use Rattle.pt_report.proofs.Tallies.{uses-at, uses-none}
use Rattle.pt_report.proofs.tally.Tally.uses.Goals as goal

pub returns-in-Some : goal.returns-in-Some
returns-in-Some g c = λ names uses h.
    c.count_at.ensures ∙ uses-at g.K.Ord.cmp g.met.K.Ord.total names uses c.args.self.now c.args.key.now c.in-Some.place.now h (sym c.in-Some.ensures.value)

pub returns-in-None : goal.returns-in-None
returns-in-None g c = λ names uses h.
    uses-none g.K.Ord.cmp g.met.K.Ord.total names uses c.args.self.now c.args.key.now h (sym c.in-None.ensures.value)
