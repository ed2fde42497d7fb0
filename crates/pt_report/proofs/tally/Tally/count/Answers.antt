use Rattle.std.proofs.Common.{ℕ, ◌+◌, ◌-◌, ◌^◌, min, refl, ap, ◌∙◌, arith}
use Rattle.std.proofs.Math.ListN.{set}
use Rattle.std.proofs.lemmas.List.{get_or_default}
use Rattle.std.proofs.lemmas.Option.{slice_get_within}
use Rattle.pt_report.specs.Order.{uses_of}
use Rattle.pt_report.proofs.Tallies.{count-step}
use Rattle.pt_report.proofs.tally.Tally.count.Goals as goal

pub returns-then-place-len-clause-counted : goal.returns-then-place-len-clause-counted
returns-then-place-len-clause-counted g c = λ names uses key h is.
    let counts = c.args.self.now.counts.items in
    let count-is = c.index.ensures ∙ get_or_default counts c.args.place c.index.result.now 0 (omega (arith, c.if-place-len.true, c.len.ensures)) in
    count-step g.K.Ord.cmp g.met.K.Ord.total names uses c.args.self.now _ key c.args.place h refl is (ap (set counts c.args.place) (c.saturating_add.ensures ∙ ap (λ (n : ℕ). min (n + 1) (2 ^ 64 - 1)) count-is))

pub returns-else-place-len-clause-counted : goal.returns-else-place-len-clause-counted
returns-else-place-len-clause-counted g c = λ names uses key h is.
    let within = slice_get_within c.args.self.now.counts.items c.args.place (uses_of g.K.Ord.cmp uses key) (h.counted key c.args.place is) in
    absurd (omega (arith, within, c.if-place-len.false, c.len.ensures))
