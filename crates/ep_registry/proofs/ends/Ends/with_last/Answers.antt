use Rattle.std.proofs.Common.{◌+◌, length, ap, sym, ◌∙◌, arith}
use Rattle.ep_registry.proofs.Numbered.{numbered-length, last-numbered}
use Rattle.ep_registry.proofs.ends.Ends.with_last.Goals as goal

pub unreachable-requires : goal.unreachable-requires
unreachable-requires g c =
    let all = ap length c.in_ok-ends.ensures.1 ∙ numbered-length (c.args.count + 1) c.args.value.now in
    omega (arith, all, c.in_ok-ends.others.ok.0, c.in_default.ensures.cases.0)

pub returns : goal.returns
returns g c =
    let apart = last-numbered c.args.count c.args.value.now c.pop.new.self.items c.in-Some.last (sym c.in_ok-ends.ensures.1 ∙ c.in-Some.ensures.items) in
    (c.in_ok-ends.ensures.0, apart.0, apart.1)
