use Rattle.std.proofs.Common.{◌-◌, ap, ◌∙◌, cond, eqb, Some, arith}
use Rattle.std.specs.Option.{option_or}
use Rattle.nt_check.specs.state.Ids.{in_row}
use Rattle.nt_check.specs.state.Scattered.{under}
use Rattle.nt_check.proofs.Under.{row-set, put-row, put-other}
use Rattle.nt_check.proofs.by_id.ById.insert.Goals as goal

pub returns-then-not-is_near-clause-ok : goal.returns-then-not-is_near-clause-ok
returns-then-not-is_near-clause-ok g c = λ other.
    let row = in_row c.begin.new.self.first c.begin.new.self.row.items in
    ap (option_or (row other)) (c.in_ok-insert.ensures.ok other)
    ∙ put-other c.args.id other c.args.value row (under other c.begin.new.self.others) (c.is_near.ensures.far c.if-not-is_near.true)
    ∙ ap (cond (eqb c.args.id other) (Some c.args.value)) (c.begin.ensures other)

pub returns-clause-ok : goal.returns-clause-ok
returns-clause-ok g c = λ other.
    ap (λ row. option_or row (under other c.reach.new.self.others)) (row-set c.reach.new.self.first c.reach.new.self.row.items c.args.id (c.args.id - c.begin.new.self.first) other c.args.value (omega (arith, c.is_near.ensures.near c.if-not-is_near.false, c.in_ok-reach.ensures.first)) (omega (arith, c.in_ok-reach.ensures.first)) c.in_ok-reach.ensures.there)
    ∙ put-row (eqb c.args.id other) c.args.value (in_row c.reach.new.self.first c.reach.new.self.row.items other) (under other c.reach.new.self.others)
    ∙ ap (cond (eqb c.args.id other) (Some c.args.value)) (c.in_ok-reach.ensures.same other ∙ c.begin.ensures other)
