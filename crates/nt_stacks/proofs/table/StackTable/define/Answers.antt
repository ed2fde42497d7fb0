use Rattle.std.proofs.Common.{◌∙◌, sym, ap, not}
use Rattle.std.specs.FinMap as map
use Rattle.nt_stacks.proofs.Tables.{contains-seen, seen-insert}
use Rattle.nt_stacks.proofs.table.StackTable.define.Goals as goal

pub returns-then-contains_key-clause-defined : goal.returns-then-contains_key-clause-defined
returns-then-contains_key-clause-defined c =
    let there = contains-seen (λ s. s.items) c.self.inside.stacks.entries c.args.id in
    ap not (sym c.if-contains_key.true ∙ c.contains_key.ensures ∙ sym there ∙ ap (λ m. map.contains_key m c.args.id) c.self.view_is)

pub returns-clause-ok : goal.returns-clause-ok
returns-clause-ok c =
    seen-insert (λ s. s.items) c.self.inside.stacks.entries c.insert.new.self.entries c.args.id c.in_ok-stack.stack c.in_ok-insert.ensures.updates.0
    ∙ ap (λ m. map.insert m c.args.id c.in_ok-stack.stack.items) c.self.view_is
    ∙ ap (map.insert c.args.self.now c.args.id) c.in_ok-stack.ensures.items

pub returns-clause-defined : goal.returns-clause-defined
returns-clause-defined c =
    let there = contains-seen (λ s. s.items) c.self.inside.stacks.entries c.args.id in
    ap not (sym c.if-contains_key.false ∙ c.contains_key.ensures ∙ sym there ∙ ap (λ m. map.contains_key m c.args.id) c.self.view_is)
