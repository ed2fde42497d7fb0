use Rattle.std.proofs.Common.{Some, sym, ap, ◌∙◌}
use Rattle.std.specs.Ordering.{nat_cmp}
use Rattle.std.specs.BTreeMap.{get}
use Rattle.nt_check.proofs.Apart.{at-value, at-put}
use Rattle.nt_check.proofs.scattered.Scattered.replace.Goals as goal

pub returns-clause-put : goal.returns-clause-put
returns-clause-put g c =
    at-put (get nat_cmp c.self.inside.places) c.self.inside.values.items c.args.self.now c.args.place c.index_mut.result.now c.args.value c.replace.new.dest c.self.view_is c.self.invariant c.index_mut.ensures.value c.replace.ensures.after

pub returns-clause-before : goal.returns-clause-before
returns-clause-before g c = λ id at.
    at-value (get nat_cmp c.self.inside.places) c.self.inside.values.items c.args.self.now c.args.place c.index_mut.result.now c.self.view_is c.self.invariant c.index_mut.ensures.value id at
    ∙ ap Some (sym c.replace.ensures.value)
