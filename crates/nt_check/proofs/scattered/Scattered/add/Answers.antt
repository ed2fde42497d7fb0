use Rattle.std.proofs.Common.{◌≡◌, cond, eqb, Some, None, sym, ap, ◌∙◌, subst}
use Rattle.std.specs.Ordering.{nat_cmp}
use Rattle.std.specs.BTreeMap.{get}
use Rattle.nt_check.specs.state.Scattered.{under, AreFound}
use Rattle.nt_check.proofs.Under.{tied-is}
use Rattle.nt_check.proofs.Apart.{under-add, still-found, add-found}
use Rattle.nt_check.proofs.scattered.Scattered.add.Goals as goal

pub invariant_of-self-in_err-push : goal.invariant_of-self-in_err-push
invariant_of-self-in_err-push g c =
    let find = get nat_cmp c.self.inside.places in
    let more = get nat_cmp c.insert.new.self in
    let none = subst (λ list. under c.args.id list ≡ None) (sym c.self.view_is) c.requires in
    subst (AreFound more) (sym c.in_err-push.ensures.items)
    (still-found find more c.args.id c.len-place.result c.self.inside.values.items (λ other. c.in_ok-insert.ensures.updates.0 other ∙ ap (λ b. cond b (Some c.len-place.result) (find other)) (tied-is c.args.id other)) none c.self.invariant)

pub invariant_of-self-2 : goal.invariant_of-self-2
invariant_of-self-2 g c =
    let find = get nat_cmp c.self.inside.places in
    let more = get nat_cmp c.insert.new.self in
    let none = subst (λ list. under c.args.id list ≡ None) (sym c.self.view_is) c.requires in
    subst (AreFound more) (sym c.in_ok-push.ensures.items)
    (add-found find more c.args.id c.len-place.result c.self.inside.values.items c.args.value (λ other. c.in_ok-insert.ensures.updates.0 other ∙ ap (λ b. cond b (Some c.len-place.result) (find other)) (tied-is c.args.id other)) (c.len-place.ensures ∙ c.self.inside.values.ok.0) none c.self.invariant)

pub returns-clause-ok : goal.returns-clause-ok
returns-clause-ok g c = λ other.
    let none = subst (λ list. under c.args.id list ≡ None) (sym c.self.view_is) c.requires in
    ap (under other) c.in_ok-push.ensures.items
    ∙ under-add c.args.id other c.self.inside.values.items c.args.value none
    ∙ ap (λ list. cond (eqb c.args.id other) (Some c.args.value) (under other list)) c.self.view_is
