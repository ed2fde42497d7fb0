use Rattle.std.proofs.Common.{sym, ap, ◌∙◌, subst}
use Rattle.std.specs.Option.{option_copied}
use Rattle.std.specs.Ordering.{nat_cmp}
use Rattle.std.specs.BTreeMap.{get}
use Rattle.nt_check.specs.state.Scattered.{AreFound}
use Rattle.nt_check.proofs.Apart.{none-found, found-at, found-none}
use Rattle.nt_check.proofs.scattered.Scattered.place.Goals as goal

pub returns-in_default-get : goal.returns-in_default-get
returns-in_default-get g c =
    let find = get nat_cmp c.self.inside.places in
    none-found find c.args.id c.args.self.now (subst (AreFound find) c.self.view_is c.self.invariant)
    (found-at find c.args.id c.args.self.now c.in-Some-get.place.now c.in-Some-get.ensures.value (c.is_at.ensures.other c.if-is_at.false))

pub returns-in_default-get-2 : goal.returns-in_default-get-2
returns-in_default-get-2 g c =
    let find = get nat_cmp c.self.inside.places in
    none-found find c.args.id c.args.self.now (subst (AreFound find) c.self.view_is c.self.invariant)
    (found-none find c.args.id c.args.self.now (sym (ap option_copied c.in_default-get.is) ∙ c.get.ensures.value))
