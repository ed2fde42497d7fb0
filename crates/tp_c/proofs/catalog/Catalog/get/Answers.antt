use Rattle.std.proofs.Common.{◌<◌, ◌-◌, List, ap, sym, ◌∙◌, arith}
use Rattle.std.specs.Prelude.{slice_get}
use Rattle.ep_defs.specs.declared.event.EventDef.{EventDef}
use Rattle.tp_c.proofs.Refusing.{at-number}
use Rattle.tp_c.proofs.catalog.Catalog.get.Goals as goal

pub returns-clause-found : goal.returns-clause-found
returns-clause-found c =
    let some : 0 < c.args.number = omega arith in
    c.placed.ensures.found ∙ ap (λ (ds : List EventDef). slice_get ds (c.args.number - 1)) (c.deref.ensures.value ∙ c.self.view_is)
    ∙ sym (at-number c.args.self.now c.args.number some)
