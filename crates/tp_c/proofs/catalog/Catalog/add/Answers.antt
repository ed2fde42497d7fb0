use Rattle.std.proofs.Common.{◌≡◌, ◌+◌, ◌<◌, List, length, arith, subst}
use Rattle.std.specs.Prelude.{IsTrue, is_ok}
use Rattle.ep_defs.specs.declared.event.EventDef.{EventDef}
use Rattle.ep_defs.specs.declared.limits.TheConstants.{EVENTS}
use Rattle.ep_defs.specs.Event.{is_valid_event, is_same_event}
use Rattle.nt_write.specs.Layout.{id_in}
use Rattle.tp_c.proofs.Definitions.{catalog-pushed, pushed-number}
use Rattle.tp_c.proofs.catalog.Catalog.add.Goals as goal
use Rattle.tp_c.proofs.catalog.Catalog.add.Goals.{in-Ok, in-Err}

pub invariant_of-self : goal.invariant_of-self
invariant_of-self c =
    let items = c.self.inside.definitions.items in
    let valid : IsTrue (is_valid_event c.args.def) = grind arith in
    let room : length items < EVENTS = omega (arith, c.len-count.ensures) in
    let unknown : id_in is_same_event c.args.def c.deref.result.now ≡ 0 = omega (arith, c.number_in-known.ensures) in
    let none = subst (λ (ds : List EventDef). id_in is_same_event c.args.def ds ≡ 0) c.deref.ensures.value unknown in
    catalog-pushed (is_ok c.push.result) c.push.new.self.items items c.args.def c.push.ensures.items c.self.invariant valid room none

pub returns-clause-distinct : goal.returns-clause-distinct
returns-clause-distinct c =
    let items = c.self.inside.definitions.items in
    let valid : IsTrue (is_valid_event c.args.def) = grind arith in
    let room : length items < EVENTS = omega (arith, c.len-count.ensures) in
    let unknown : id_in is_same_event c.args.def c.deref.result.now ≡ 0 = omega (arith, c.number_in-known.ensures) in
    let none = subst (λ (ds : List EventDef). id_in is_same_event c.args.def ds ≡ 0) c.deref.ensures.value unknown in
    (catalog-pushed (is_ok c.push.result) c.push.new.self.items items c.args.def c.push.ensures.items c.self.invariant valid room none).distinct

pub returns-clause-number : goal.returns-clause-number
returns-clause-number c =
    let items = c.self.inside.definitions.items in
    let unknown : id_in is_same_event c.args.def c.deref.result.now ≡ 0 = omega (arith, c.number_in-known.ensures) in
    let none = subst (λ (ds : List EventDef). id_in is_same_event c.args.def ds ≡ 0) c.deref.ensures.value unknown in
    let counted : c.len-count.result + 1 ≡ length items + 1 = omega (arith, c.len-count.ensures) in
    elim c.match-push.branch [
      | in-Ok w ↦ rw w.result-is (pushed-number c.push.new.self.items items c.args.def _ w.in-Ok.ensures.items none counted)
      | in-Err w ↦ rw w.result-is tt
    ]
