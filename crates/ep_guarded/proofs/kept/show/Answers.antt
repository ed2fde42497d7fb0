use Rattle.std.proofs.Common.{ap, arith}
use Rattle.ep_slot.specs.Slot.{is_refused}
use Rattle.ep_row.specs.declared.row.Opening.{Opening}
use Rattle.ep_guarded.proofs.Rows.{due-few}
use Rattle.ep_guarded.proofs.Showing.{is-shown, seat-asked}
use Rattle.ep_guarded.proofs.kept.show.Goals as goal

pub show-shown-requires-clause-few : goal.show-shown-requires-clause-few
show-shown-requires-clause-few g c =
    let due = c.requires.due.due in
    let few = due-few _ due.configs _ c.args.row.now c.args.slot c.args.kept.now.told.opening due.over c.requires.within due.due c.requires.due.known in
    let used = ap (λ (o : Opening). o.shown) c.requires.rests.opening in
    omega (arith, few, used)

pub returns : goal.returns
returns g c =
    let shown = c.show-shown.ensures in
    let refused = is_refused c.show-shown.result in
    is-shown c.show-shown.result _ _ c.args.slot c.args.write.now c.args.kept.now c.args.row.now c.show-shown.new.self c.show-shown.new.buffer c.show-shown.new.pool.seat.now
    c.requires.rests c.requires.due c.requires.within c.requires.fits shown.number (λ yes. (shown.refused.0 yes).0) shown.slot
    (seat-asked (λ p. p.seat.now) _ _ c.args.kept.now.slot c.args.write.now refused _ c.show-shown.new.pool (λ a b h. h.2) (λ a b h. h.2) shown.purse)
    shown.numbered shown.due shown.bounded shown.slots shown.open.0 shown.others shown.rest
