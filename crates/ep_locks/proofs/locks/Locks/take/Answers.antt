use Rattle.std.proofs.Common.{◌∷◌, Some, sym, ap, ◌∙◌}
use Rattle.atomic_table.specs.Table.{rest}
use Rattle.ep_locks.specs.Row.{place_of}
use Rattle.ep_locks.proofs.locks.Locks.take.Goals as goal

pub exchange-out-requires : goal.exchange-out-requires
exchange-out-requires g c =
    let has = c.take_place-place.ensures.1 in
    (c.take_place-place.ensures.0 ∙ sym (ap (λ r. r.row) c.self.view_is), (Some has.0, has.1 ∙ ap (λ l. (place_of c.args.number, Some has.0) ∷ l) (sym (ap rest has.1))))
