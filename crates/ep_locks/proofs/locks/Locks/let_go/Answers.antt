use Rattle.std.proofs.Common.{sym, ap, ◌∙◌, subst}
use Rattle.ep_locks.specs.Row.{IsWithin}
use Rattle.ep_locks.proofs.Turns.{gives_back}
use Rattle.ep_locks.proofs.locks.Locks.let_go.Goals as goal

pub swap-requires : goal.swap-requires
swap-requires g c =
    let row = sym (ap (λ r. r.row) c.self.view_is) in
    let within = subst (λ t. IsWithin t c.args.number) row c.requires.own.1 in
    (c.requires.own.0 ∙ row, within.0, gives_back g.P.Guards.holds _ _ _ _ within.1 c.requires.meets)
