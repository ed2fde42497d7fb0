use Rattle.std.proofs.Common.{sym, ap, ◌∙◌, refl, arith}
use Rattle.ep_table.specs.Sessions.{Sessions, held_count}
use Rattle.ep_table.proofs.Numbered.{numbered-accept, held_below, held_all}
use Rattle.ep_table.proofs.table.Table.accept.Goals as goal

pub invariant_of-self : goal.invariant_of-self
invariant_of-self c = numbered-accept _ c.in-Some.slot c.self.invariant (sym c.in-Some.ensures)

pub returns-in-Some-clause-full : goal.returns-in-Some-clause-full
returns-in-Some-clause-full c =
    let s : Sessions = record { seats = c.self.inside.seats; next = c.self.inside.next } in
    let below = held_below s c.in-Some.slot (sym c.in-Some.ensures) in
    let places = c.self.invariant.places in
    ((λ e. cc), (λ e. absurd (omega (arith, ap held_count c.self.view_is))))

pub returns-in-None-clause-full : goal.returns-in-None-clause-full
returns-in-None-clause-full c =
    let s : Sessions = record { seats = c.self.inside.seats; next = c.self.inside.next } in
    ((λ _. sym (ap held_count c.self.view_is) ∙ held_all s (sym c.in-None.ensures) ∙ c.self.invariant.places), (λ _. refl))
