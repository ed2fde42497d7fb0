use Rattle.std.proofs.Common.{sym, ap, ◌∙◌, refl}
use Rattle.ep_table.proofs.Numbered.{numbered-stop, stopped-live, not_live, found_live}
use Rattle.ep_table.specs.Sessions.{Sessions, is_live}
use Rattle.ep_table.proofs.table.Table.stop.Goals as goal

pub invariant_of-self : goal.invariant_of-self
invariant_of-self c = numbered-stop _ c.args.id c.in-Some.slot c.self.invariant (sym c.in-Some.ensures)

pub returns-in-Some-clause-not_live : goal.returns-in-Some-clause-not_live
returns-in-Some-clause-not_live c =
    let s : Sessions = record { seats = c.self.inside.seats; next = c.self.inside.next } in
    let live = found_live s c.args.id c.in-Some.slot (sym c.in-Some.ensures) in
    let was = ap (λ t. is_live t c.args.id) c.self.view_is in
    ((λ e. cc), (λ e. cc))

pub returns-in-Some-clause-stopped : goal.returns-in-Some-clause-stopped
returns-in-Some-clause-stopped c =
    let s : Sessions = record { seats = c.self.inside.seats; next = c.self.inside.next } in
    stopped-live s c.args.id c.in-Some.slot c.self.invariant (sym c.in-Some.ensures)

pub returns-in-None-clause-not_live : goal.returns-in-None-clause-not_live
returns-in-None-clause-not_live c =
    let s : Sessions = record { seats = c.self.inside.seats; next = c.self.inside.next } in
    ((λ _. sym (ap (λ t. is_live t c.args.id) c.self.view_is) ∙ not_live s c.args.id (sym c.in-None.ensures)), (λ _. refl))

pub returns-in-None-clause-stopped : goal.returns-in-None-clause-stopped
returns-in-None-clause-stopped c =
    let s : Sessions = record { seats = c.self.inside.seats; next = c.self.inside.next } in
    sym (ap (λ t. is_live t c.args.id) c.self.view_is) ∙ not_live s c.args.id (sym c.in-None.ensures)
