use Rattle.std.proofs.Common.{sym, ◌+◌}
use Rattle.ep_tables.specs.declared.tables.Present.{Present}
use Rattle.ep_tables.proofs.Falling.{first_there}
use Rattle.ep_tables.proofs.tables.Tables.place_of.Goals as goal

pub returns-in-Some : goal.returns-in-Some
returns-in-Some c =
    let old = c.args.self.now in
    let present = c.in-Some.present.now in
    let lookup = c.in-Some.ensures.lookup in
    sym (first_there (λ (p : Present). p.number) (old.last_session + 1) c.args.session old.present.items c.deref.result.now _ present old.falling c.deref.ensures.value (sym lookup.0) lookup.1 c.if-present-session.true)
