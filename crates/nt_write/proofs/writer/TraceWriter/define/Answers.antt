use Rattle.std.proofs.Common.{ℕ, List, Option, Some, sym, subst}
use Rattle.ep_defs.specs.declared.event.EventDef.{EventDef}
use Rattle.nt_write.specs.Arriving.{IsNew}
use Rattle.nt_write.specs.Writing.{AreIds}
use Rattle.nt_write.proofs.Defining.{id-given, definition-flushes}
use Rattle.nt_write.proofs.IdTables.{with_new}
use Rattle.nt_write.proofs.writer.TraceWriter.define.Goals as goal

pub returns-in_ok-add_definition-in-Some-clause-id : goal.returns-in_ok-add_definition-in-Some-clause-id
returns-in_ok-add_definition-in-Some-clause-id g c start defs layout def h distinct at is_new =
    let new = subst (λ (m : Option (List ℕ)). IsNew layout.definitions def m) c.in-Some.is is_new in
    id-given layout def c.give.result new.0 (c.give.ensures.next defs layout.definitions h.ids)

pub returns-in_ok-add_definition-in-Some-clause-ok : goal.returns-in_ok-add_definition-in-Some-clause-ok
returns-in_ok-add_definition-in-Some-clause-ok g c start defs layout def h distinct at is_new =
    let new = subst (λ (m : Option (List ℕ)). IsNew layout.definitions def m) c.in-Some.is is_new in
    let here = subst (λ (payload : List ℕ). IsNew layout.definitions def (Some payload)) (sym c.as_slice.ensures) new in
    record {
      output = h.output;
      pending = c.in_ok-add_definition-in-Some.ensures.ok layout def h.pending h.flushes.definitions here;
      ids = subst (λ (ds : List EventDef). AreIds defs ds c.give.new.self) (sym (with_new layout.definitions def new.0)) (c.give.ensures.given defs layout.definitions def h.ids distinct at);
      flushes = definition-flushes layout def h.flushes;
    }
