use Rattle.std.proofs.Common.{None, refl, ap, sym}
use Rattle.std.specs.Prelude.{not}
use Rattle.ep_tables.proofs.Found.{present_found}
use Rattle.ep_tables.proofs.Judging.{stop, pass}
use Rattle.ep_tables.proofs.tables.Tables.to_give.Goals as goal

pub returns-in-Some : goal.returns-in-Some
returns-in-Some c =
    record {
      kind_is = λ events past h. pass _ _ _ _ (ap not (sym (present_found events past c.args.self.now c.args.session _ h c.in-Some.ensures))) refl;
      found = record { step_is = refl; there = sym c.in-Some.ensures };
    }

pub returns-in-None : goal.returns-in-None
returns-in-None c = record { kind_is = λ events past h. stop _ _ _ (ap not (sym (present_found events past c.args.self.now c.args.session None h c.in-None.ensures))); found = tt }
