use Rattle.std.proofs.Common.{refl, ap, sym, ◌∙◌}
use Rattle.std.specs.Prelude.{not}
use Rattle.ep_model.specs.declared.step.Step.TheVariants as step
use Rattle.ep_tables.specs.declared.judged.Judged.TheVariants as judged
use Rattle.ep_tables.specs.declared.judged.OnRow.{OnRow}
use Rattle.ep_tables.specs.Judged.{Finds}
use Rattle.ep_tables.proofs.Found.{writes_found}
use Rattle.ep_tables.proofs.Judging.{stop, pass, alike, found_as}
use Rattle.ep_tables.proofs.tables.Tables.to_leave.Goals as goal

pub returns-in_default : goal.returns-in_default
returns-in_default c = record { kind_is = λ events past h. stop _ _ _ (ap not (sym (c.in_default.ensures.there events past h))); found = tt }

pub returns : goal.returns
returns c =
    let tables = c.args.self.now in
    let on : OnRow = record { thread = c.args.thread; row = c.in-Some.row } in
    record {
      kind_is = λ events past h.
          pass _ _ _ _ (ap not (sym (c.in-Some.ensures.there events past h)))
          (c.unless.ensures.kind_is ∙ alike _ _ _ _ _ (writes_found events past tables c.args.thread c.in-Some.row c.in_write.result h (sym c.in-Some.ensures.own) c.in_write.ensures) refl);
      found = found_as c.unless.result (Finds tables (step.Leave c.args.thread)) (judged.Leave on) c.unless.ensures.same
          (record { step_is = refl; there = record { own = c.in-Some.ensures.own; is_row = c.in-Some.ensures.row } });
    }
