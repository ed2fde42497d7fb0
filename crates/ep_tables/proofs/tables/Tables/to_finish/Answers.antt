use Rattle.std.proofs.Common.{None, refl, ap, sym, ◌∙◌}
use Rattle.std.specs.Prelude.{not}
use Rattle.std.proofs.lemmas.Bool.{ltb_from_iff}
use Rattle.ep_model.specs.declared.step.Step.TheVariants as step
use Rattle.ep_tables.specs.declared.judged.Judged.TheVariants as judged
use Rattle.ep_tables.specs.declared.judged.OfSession.{OfSession}
use Rattle.ep_tables.specs.Judged.{Finds}
use Rattle.ep_tables.proofs.Found.{present_found, session_found, in_hand_found}
use Rattle.ep_tables.proofs.Somewhere.{somewhere_found}
use Rattle.ep_tables.proofs.Judging.{stop, pass, alike, found_as}
use Rattle.ep_tables.proofs.tables.Tables.to_finish.Goals as goal

pub returns-in_default : goal.returns-in_default
returns-in_default c = record { kind_is = λ events past h. stop _ _ _ (ap not (sym (present_found events past c.args.self.now c.args.session None h c.in_default.ensures))); found = tt }

pub returns : goal.returns
returns c =
    let tables = c.args.self.now in
    let place = c.in-Some.place in
    let present = c.index-present.result.now in
    let of : OfSession = record { session = c.args.session; place = place } in
    record {
      kind_is = λ events past h.
          let at = session_found events past tables c.args.session place present h c.in-Some.ensures c.index-present.ensures in
          pass _ _ _ _ (ap not (sym (present_found events past tables c.args.session _ h c.in-Some.ensures)))
          (c.unless.ensures.kind_is
          ∙ alike _ _ _ _ _ (somewhere_found events past tables c.args.session present c.is_on_nowhere.result h at c.is_on_nowhere.ensures)
          (alike _ _ _ _ _ (in_hand_found events past tables c.args.session present c.in_hand.result c.a_budget_can_be_counted.ensures.in_hand at (ltb_from_iff c.in_hand.ensures)) refl));
      found = found_as c.unless.result (Finds tables (step.Finish c.args.session c.args.stamp)) (judged.Finish of c.args.stamp) c.unless.ensures.same (record { step_is = refl; there = sym c.in-Some.ensures });
    }
