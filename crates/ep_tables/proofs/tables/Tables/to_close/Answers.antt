use Rattle.std.proofs.Common.{None, Some, refl, ap, sym, ◌∙◌, if◌then◌else◌}
use Rattle.std.specs.Prelude.{not}
use Rattle.std.proofs.lemmas.Bool.{ltb_from_iff}
use Rattle.ep_model.specs.declared.step.Step.TheVariants as step
use Rattle.ep_model.specs.declared.step.Kind.TheVariants.{NoSession, NoThread, NotOpen, InWrite, HandFull}
use Rattle.ep_model.specs.Chunks.{is_hand_full}
use Rattle.ep_model.specs.History.{is_present, was_there, is_open, in_write}
use Rattle.ep_tables.specs.declared.judged.Judged.TheVariants as judged
use Rattle.ep_tables.specs.Judged.{Finds}
use Rattle.ep_tables.proofs.Found.{session_found, in_hand_found, writes_found}
use Rattle.ep_tables.proofs.Judging.{stop_in_three, pass_three, alike, found_as}
use Rattle.ep_tables.proofs.tables.Tables.to_close.Goals as goal

pub returns-in-Err : goal.returns-in-Err
returns-in-Err c = record { kind_is = λ events past h. stop_in_three (not (is_present c.args.session past)) (not (was_there c.args.thread past)) (not (is_open c.args.session c.args.thread past)) NoSession NoThread NotOpen c.in-Err.kind (if in_write c.args.thread past then Some InWrite else (if is_hand_full c.args.session past then Some HandFull else None)) (c.in-Err.ensures.kind_is events past h); found = tt }

pub returns : goal.returns
returns c =
    let tables = c.args.self.now in
    let both = c.in-Ok.both in
    let opened = c.in-Ok.ensures in
    let present = c.index.result.now in
    record {
      kind_is = λ events past h.
          let at = session_found events past tables both.of.session both.of.place present h (sym opened.found.of) c.index.ensures in
          pass_three (not (is_present c.args.session past)) (not (was_there c.args.thread past)) (not (is_open c.args.session c.args.thread past)) NoSession NoThread NotOpen (if in_write c.args.thread past then Some InWrite else (if is_hand_full c.args.session past then Some HandFull else None)) _ (opened.kind_is events past h)
          (c.unless.ensures.kind_is
          ∙ alike _ _ _ _ _ (writes_found events past tables both.on.thread both.on.row c.in_write.result h (sym opened.found.on.own) c.in_write.ensures ∙ ap (λ t. in_write t past) opened.thread)
          (alike _ _ _ _ _ (in_hand_found events past tables both.of.session present c.in_hand-in_hand.result c.a_budget_can_be_counted.ensures.in_hand at (ltb_from_iff c.in_hand-in_hand.ensures) ∙ ap (λ s. is_hand_full s past) opened.session) refl));
      found = found_as c.unless.result (Finds tables (step.Close c.args.session c.args.thread)) (judged.Close both) c.unless.ensures.same
          (record { step_is = ap (λ s. step.Close s both.on.thread) opened.session ∙ ap (λ t. step.Close c.args.session t) opened.thread; there = opened.found });
    }
