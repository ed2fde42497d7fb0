use Rattle.std.proofs.Common.{None, length, refl, ap, sym, ◌∙◌, subst}
use Rattle.std.specs.Prelude.{not, nat_le}
use Rattle.ep_defs.specs.declared.limits.TheConstants.{SESSION_THREADS}
use Rattle.ep_model.specs.declared.step.Step.TheVariants as step
use Rattle.ep_model.specs.History.{opened}
use Rattle.ep_model.specs.Lawful.{was_opened}
use Rattle.ep_tables.specs.declared.judged.Judged.TheVariants as judged
use Rattle.ep_tables.specs.declared.judged.OnBoth.{OnBoth}
use Rattle.ep_tables.specs.Judged.{Finds}
use Rattle.ep_tables.proofs.Found.{present_found, session_found, writes_found}
use Rattle.ep_tables.proofs.Judging.{stop, pass, alike, found_as}
use Rattle.ep_tables.proofs.tables.Tables.to_open.Goals as goal

pub returns-in_default : goal.returns-in_default
returns-in_default c = record { kind_is = λ events past h. stop _ _ _ (ap not (sym (present_found events past c.args.self.now c.args.session None h c.in_default.ensures))); found = tt }

pub returns-in_default-row_there : goal.returns-in_default-row_there
returns-in_default-row_there c =
    record {
      kind_is = λ events past h.
          pass _ _ _ _ (ap not (sym (present_found events past c.args.self.now c.args.session _ h c.in-Some.ensures)))
          (stop _ _ _ (ap not (sym (c.in_default-row_there.ensures.there events past h))));
      found = tt;
    }

pub returns : goal.returns
returns c =
    let tables = c.args.self.now in
    let place = c.in-Some.place in
    let row = c.in-Some-row_there.row in
    let present = c.index.result.now in
    record {
      kind_is = λ events past h.
          let at = session_found events past tables c.args.session place present h c.in-Some.ensures c.index.ensures in
          pass _ _ _ _ (ap not (sym (present_found events past tables c.args.session _ h c.in-Some.ensures)))
          (pass _ _ _ _ (ap not (sym (c.in-Some-row_there.ensures.there events past h)))
          (c.unless.ensures.kind_is
          ∙ alike _ _ _ _ _ (c.contains_key.ensures ∙ at.follows.ever c.args.thread ∙ ap (λ number. was_opened number c.args.thread past) at.number)
          (alike _ _ _ _ _ (ap (nat_le SESSION_THREADS) (c.len.ensures.len ∙ at.follows.count ∙ ap (λ number. length (opened number past)) at.number))
          (alike _ _ _ _ _ (writes_found events past tables c.args.thread row c.in_write.result h (sym c.in-Some-row_there.ensures.own) c.in_write.ensures) refl))));
      found = found_as c.unless.result (Finds tables (step.Open c.args.session c.args.thread)) (judged.Open c.both.result) c.unless.ensures.same
          (subst (λ (both : OnBoth). Finds tables (step.Open c.args.session c.args.thread) (judged.Open both)) (sym c.both.ensures)
          (record { step_is = refl; there = record { of = sym c.in-Some.ensures; on = record { own = c.in-Some-row_there.ensures.own; is_row = c.in-Some-row_there.ensures.row } } }));
    }
