use Rattle.std.proofs.Common.{◌≡◌, true, false, refl, ap, sym, ◌∙◌}
use Rattle.std.proofs.lemmas.Bool.{eq-eqb, ne_eqb}
use Rattle.std.specs.Prelude.{not, ◌==◌}
use Rattle.ep_tables.proofs.Found.{row_found, writes_found}
use Rattle.ep_tables.proofs.Slots.{has_due_found}
use Rattle.ep_tables.proofs.Judging.{stop, pass}
use Rattle.ep_tables.proofs.tables.Tables.to_end.Goals as goal

pub returns-in_default : goal.returns-in_default
returns-in_default c = record { kind_is = λ events past h. stop _ _ _ (ap not (sym (c.in_default.ensures.there events past h))); found = tt }

pub returns-then-not-in_write : goal.returns-then-not-in_write
returns-then-not-in_write c =
    let quiet : not c.in_write.result ≡ true = cc in
    record {
      kind_is = λ events past h.
          pass _ _ _ _ (ap not (sym (c.in-Some.ensures.there events past h)))
          (stop _ _ _ (sym (ap not (writes_found events past c.args.self.now c.args.thread c.in-Some.row c.in_write.result h (sym c.in-Some.ensures.own) c.in_write.ensures)) ∙ quiet));
      found = tt;
    }

pub returns-then-due-ne0 : goal.returns-then-due-ne0
returns-then-due-ne0 c =
    let writing : not c.in_write.result ≡ false = cc in
    record {
      kind_is = λ events past h.
          let found = row_found events past c.args.self.now c.args.thread c.in-Some.row h (sym c.in-Some.ensures.own) in
          pass _ _ _ _ (ap not (sym (c.in-Some.ensures.there events past h)))
          (pass _ _ _ _ (sym (ap not (writes_found events past c.args.self.now c.args.thread c.in-Some.row c.in_write.result h (sym c.in-Some.ensures.own) c.in_write.ensures)) ∙ writing)
          (stop _ _ _ (sym (ap (λ due. not (due == 0)) c.due.ensures ∙ has_due_found events past c.args.self.now c.args.thread c.in-Some.row h found) ∙ ap not (ne_eqb c.due.result 0 c.if-due-ne0.true))));
      found = tt;
    }

pub returns : goal.returns
returns c =
    let writing : not c.in_write.result ≡ false = cc in
    record {
      kind_is = λ events past h.
          let found = row_found events past c.args.self.now c.args.thread c.in-Some.row h (sym c.in-Some.ensures.own) in
          pass _ _ _ _ (ap not (sym (c.in-Some.ensures.there events past h)))
          (pass _ _ _ _ (sym (ap not (writes_found events past c.args.self.now c.args.thread c.in-Some.row c.in_write.result h (sym c.in-Some.ensures.own) c.in_write.ensures)) ∙ writing)
          (pass _ _ _ _ (sym (ap (λ due. not (due == 0)) c.due.ensures ∙ has_due_found events past c.args.self.now c.args.thread c.in-Some.row h found) ∙ ap not (eq-eqb c.due.result 0 c.if-due-ne0.false)) refl));
      found = record { step_is = refl; there = record { own = c.in-Some.ensures.own; is_row = c.in-Some.ensures.row } };
    }
