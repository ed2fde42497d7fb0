use Rattle.std.proofs.Common.{◌≡◌, ℕ, true, false, None, refl, ap, sym, ◌∙◌, subst}
use Rattle.std.specs.Prelude.{not, ◌==◌}
use Rattle.std.specs.Int.{bit_at}
use Rattle.ep_model.specs.declared.step.Step.TheVariants as step
use Rattle.ep_tables.specs.declared.judged.Judged.TheVariants as judged
use Rattle.ep_tables.specs.declared.judged.OnBoth.{OnBoth}
use Rattle.ep_tables.specs.Judged.{Finds}
use Rattle.ep_tables.proofs.Found.{present_found, writes_found, due_found}
use Rattle.ep_tables.proofs.Judging.{stop, pass, pass_writing}
use Rattle.ep_tables.proofs.tables.Tables.to_show.Goals as goal

pub returns-in_default : goal.returns-in_default
returns-in_default c = record { kind_is = λ events past h. stop _ _ _ (ap not (sym (c.in_default.ensures.there events past h))); found = tt }

pub returns-in_default-place_of : goal.returns-in_default-place_of
returns-in_default-place_of c =
    record {
      kind_is = λ events past h.
          pass _ _ _ _ (ap not (sym (c.in-Some.ensures.there events past h)))
          (stop _ _ _ (ap not (sym (present_found events past c.args.self.now c.args.session None h c.in_default-place_of.ensures))));
      found = tt;
    }

pub returns-then-not-in_write : goal.returns-then-not-in_write
returns-then-not-in_write c =
    let quiet : not c.in_write.result ≡ true = cc in
    record {
      kind_is = λ events past h.
          pass _ _ _ _ (ap not (sym (c.in-Some.ensures.there events past h)))
          (pass _ _ _ _ (ap not (sym (present_found events past c.args.self.now c.args.session _ h c.in-Some-place_of.ensures)))
          (stop _ _ _ (sym (ap not (writes_found events past c.args.self.now c.args.thread c.in-Some.row c.in_write.result h (sym c.in-Some.ensures.own) c.in_write.ensures)) ∙ quiet)));
      found = tt;
    }

pub returns-then-not-has_bit : goal.returns-then-not-has_bit
returns-then-not-has_bit c =
    let writing : not c.in_write.result ≡ false = cc in
    let seen : not c.has_bit.result ≡ true = cc in
    record {
      kind_is = λ events past h.
          pass_writing events past c.args.self.now c.args.session c.args.thread c.in-Some-place_of.place c.in-Some.row c.in_write.result _ _ h c.in-Some.ensures.own (c.in-Some.ensures.there events past h)
          c.in-Some-place_of.ensures c.in_write.ensures writing
          (stop _ _ _ (sym (ap not (due_found events past c.args.self.now c.args.session c.args.thread c.in-Some-place_of.place c.in-Some.row c.index.result.now c.has_bit.result h c.in-Some-place_of.ensures c.index.ensures (sym c.in-Some.ensures.own)
          (c.has_bit.ensures ∙ ap (λ (due : ℕ). bit_at due c.index.result.now.slot == 1) c.due.ensures))) ∙ seen));
      found = tt;
    }

pub returns : goal.returns
returns c =
    let writing : not c.in_write.result ≡ false = cc in
    let due : not c.has_bit.result ≡ false = cc in
    record {
      kind_is = λ events past h.
          pass_writing events past c.args.self.now c.args.session c.args.thread c.in-Some-place_of.place c.in-Some.row c.in_write.result _ _ h c.in-Some.ensures.own (c.in-Some.ensures.there events past h)
          c.in-Some-place_of.ensures c.in_write.ensures writing
          (pass _ _ _ _ (sym (ap not (due_found events past c.args.self.now c.args.session c.args.thread c.in-Some-place_of.place c.in-Some.row c.index.result.now c.has_bit.result h c.in-Some-place_of.ensures c.index.ensures (sym c.in-Some.ensures.own)
          (c.has_bit.ensures ∙ ap (λ (due : ℕ). bit_at due c.index.result.now.slot == 1) c.due.ensures))) ∙ due) refl);
      found =
          subst (λ (both : OnBoth). Finds c.args.self.now (step.Show c.args.thread c.args.session) (judged.Show both)) (sym c.both.ensures)
          (record { step_is = refl; there = record { of = sym c.in-Some-place_of.ensures; on = record { own = c.in-Some.ensures.own; is_row = c.in-Some.ensures.row } } });
    }
