use Rattle.std.proofs.Common.{◌≡◌, true, false, refl, ap, sym, ◌∙◌}
use Rattle.std.proofs.lemmas.Bool.{le-leb, lt-leb}
use Rattle.std.specs.Prelude.{not, nat_le}
use Rattle.ep_defs.specs.declared.limits.TheConstants.{SCHEDULE_WRITES}
use Rattle.ep_tables.proofs.Found.{writes_found}
use Rattle.ep_tables.proofs.Judging.{stop, pass, lacks_found, pass_known}
use Rattle.ep_tables.proofs.tables.Tables.to_begin.Goals as goal

pub returns-in_default : goal.returns-in_default
returns-in_default c = record { kind_is = λ events past h. stop _ _ _ (ap not (sym (c.in_default.ensures.there events past h))); found = tt }

pub returns-then-in_write : goal.returns-then-in_write
returns-then-in_write c = record {
  kind_is = λ events past h.
      pass _ _ _ _ (ap not (sym (c.in-Some.ensures.there events past h)))
      (stop _ _ _ (sym (writes_found events past c.args.self.now c.args.thread c.in-Some.row c.in_write.result h (sym c.in-Some.ensures.own) c.in_write.ensures) ∙ c.if-in_write.true));
  found = tt;
}

pub returns-then-lacks_event : goal.returns-then-lacks_event
returns-then-lacks_event c = record {
  kind_is = λ events past h.
      pass _ _ _ _ (ap not (sym (c.in-Some.ensures.there events past h)))
      (pass _ _ _ _ (sym (writes_found events past c.args.self.now c.args.thread c.in-Some.row c.in_write.result h (sym c.in-Some.ensures.own) c.in_write.ensures) ∙ c.if-in_write.false)
      (stop _ _ _ (sym (lacks_found events past c.args.self.now c.args.write.event c.lacks_event.result h c.lacks_event.ensures) ∙ c.if-lacks_event.true)));
  found = tt;
}

pub returns-then-not-fits : goal.returns-then-not-fits
returns-then-not-fits c =
    let large : not c.fits.result ≡ true = cc in
    record {
      kind_is = λ events past h.
          pass_known events past c.args.self.now c.args.thread c.in-Some.row c.args.write.event c.in_write.result c.lacks_event.result _ _ h c.in-Some.ensures.own (c.in-Some.ensures.there events past h)
          c.in_write.ensures c.if-in_write.false c.lacks_event.ensures c.if-lacks_event.false
          (stop _ _ _ (sym (ap not c.fits.ensures) ∙ large));
      found = tt;
    }

pub returns-then-self-ge-SCHEDULE_WRITES : goal.returns-then-self-ge-SCHEDULE_WRITES
returns-then-self-ge-SCHEDULE_WRITES c =
    let small : not c.fits.result ≡ false = cc in
    record {
      kind_is = λ events past h.
          pass_known events past c.args.self.now c.args.thread c.in-Some.row c.args.write.event c.in_write.result c.lacks_event.result _ _ h c.in-Some.ensures.own (c.in-Some.ensures.there events past h)
          c.in_write.ensures c.if-in_write.false c.lacks_event.ensures c.if-lacks_event.false
          (pass _ _ _ _ (sym (ap not c.fits.ensures) ∙ small)
          (stop _ _ _ (ap (nat_le SCHEDULE_WRITES) h.begins_are ∙ le-leb SCHEDULE_WRITES c.args.self.now.begins c.if-self-ge-SCHEDULE_WRITES.true)));
      found = tt;
    }

pub returns : goal.returns
returns c =
    let small : not c.fits.result ≡ false = cc in
    record {
      kind_is = λ events past h.
          pass_known events past c.args.self.now c.args.thread c.in-Some.row c.args.write.event c.in_write.result c.lacks_event.result _ _ h c.in-Some.ensures.own (c.in-Some.ensures.there events past h)
          c.in_write.ensures c.if-in_write.false c.lacks_event.ensures c.if-lacks_event.false
          (pass _ _ _ _ (sym (ap not c.fits.ensures) ∙ small)
          (pass _ _ _ _ (ap (nat_le SCHEDULE_WRITES) h.begins_are ∙ lt-leb SCHEDULE_WRITES c.args.self.now.begins c.if-self-ge-SCHEDULE_WRITES.false) refl));
      found = record { step_is = refl; there = record { own = c.in-Some.ensures.own; is_row = c.in-Some.ensures.row } };
    }
