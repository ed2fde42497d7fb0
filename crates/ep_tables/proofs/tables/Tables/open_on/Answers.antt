use Rattle.std.proofs.Common.{None, refl, ap, sym, ◌∙◌, subst}
use Rattle.std.specs.Prelude.{not}
use Rattle.ep_tables.specs.declared.judged.OnBoth.{OnBoth}
use Rattle.ep_tables.specs.Judged.{HasBoth}
use Rattle.ep_rows.specs.Rows.{told_of}
use Rattle.std.specs.BTreeMap.{get}
use Rattle.std.specs.Ordering.{nat_cmp}
use Rattle.ep_tables.proofs.Found.{present_found, no_row, none_open, open_found}
use Rattle.ep_tables.proofs.Judging.{stop, pass, came_found, pass_came}
use Rattle.ep_tables.proofs.tables.Tables.open_on.Goals as goal

pub returns-in_default : goal.returns-in_default
returns-in_default c =
    record {
      kind_is = λ events past h. stop _ _ _ (ap not (sym (present_found events past c.args.self.now c.args.session None h c.in_default.ensures)));
      found = tt;
      session = tt;
      thread = tt;
    }

pub returns-then-not-contains_key : goal.returns-then-not-contains_key
returns-then-not-contains_key c =
    let tables = c.args.self.now in
    record {
      kind_is = λ events past h.
          pass _ _ _ _ (ap not (sym (present_found events past tables c.args.session _ h c.in-Some.ensures)))
          (stop _ _ _ (ap not (sym (c.contains_key.ensures ∙ came_found past (told_of tables.rows) c.args.thread (get nat_cmp tables.threads c.args.thread) (h.places c.args.thread)) ∙ c.if-not-contains_key.true)));
      found = tt;
      session = tt;
      thread = tt;
    }

pub returns-in_default-row_of : goal.returns-in_default-row_of
returns-in_default-row_of c =
    let tables = c.args.self.now in
    record {
      kind_is = λ events past h.
          let came = came_found past (told_of tables.rows) c.args.thread (get nat_cmp tables.threads c.args.thread) (h.places c.args.thread) in
          pass_came events past tables c.args.session c.args.thread c.in-Some.place c.contains_key.result _ _ h c.in-Some.ensures c.contains_key.ensures c.if-not-contains_key.false
          (stop _ _ _ (ap not (none_open past c.args.session c.args.thread (no_row events past tables c.args.thread h c.in_default-row_of.ensures.own) (sym (c.contains_key.ensures ∙ came) ∙ c.if-not-contains_key.false))));
      found = tt;
      session = tt;
      thread = tt;
    }

pub returns-then-not-is_on : goal.returns-then-not-is_on
returns-then-not-is_on c =
    let tables = c.args.self.now in
    record {
      kind_is = λ events past h.
          pass_came events past tables c.args.session c.args.thread c.in-Some.place c.contains_key.result _ _ h c.in-Some.ensures c.contains_key.ensures c.if-not-contains_key.false
          (stop _ _ _ (ap not (sym (open_found events past tables c.args.session c.args.thread c.in-Some.place c.in-Some-row_of.row c.index.result.now c.is_on.result h c.in-Some.ensures c.index.ensures c.in-Some-row_of.ensures.own c.is_on.ensures) ∙ c.if-not-is_on.true)));
      found = tt;
      session = tt;
      thread = tt;
    }

pub returns : goal.returns
returns c =
    let tables = c.args.self.now in
    record {
      kind_is = λ events past h.
          pass_came events past tables c.args.session c.args.thread c.in-Some.place c.contains_key.result _ _ h c.in-Some.ensures c.contains_key.ensures c.if-not-contains_key.false
          (pass _ _ _ _ (ap not (sym (open_found events past tables c.args.session c.args.thread c.in-Some.place c.in-Some-row_of.row c.index.result.now c.is_on.result h c.in-Some.ensures c.index.ensures c.in-Some-row_of.ensures.own c.is_on.ensures) ∙ c.if-not-is_on.false)) refl);
      found = subst (λ (both : OnBoth). HasBoth tables both) (sym c.both.ensures) (record { of = sym c.in-Some.ensures; on = record { own = sym c.in-Some-row_of.ensures.own; is_row = c.in-Some-row_of.ensures.row } });
      session = ap (λ (both : OnBoth). both.of.session) c.both.ensures;
      thread = ap (λ (both : OnBoth). both.on.thread) c.both.ensures;
    }
