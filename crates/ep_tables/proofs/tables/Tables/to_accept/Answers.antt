use Rattle.std.proofs.Common.{◌≡◌, arith, refl, ap, sym, ◌∙◌, length}
use Rattle.std.specs.Prelude.{not, nat_le}
use Rattle.std.proofs.lemmas.List.{length-map}
use Rattle.ep_model.specs.declared.step.Step.TheVariants as step
use Rattle.ep_tables.specs.Tables.{number_of}
use Rattle.ep_tables.specs.declared.judged.Judged.TheVariants as judged
use Rattle.ep_tables.specs.Judged.{Finds}
use Rattle.ep_tables.proofs.Judging.{alike, found_as, not_next}
use Rattle.ep_tables.proofs.tables.Tables.to_accept.Goals as goal

pub returns : goal.returns
returns c =
    let tables = c.args.self.now in
    let count : c.len.result ≡ length tables.present.items = omega (arith, c.len.ensures, tables.present.ok.0) in
    record {
      kind_is = λ events past h.
          c.unless.ensures.kind_is
          ∙ alike _ _ _ _ _ (not_next 0 c.args.session tables.last_session _ (h.last_session c.args.session) (omega arith))
          (alike _ _ _ _ _ (ap not c.is_valid.ensures)
          (alike _ _ _ _ _ (ap (nat_le 64) (count ∙ sym (ap length h.present_are ∙ length-map tables.present.items number_of))) refl));
      found = found_as c.unless.result (Finds tables (step.Accept c.args.session c.args.config)) (judged.Accept c.args.session c.args.config) c.unless.ensures.same (record { step_is = refl; there = tt });
    }
