use Rattle.std.proofs.Common.{rules, ◌∙◌, refl}
use Rattle.ep_guarded.proofs.kept.open.Goals as goal

pub returns-clause-opened : goal.returns-clause-opened
returns-clause-opened g c =
    let opened = c.in_ok-made.ensures in
    record {
      rests = search rules;
      agree = search rules;
      grant_is = refl;
      thread = search rules;
      fresh = search rules;
      row_is =
          record {
            slots = search rules;
            known = search rules;
            masks = search rules;
            others = search rules;
            rest = opened.rest g.P.Program.events c.args.grant.now.config (c.as_slice.ensures.value ∙ c.requires.admitted);
          };
    }
