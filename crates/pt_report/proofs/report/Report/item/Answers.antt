use Rattle.std.proofs.Common.{◌++◌, ◌∷◌, [], Ok, sym, ap, ◌∙◌}
use Rattle.pt_num.proofs.Steps.{ok_value}
use Rattle.nt_blocks.specs.Ordered.{no_names, told_after}
use Rattle.pt_report.proofs.Steps.{on-ok-is, told-one-more}
use Rattle.pt_report.proofs.report.Report.item.Goals as goal

pub returns-clause-taken : goal.returns-clause-taken
returns-clause-taken c = λ kinds r.
    let took = c.in_default.ensures.taken kinds r.took in
    let all = ok_value (told_after no_names (kinds ++ c.args.kind.now ∷ [])) took.ordered in
    let more = told-one-more no_names kinds c.args.kind.now r.entries all.0 r.told all.1 in
    record {
      sound = c.if-self.false;
      took = took;
      entries = r.entries ++ more.0;
      told = all.1 ∙ ap Ok more.2;
      shows = on-ok-is c.count.result c.count.ensures (sym c.is_err.ensures.value ∙ c.if-is_err.false) kinds r.entries more.0 r.shows more.1;
    }
