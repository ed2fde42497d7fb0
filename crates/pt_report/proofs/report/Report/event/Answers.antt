use Rattle.std.proofs.Common.{◌++◌, ◌∷◌, [], Ok, sym, ap, ◌∙◌}
use Rattle.std.proofs.lemmas.Bool.{not-false}
use Rattle.pt_num.proofs.Steps.{ok_value}
use Rattle.nt_blocks.specs.Ordered.{no_names, told_after}
use Rattle.nt_check.specs.Events.{event_item}
use Rattle.pt_report.proofs.Steps.{on-ok-is, told-one-more}
use Rattle.pt_report.proofs.report.Report.event.Goals as goal

pub returns-clause-taken : goal.returns-clause-taken
returns-clause-taken c = λ kinds r rest.
    let event = event_item c.args.event.now rest in
    let took = c.in-Ok.ensures.taken kinds r.took rest in
    let all = ok_value (told_after no_names (kinds ++ event ∷ [])) took.ordered in
    let more = told-one-more no_names kinds event r.entries all.0 r.told all.1 in
    record {
      sound = c.if-self.false;
      took = took;
      entries = r.entries ++ more.0;
      told = all.1 ∙ ap Ok more.2;
      shows = on-ok-is c.count_event.result c.count_event.ensures (sym c.is_err.ensures.value ∙ c.if-is_err.false) kinds r.entries more.0 rest r.shows (λ e. not-false _ (sym (c.in-Ok.ensures.first kinds r.took) ∙ e)) more.1;
    }
