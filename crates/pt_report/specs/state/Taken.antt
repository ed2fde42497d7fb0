-- What a report stands for.
use Rattle.std.specs.Prelude.{◌≡◌, Bool, false, List, Ok}
use Rattle.ep_defs.specs.declared.item.ItemKind.{ItemKind}
use Rattle.ep_defs.specs.Entry.{Entry}
use Rattle.nt_blocks.specs.Ordered.{no_names, told_after}
use Rattle.nt_check.specs.state.Took.{Took}
use Rattle.pt_report.specs.declared.report.Report.{Report}
use Rattle.pt_report.specs.state.Shows.{Shows}

-- The report has found no memory, and answers so from then on.
abbrev pub has_failed : Report → Bool
has_failed report = report.failed

-- The report took these items, in this order.
pub record HasTaken (kinds : List ItemKind) (report : Report) : Type 0 where
  pub sound : report.failed ≡ false
  pub took : Took kinds report.checker
  pub entries : List Entry
  pub told : told_after no_names kinds ≡ Ok entries
  pub shows : Shows kinds entries report.counters
