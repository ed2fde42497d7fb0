use Rattle.std.proofs.Common.{sym, subst}
use Rattle.std.specs.List.{All}
use Rattle.std.proofs.lemmas.List.Elements.{All-nil}
use Rattle.ep_row.specs.AtRest.{IsNumbered, SlotAtRest}
use Rattle.ep_row.proofs.row.Row.steal.Goals as goal

pub returns-clause-numbered : goal.returns-clause-numbered
returns-clause-numbered c events config writes rest = (
  subst (SlotAtRest events config writes) (sym c.steal.ensures.slot) (All-nil (IsNumbered events config writes c.args.buffer.now.from)),
  subst (All (IsNumbered events config writes c.args.buffer.now.from)) (sym c.steal.ensures.records) rest,
)
