use Rattle.std.proofs.Common.{arith, ap, ◌∙◌}
use Rattle.std.specs.Int.{w64, to_le_bytes}
use Rattle.pt_load.proofs.Writes.{activity_request, activity_none}
use Rattle.pt_load.proofs.draft.activity_of.Goals as goal

pub returns-then-event-le-LAST_REQUEST : goal.returns-then-event-le-LAST_REQUEST
returns-then-event-le-LAST_REQUEST c =
    activity_request _ _ _ _ _ (omega arith)
    (c.copy_from_slice.ensures.after ∙ c.to_le_bytes.ensures ∙ ap (to_le_bytes w64) c.from.ensures)
    (c.copy_from_slice-then-event-le-LAST_REQUEST.ensures.after ∙ c.to_le_bytes-then-event-le-LAST_REQUEST.ensures
    ∙ ap (to_le_bytes w64) c.from-then-event-le-LAST_REQUEST.ensures)

pub returns-else-event-le-LAST_REQUEST : goal.returns-else-event-le-LAST_REQUEST
returns-else-event-le-LAST_REQUEST c = activity_none _ _ _ (omega arith)
