use Rattle.std.proofs.Common.{arith}
use Rattle.std.proofs.lemmas.Grind.{common_steps}
use Rattle.pt_load.proofs.Writes.{payload_none, payload_stop, payload_index}
use Rattle.pt_load.proofs.draft.payload_of.Goals as goal
use Rattle.pt_load.proofs.draft.payload_of.Goals.{then-event-ne-STORE_OPENED+in_ok-extend_from_slice, else-event-ne-STORE_OPENED, then-event-eq-REQUEST_STOP+in_ok-extend_from_slice-2, else-event-eq-REQUEST_STOP}

pub returns : goal.returns
returns c =
    elim c.if-event-ne-STORE_OPENED.branch [
      | then-event-ne-STORE_OPENED+in_ok-extend_from_slice w ↦ elim c.if-event-eq-REQUEST_STOP.branch [
        | then-event-eq-REQUEST_STOP+in_ok-extend_from_slice-2 v ↦ grind (arith, common_steps, payload_stop)
        | else-event-eq-REQUEST_STOP v ↦ grind (arith, common_steps, payload_index)
      ]
      | else-event-ne-STORE_OPENED w ↦ elim c.if-event-eq-REQUEST_STOP.branch [
        | then-event-eq-REQUEST_STOP+in_ok-extend_from_slice-2 v ↦ absurd (omega arith)
        | else-event-eq-REQUEST_STOP v ↦ grind (arith, common_steps, payload_none)
      ]
    ]
