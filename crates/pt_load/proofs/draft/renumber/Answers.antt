use Rattle.std.proofs.Common.{◌++◌, List, ℕ, length, arith, ap, sym, ◌∙◌}
use Rattle.std.specs.Int.{w32, to_le_bytes}
use Rattle.std.proofs.lemmas.List.{nil_from_length}
use Rattle.pt_load.proofs.Writes.{renumbered, payload_indexed, payload_none}
use Rattle.pt_load.proofs.draft.renumber.Goals as goal

pub set_index-requires : goal.set_index-requires
set_index-requires c =
    let parts = payload_indexed c.args.write.now.event c.args.thread c.args.index 0 c.requires.event.0 c.requires.event.1 c.if-write-ne-STORE_OPENED.true in
    omega (arith, parts.0, c.requires.shape.payload)

pub returns-then-write-ne-STORE_OPENED : goal.returns-then-write-ne-STORE_OPENED
returns-then-write-ne-STORE_OPENED c =
    let parts = payload_indexed c.args.write.now.event c.args.thread c.args.index 0 c.requires.event.0 c.requires.event.1 c.if-write-ne-STORE_OPENED.true in
    renumbered c.args.thread c.args.index c.args.write.now _ _ _ c.requires.shape c.activity_of-write.ensures c.set_frames.ensures
    (c.set_index.ensures ∙ ap (λ (rest : List ℕ). to_le_bytes w32 c.args.index ++ rest) c.requires.shape.rest ∙ parts.1)

pub returns-else-write-ne-STORE_OPENED : goal.returns-else-write-ne-STORE_OPENED
returns-else-write-ne-STORE_OPENED c =
    let none = payload_none c.args.write.now.event c.args.thread in
    let is = c.if-write-ne-STORE_OPENED.false in
    renumbered c.args.thread c.args.index c.args.write.now _ _ _ c.requires.shape c.activity_of-write.ensures c.set_frames.ensures
    (nil_from_length c.args.write.now.payload (c.requires.shape.payload ∙ ap length (none 0 is)) ∙ sym (none c.args.index is))
