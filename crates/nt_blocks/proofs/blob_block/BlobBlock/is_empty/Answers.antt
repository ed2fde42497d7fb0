use Rattle.std.proofs.Common.{◌≡◌, length, ap, ◌∙◌}
use Rattle.nt_head.specs.Head.{zero_state}
use Rattle.nt_blocks.specs.Value.{Making}
use Rattle.nt_blocks.specs.Drafts.{drafts_bytes}
use Rattle.nt_blocks.proofs.PutBlobs.{none_exactly}
use Rattle.nt_blocks.proofs.blob_block.BlobBlock.is_empty.Goals as goal

pub returns : goal.returns
returns c = λ drafts making.
    let bytes : length c.self.inside.bytes.items ≡ length (drafts_bytes zero_state drafts) = ap (λ (m : Making). length m.bytes) c.self.view_is ∙ ap length making.bytes in
    rw c.is_empty.ensures (none_exactly drafts _ (c.self.inside.bytes.ok.0 ∙ bytes))
