use Rattle.std.proofs.Common.{◌≡◌, length, ap, ◌∙◌, arith}
use Rattle.std.proofs.lemmas.Bool.Decides.{nat_tests}
use Rattle.nt_head.specs.Head.{zero_state}
use Rattle.nt_blocks.specs.Value.{Making}
use Rattle.nt_blocks.specs.Drafts.{drafts_bytes}
use Rattle.nt_blocks.proofs.PutBlobs.{length-blob_body}
use Rattle.nt_blocks.proofs.blob_block.BlobBlock.fits.Goals as goal

pub returns : goal.returns
returns c = record {
  drafts = λ drafts making.
      let bytes : length c.self.inside.bytes.items ≡ length (drafts_bytes zero_state drafts) = ap (λ (m : Making). length m.bytes) c.self.view_is ∙ ap length making.bytes in
      let body = length-blob_body drafts in
      let few = c.self.invariant.few in
      let len = c.self.inside.bytes.ok.0 in
      rw body (λ h. grind (arith, nat_tests), λ h. grind (arith, nat_tests));
  room =
      let bytes : length c.self.inside.bytes.items ≡ length c.args.self.now.bytes = ap (λ (m : Making). length m.bytes) c.self.view_is in
      let few = c.self.invariant.few in
      let len = c.self.inside.bytes.ok.0 in
      (λ h. grind (arith, nat_tests), λ h. grind (arith, nat_tests));
}
