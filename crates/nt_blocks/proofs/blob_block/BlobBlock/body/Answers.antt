use Rattle.std.proofs.Common.{◌≡◌, ◌++◌, List, ℕ, ap, subst, ◌∙◌}
use Rattle.std.specs.Int.{w16}
use Rattle.ep_defs.specs.Ranges.{AreBytes}
use Rattle.ep_defs.specs.declared.item.Item.{Item}
use Rattle.pt_num.specs.Numbers.{fixed}
use Rattle.nt_blocks.specs.Bodies.{IsBody}
use Rattle.nt_blocks.specs.Value.{Making}
use Rattle.nt_blocks.proofs.Whole.{five_put, whole_body}
use Rattle.nt_blocks.proofs.blob_block.BlobBlock.body.Goals as goal

pub returns-clause-form : goal.returns-clause-form
returns-clause-form c = λ at.
    let body = c.extend_from_slice.new.self.items in
    let first : c.put_u16.new.out.items ≡ fixed w16 20 = c.in_ok-put_u16.ensures.ok ∙ ap (λ (r : List ℕ). r ++ fixed w16 20) c.in_ok-body.ensures.items in
    let last : body ≡ c.put_u64-2.new.out.items ++ c.self.inside.bytes.items = c.in_ok-extend_from_slice.ensures.items ∙ ap (λ (r : List ℕ). c.put_u64-2.new.out.items ++ r) c.deref.ensures.value in
    let put = five_put c.put_u16.new.out.items c.put_u16-2.new.out.items c.put_u64.new.out.items c.put_u64-2.new.out.items body _ _ _ _ c.self.inside.bytes.items first c.in_ok-put_u16-2.ensures.ok c.in_ok-put_u64.ensures.ok c.in_ok-put_u64-2.ensures.ok last in
    let fit : AreBytes body = subst AreBytes c.deref-2.ensures.value c.bytes_fit.ensures in
    subst (λ (m : Making). (items : List Item) × IsBody m.kind at items body) c.self.view_is
    (whole_body c.self.inside.kind at c.self.inside.bytes.items body c.self.inside.last c.self.inside.least c.self.inside.greatest c.self.invariant.of_blobs c.self.invariant.whole put fit)
