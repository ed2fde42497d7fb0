use Rattle.std.proofs.Common.{◌≡◌, ℕ, Ok, List}
use Rattle.ep_defs.specs.declared.item.Item.{Item}
use Rattle.nt_object.specs.declared.object.BlockKind.{BlockKind}
use Rattle.nt_object.specs.declared.object.BlockKind.TheVariants as block
use Rattle.nt_blocks.specs.Bodies.{IsBody}
use Rattle.nt_blocks.specs.Refusals.{body_at}
use Rattle.nt_blocks.proofs.ReadBack.{NumbersBack, HeadsBack, MetasBack, event_body-back, meta_body-back, stack_body-back, point_body-back}
use Rattle.nt_blocks.proofs.laws.what_a_body_holds_is_read.Goals as goal

-- By the kind.
reads : NumbersBack → HeadsBack → MetasBack → (kind : BlockKind) (at : ℕ) (items : List Item) (bytes : List ℕ) → IsBody kind at items bytes → body_at kind at bytes ≡ Ok items
reads numbers heads metas block.Event = event_body-back numbers heads
reads numbers heads metas block.Metadata = meta_body-back numbers heads metas
reads numbers heads metas block.Stack = stack_body-back numbers
reads numbers heads metas block.Point = point_body-back numbers

pub returns : goal.returns
returns c =
    let numbers : NumbersBack = record {
      short = c.what_is_put_is_taken.ensures.fixed16;
      middle = c.what_is_put_is_taken.ensures.fixed32;
      long = c.what_is_put_is_taken.ensures.fixed64;
    } in
    reads numbers (record { head = c.what_is_put_is_taken-2.ensures }) (record { meta = c.a_payload_is_read_back.ensures })
