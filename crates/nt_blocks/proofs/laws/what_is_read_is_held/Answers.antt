use Rattle.std.proofs.Common.{◌≡◌, ℕ, Ok, List}
use Rattle.ep_defs.specs.Ranges.{AreBytes}
use Rattle.ep_defs.specs.declared.item.Item.{Item}
use Rattle.nt_object.specs.declared.object.BlockKind.{BlockKind}
use Rattle.nt_object.specs.declared.object.BlockKind.TheVariants as block
use Rattle.nt_blocks.specs.Bodies.{IsBody}
use Rattle.nt_blocks.specs.Refusals.{body_at}
use Rattle.nt_blocks.proofs.ReadForms.{HeadForms, MetaForms, event_body-form, meta_body-form, stack_body-form, point_body-form}
use Rattle.nt_blocks.proofs.laws.what_is_read_is_held.Goals as goal

-- By the kind.
forms : HeadForms → MetaForms → (kind : BlockKind) (at : ℕ) (items : List Item) (bytes : List ℕ) → AreBytes bytes → body_at kind at bytes ≡ Ok items → IsBody kind at items bytes
forms heads metas block.Event = event_body-form heads
forms heads metas block.Metadata = meta_body-form heads metas
forms heads metas block.Stack = stack_body-form
forms heads metas block.Point = point_body-form

pub returns : goal.returns
returns c = forms (record { head = c.what_is_taken_is_a_form.ensures }) (record { meta = c.what_is_read_is_a_payload.ensures })
