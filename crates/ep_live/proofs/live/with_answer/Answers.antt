use Rattle.std.proofs.Common.{◌∙◌, ap, sym}
use Rattle.std.specs.Prelude.{◌==◌, if◌then◌else◌}
use Rattle.std.specs.Int.{bit_at}
use Rattle.ep_slot.specs.declared.shown.Shown.{Shown}
use Rattle.ep_slot.specs.Slot.{is_refused}
use Rattle.ep_row.specs.Bits.{one_if}
use Rattle.ep_row.proofs.Masks.{set-bit}
use Rattle.ep_live.proofs.live.with_answer.Goals as goal

pub returns-in-Refused : goal.returns-in-Refused
returns-in-Refused c s h =
    set-bit c.args.refused c.args.slot s c.requires.within
    ∙ ap (λ (v : Shown). if s == c.args.slot then one_if (is_refused v) else bit_at c.args.refused s) (sym c.in-Refused.is)
