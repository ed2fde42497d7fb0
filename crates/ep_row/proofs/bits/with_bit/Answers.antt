use Rattle.std.proofs.Common.{◌∙◌, Bool, ap, sym}
use Rattle.std.specs.Prelude.{◌==◌, if◌then◌else◌}
use Rattle.std.specs.Int.{bit_at}
use Rattle.ep_row.specs.Bits.{one_if}
use Rattle.ep_row.proofs.Masks.{set-bit, clear-bit}
use Rattle.ep_row.proofs.bits.with_bit.Goals as goal

pub returns-then-on : goal.returns-then-on
returns-then-on c s small =
    set-bit c.args.mask c.args.slot s c.requires
    ∙ ap (λ (on : Bool). if s == c.args.slot then one_if on else bit_at c.args.mask s) (sym c.if-on.true)

pub returns-else-on : goal.returns-else-on
returns-else-on c s small =
    clear-bit c.args.mask c.args.slot s c.requires small
    ∙ ap (λ (on : Bool). if s == c.args.slot then one_if on else bit_at c.args.mask s) (sym c.if-on.false)
