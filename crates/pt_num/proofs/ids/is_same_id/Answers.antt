use Rattle.pt_num.proofs.SameBytes.{same_numbers}
use Rattle.pt_num.proofs.ids.is_same_id.Goals as goal

pub returns : goal.returns
returns c =
    rw (c.read_u128.ensures, c.read_u128-2.ensures) (same_numbers 16 c.args.one.now c.args.other.now c.told-one c.told-other c.fits-one c.fits-other)
