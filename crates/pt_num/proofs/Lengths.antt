-- How many bytes a number takes.
use Rattle.std.proofs.Common.{◌≡◌, ℕ, length}
use Rattle.std.specs.Int.{w16, w32, w64}
use Rattle.byteorder.specs.Numbers.{length-bytes_low_first}
use Rattle.pt_num.specs.Numbers.{fixed}

-- Two bytes.
pub length-fixed16 : (n : ℕ) → length (fixed w16 n) ≡ 2
unfolding fixed
length-fixed16 n = length-bytes_low_first 0 2 n

-- Four bytes.
pub length-fixed32 : (n : ℕ) → length (fixed w32 n) ≡ 4
unfolding fixed
length-fixed32 n = length-bytes_low_first 0 4 n

-- Eight bytes.
pub length-fixed64 : (n : ℕ) → length (fixed w64 n) ≡ 8
unfolding fixed
length-fixed64 n = length-bytes_low_first 0 8 n
