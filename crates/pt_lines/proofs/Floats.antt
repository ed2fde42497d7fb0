-- The numbers of JSON.
use Rattle.std.proofs.Common.{◌≡◌, ◌≤◌, true, false, ℕ, arith, List, Some, refl}
use Rattle.std.specs.Prelude.{nat_lt}
use Rattle.std.specs.Float.{float_is_finite}
use Rattle.std.specs.Float.Ieee.{Float, Format, nan, inf, fin}
use Rattle.ryu.specs.Parse.{parse_float}
use Rattle.ryu.specs.Plain.{IsPlainNumber, word_of}
use Rattle.pt_lines.specs.Json.{IsNumber, in_quotes}

-- A finite float is a number.
pub finite-number : (format : Format) (float : Float) (text : List ℕ) → float_is_finite float ≡ true → IsPlainNumber text → parse_float format text ≡ Some float → IsNumber format float text
unfolding float_is_finite
finite-number format nan text finite plain reads = absurd (cc)
finite-number format (inf negative) text finite plain reads = absurd (cc)
finite-number format (fin negative mantissa exponent) text finite plain reads = (plain, reads)

-- Of one that is not the word stands between quotes.
pub word-number : (format : Format) (float : Float) → float_is_finite float ≡ false → IsNumber format float (in_quotes (word_of float))
unfolding float_is_finite
word-number format nan finite = refl
word-number format (inf negative) finite = refl
word-number format (fin negative mantissa exponent) finite = absurd (cc)

-- What is not above the infinite is a number or infinite.
pub not-above : (infinite size : ℕ) → size ≤ infinite → nat_lt infinite size ≡ false
not-above infinite size le = grind arith
