-- What is decoded so far, and what is left.
use Rattle.std.proofs.Common.{◌≡◌, ◌*◌, take, drop}
use Rattle.hex.specs.Hex.{decode_pairs}
use Rattle.hex.proofs.Pairs.{prepend}
use Rattle.ep_plan.proofs.words.ahead.spelled.Given as goal

abbrev pub invariant-pairs : goal.invariant-pairs
invariant-pairs l =
    decode_pairs 0 l.digits ≡ prepend (take l.place l.out) (decode_pairs (2 * l.place) (drop (2 * l.place) l.digits))
