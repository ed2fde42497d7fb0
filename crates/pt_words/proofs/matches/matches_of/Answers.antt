-- What clap says of a command that is simple.
use Rattle.std.proofs.Common.{◌≡◌, ◌&&◌, Bool, true, false, refl}
use Rattle.pt_words.proofs.matches.matches_of.Goals as goal

first-holds : (a b : Bool) → (a && b) ≡ true → a ≡ true
first-holds true b both = refl
first-holds false b both = both

pub returns-in-Ok : goal.returns-in-Ok
returns-in-Ok c = λ simple. (c.in-Ok.ensures.kinds simple, (c.in-Ok.ensures.matches (first-holds _ _ simple)).0)
