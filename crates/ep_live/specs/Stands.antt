-- What holds of the threads' halves. All of it is this project's own.
use Rattle.std.specs.Prelude.{◌≡◌, ℕ, List, [], length, Option, None}
use Rattle.std.specs.Option.{ForSome}
use Rattle.ep_tie.specs.Tied.{Tied}
use Rattle.ep_guarded.specs.declared.agreed.Agreed.{Agreed}
use Rattle.ep_live.specs.Made.{AreStands}

-- There is one for each row, each at this index, or none.
pub record AreHere (rows : ℕ) (index : Option ℕ) (halves : List (Tied Agreed)) : Type 0 where
  pub here : ForSome index (λ i. (length halves ≡ rows) × AreStands i halves)
  pub lent : index ≡ None → halves ≡ []
