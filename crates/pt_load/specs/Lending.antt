-- What a draft is once the write that it lends is given back. All of it is this project's own.
use Rattle.std.specs.Prelude.{◌≡◌, ⊤}
use Rattle.std.specs.Borrow.{Fml, MutBor, follows_so}
use mathlib.Core.Option.{none}
use Rattle.pt_load.specs.Shape.{Drafted}
use Rattle.pt_load.specs.contracts.draft.Draft.{the_row}

-- It is what it was.
abbrev pub StaysTheSame : MutBor Drafted → Fml
StaysTheSame draft = follows_so the_row the_row draft.ghost_name none (λ _ _. ⊤) (λ after. after ≡ draft.now)
