-- An input that was read to its end (this project's profile).
use Rattle.std.specs.Prelude.{◌≡◌, ℕ, ◌+◌, List, length}
use Rattle.pt_io.specs.declared.source.Source.{Ghosts as Source}
use Rattle.pt_io.specs.Taken.{ReadAll}

-- The input was read to its end: where it tells its bytes it gave these, and told or not it gave as many.
pub record ReadWhole {I : Type 0} (source : Source I) (old new : I) (bytes : List ℕ) : Type 0 where
  pub told : ReadAll source.tells_given source.given source.left old new bytes
  pub counted : source.may_give new + length bytes ≡ source.may_give old
