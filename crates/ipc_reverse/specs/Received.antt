-- What a link gave in a call.
use Rattle.std.specs.Prelude.{◌≡◌, ℕ, ◌++◌, take, drop, IsTrue}
use Rattle.pt_io.specs.declared.source.Source.{Ghosts as Source}

-- It gave its next so many bytes, or all that it had where these are fewer, and no byte more.
pub record GaveNext {S : Type 0} (source : Source S) (old new : S) (count : ℕ) : Type 0 where
  pub given : source.given new ≡ source.given old ++ take count (source.left old)
  pub left : source.left new ≡ drop count (source.left old)

-- It has what it had, where it tells that: what it gave then and what it has left.
abbrev pub KeepsBytes : {S : Type 0} → Source S → S → S → Type 0
KeepsBytes source old new =
    IsTrue (source.tells_given old) → source.given new ++ source.left new ≡ source.given old ++ source.left old
