-- What a write makes of the purse that its record's chunk comes from (this project's profile).
use Rattle.std.specs.Prelude.{◌≡◌, Bool, true, false}

-- A purse that was asked for a chunk where one was needed: it gave one, or was found dry and the write was refused. Where
-- none was needed it stays as it was, and nothing is refused.
abbrev pub IsAsked : {P : Type 0} → (P → P → Type 0) → (P → P → Type 0) → Bool → Bool → P → P → Type 0
IsAsked got dry true true old new = dry old new
IsAsked got dry true false old new = got old new
IsAsked got dry false refused old new = (refused ≡ false) × (new ≡ old)
