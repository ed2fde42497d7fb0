-- What taking a payload answers.
use Rattle.std.specs.Prelude.{◌≡◌, ℕ, Result, Ok, IsErr}
use Rattle.ep_defs.specs.declared.event.EventDef.{EventDef}
use Rattle.nt_meta.specs.declared.take.TakenMeta.{TakenMeta}
use Rattle.nt_meta.specs.declared.take.TakenMeta.TheVariants.{Meta, BadMeta}
use Rattle.nt_meta.specs.Reading.{Refused}

-- The answer is what stands in the bytes. What is refused is refused at the payload's first byte (this project's
-- profile).
abbrev pub TakesMeta : Result (ℕ × EventDef) Refused → TakenMeta → Type 0
TakesMeta meta (Meta id def) = meta ≡ Ok (id, def)
TakesMeta meta (BadMeta at) = IsErr meta × (at ≡ 0)
