-- What one step reads at a place of the bytes, after which the place moves.
use Rattle.std.specs.Prelude.{◌≡◌, ℕ, ◌≤◌, Bool, List, length, drop, Option, Ok, Err, unwrap_or}
use Rattle.std.specs.Option.{option_map_or}
use Rattle.nt_head.specs.declared.head.HeadState.{HeadState}
use Rattle.nt_head.specs.declared.take.HeadStop.{HeadStop}
use Rattle.nt_head.specs.declared.take.HeadStop.TheVariants as stop
use Rattle.nt_head.specs.declared.take.Numbers.{Numbers}
use Rattle.pt_num.specs.Fields.{Field, Short, TooWide}
use Rattle.nt_head.specs.Head.{Sequence, number_after}
use Rattle.nt_head.specs.Reading.{if_set, sequence_at}

-- The field between two places has this value.
pub record Reads {A : Type 0} (field : List ℕ → Field A) (bytes : List ℕ) (start end : ℕ) (value : A) : Type 0 where
  pub within : end ≤ length bytes
  pub read : field (drop start bytes) ≡ Ok (value, drop end bytes)

-- The field at a place is cut, or has a varuint that is too wide.
abbrev pub Stops : {A : Type 0} → (List ℕ → Field A) → List ℕ → ℕ → HeadStop → Type 0
Stops field bytes start stop.Short = field (drop start bytes) ≡ Err Short
Stops field bytes start (stop.BadVar at) = (at ≤ length bytes) × (field (drop start bytes) ≡ Err (TooWide (drop at bytes)))

-- A field that may be absent gives this value in place of the previous one.
pub record ReadsNew {A : Type 0} (there : Bool) (field : List ℕ → Field A) (bytes : List ℕ) (start end : ℕ) (previous now : A) : Type 0 where
  pub said : Option A
  pub within : end ≤ length bytes
  pub read : if_set there field (drop start bytes) ≡ Ok (said, drop end bytes)
  pub value : now ≡ unwrap_or said previous

-- The fields of the sequence, which may be absent, give these values in place of the previous ones.
pub record ReadsSequence (there : Bool) (bytes : List ℕ) (start end metadata : ℕ) (previous : HeadState) (now : Numbers) : Type 0 where
  pub said : Option Sequence
  pub within : end ≤ length bytes
  pub read : if_set there sequence_at (drop start bytes) ≡ Ok (said, drop end bytes)
  pub number : now.number ≡ number_after metadata previous.number said
  pub capture : now.capture ≡ option_map_or (λ s. s.capture) said previous.capture
  pub processor : now.processor ≡ option_map_or (λ s. s.processor) said previous.processor
