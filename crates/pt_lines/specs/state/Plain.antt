-- What is written into a buffer of a payload whose fields are numbers alone.
use Rattle.std.specs.Prelude.{◌≡◌, ℕ, ◌≤◌, List, ◌++◌, take, drop, codes, Ok}
use Rattle.ep_defs.specs.declared.event.FieldDef.{FieldDef}
use Rattle.nt_fields.specs.Values.{FieldValue, payload_at}
use Rattle.pt_lines.specs.Texts.{AreFields}
use Rattle.pt_lines.specs.Json.{AreMembers}

-- A piece was written that ends at one place of a buffer and starts at another, and what stands before it stands.
abbrev pub Placed : List ℕ → ℕ → ℕ → List ℕ → List ℕ → Type 0
Placed piece start end old new = (start ≤ end) × (drop start new ≡ piece ++ drop end old) × (take start new ≡ take start old)

-- The fields of a payload were, as a line shows them.
abbrev pub PlacesFields : List FieldDef → List ℕ → ℕ → ℕ → List ℕ → List ℕ → Type 0
PlacesFields fields payload start end old new =
    (values : List FieldValue) × (piece : List ℕ) × (payload_at fields payload ≡ Ok values) × AreFields 0 fields values piece × Placed piece start end old new

-- They were, as members of an object.
abbrev pub PlacesMembers : List FieldDef → List ℕ → ℕ → ℕ → List ℕ → List ℕ → Type 0
PlacesMembers fields payload start end old new =
    (values : List FieldValue)
    × (piece : List ℕ)
    × (payload_at fields payload ≡ Ok values)
    × AreMembers fields values piece
    × (start ≤ end)
    × (drop start new ≡ piece ++ drop end old)

-- The text is the members of a payload, the end of their object, and this end.
abbrev pub ClosesMembers : List FieldDef → List ℕ → List ℕ → List ℕ → Type 0
ClosesMembers fields payload end text =
    (values : List FieldValue)
    × (inner : List ℕ)
    × (payload_at fields payload ≡ Ok values)
    × AreMembers fields values inner
    × (text ≡ inner ++ (codes "}" ++ end))
