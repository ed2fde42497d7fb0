-- What opens the fields of a payload, which is put with what stands before it.
use Rattle.std.specs.Prelude.{◌≡◌, ℕ, List, ◌++◌, codes, Result}
use Rattle.ep_defs.specs.declared.event.FieldDef.{FieldDef}
use Rattle.nt_fields.specs.Values.{FieldValue, Misfit}
use Rattle.pt_lines.specs.Json.{IsPayloadMember, IsStack}

-- What opens the fields of a payload behind another member.
abbrev pub opening : List ℕ
opening = codes ",\"fields\":{"

-- The text is the member of a payload, behind the comma after another member.
abbrev pub IsNextPayload : List FieldDef → List ℕ → Result (List FieldValue) Misfit → List ℕ → Type 0
IsNextPayload fields payload values text = (member : List ℕ) × IsPayloadMember fields payload values member × (text ≡ codes "," ++ member)

-- So it is, with this end behind it.
abbrev pub IsLastPayload : List FieldDef → List ℕ → Result (List FieldValue) Misfit → List ℕ → List ℕ → Type 0
IsLastPayload fields payload values end text = (next : List ℕ) × IsNextPayload fields payload values next × (text ≡ next ++ end)

-- The text is the array of a stack's addresses, and what opens the fields behind it.
abbrev pub IsStackOpened : ℕ → List ℕ → List ℕ → Type 0
IsStackOpened width stack text = (shown : List ℕ) × IsStack width stack shown × (text ≡ shown ++ opening)
