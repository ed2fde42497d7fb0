-- The objects that are open between two fields, and what putting a field does to them.
use Rattle.std.specs.Prelude.{◌≡◌, ℕ, ◌<◌, Bool, true, false, List, [], ◌∷◌, ◌++◌, length, map, reverse, codes, Option, Some, None, Result, Ok, Err}
use Rattle.ep_defs.specs.declared.event.FieldDef.{FieldDef}
use Rattle.nt_fields.specs.Values.{FieldValue, Misfit}
use Rattle.pt_lines.specs.declared.json.nest.Nest.{Nest}
use Rattle.pt_lines.specs.Json.{AreMembers, IsShownBy, behind_commas, commas, inside, outside, placed}
use Rattle.pt_lines.specs.Appends.{Appends}
use Rattle.pt_lines.specs.state.Fields.{HasNone, HasValue}

-- What stands before a member or a value, by whether it is the first.
abbrev pub comma : Bool → List ℕ
comma true = []
comma false = codes ","

-- Members or values, by whether the first of them is the first of all.
abbrev pub after : Bool → List (List ℕ) → List ℕ
after true texts = commas texts
after false texts = behind_commas texts

-- What is still to come where objects of these depths are open, the innermost first: the members that are left, and the ends
-- of the objects.
abbrev pub coming : List ℕ → Bool → List (ℕ × List ℕ) → List ℕ
coming [] first members = after first (map (λ member. member.1) members)
coming (depth ∷ depths) first members = after first (inside depth members) ++ (codes "}" ++ coming depths false (outside depth members))

abbrev pub still : Nest → List (ℕ × List ℕ) → List ℕ
still nest members = coming (reverse nest.depths.items) nest.is_first members

-- A field of this depth stands in the innermost object.
abbrev pub Stands : ℕ → Nest → Type 0
Stands depth nest =
    (text : List ℕ) (behind : List (ℕ × List ℕ))
    → still nest ((depth, text) ∷ behind) ≡ (comma nest.is_first ++ text) ++ coming (reverse nest.depths.items) false behind

-- The innermost object was left, since a field of this depth doesn't stand in it, or it does.
abbrev pub Leaves : ℕ → Nest → Nest → Bool → Type 0
Leaves depth old new true =
    (length new.depths.items < length old.depths.items)
    × ((text : List ℕ) (behind : List (ℕ × List ℕ)) → codes "}" ++ still new ((depth, text) ∷ behind) ≡ still old ((depth, text) ∷ behind))
Leaves depth old new false = (new ≡ old) × Stands depth old

-- The ends were put of the objects in which a field of this depth doesn't stand.
abbrev pub Closes : ℕ → Nest → Nest → List ℕ → List ℕ → Type 0
Closes depth old new before now =
    (piece : List ℕ)
    × (now ≡ before ++ piece)
    × ((text : List ℕ) (behind : List (ℕ × List ℕ)) → piece ++ still new ((depth, text) ∷ behind) ≡ still old ((depth, text) ∷ behind))
    × Stands depth new

-- A field was put of which this is shown.
abbrev pub Adds : FieldDef → Option (List ℕ) → Nest → Nest → List ℕ → List ℕ → Type 0
Adds field shown old new before now =
    (piece : List ℕ) × (now ≡ before ++ piece) × ((behind : List (ℕ × List ℕ)) → piece ++ still new behind ≡ still old (placed field shown behind))

-- The answer is whether there are values. Where there are, their members were put; where there are none, what stood before
-- stands.
abbrev pub PutsMembers : List FieldDef → Result (List FieldValue) Misfit → Bool → List ℕ → List ℕ → Type 0
PutsMembers fields (Ok values) true old new = Appends (AreMembers fields values) old new
PutsMembers fields (Err misfit) false old new = (rest : List ℕ) × (new ≡ old ++ rest)
PutsMembers fields (Ok values) false old new = ⊥
PutsMembers fields (Err misfit) true old new = ⊥

-- The answer is how many bytes the value of a field has at the front of the bytes. Where there is one, the field was put with it;
-- where there is none, nothing was.
abbrev pub PutsMember : FieldDef → List ℕ → Option ℕ → Nest → Nest → List ℕ → List ℕ → Type 0
PutsMember field bytes (Some used) old new before now =
    (value : FieldValue) × HasValue field bytes value used × (shown : Option (List ℕ)) × IsShownBy value shown × Adds field shown old new before now
PutsMember field bytes None old new before now = HasNone field bytes × (new ≡ old) × (now ≡ before)
