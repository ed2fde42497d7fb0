-- What is put of a trace event behind what it is.
use Rattle.std.specs.Prelude.{◌≡◌, ℕ, List, ◌++◌, codes}
use Rattle.ep_defs.specs.Entry.{EventEntry}
use Rattle.nt_fields.specs.Values.{payload_at}
use Rattle.pt_lines.specs.declared.origin.Origin.{Origin}
use Rattle.pt_lines.specs.state.Opening.{IsLastPayload}
use Rattle.pt_lines.specs.state.Pieces.{placed_text}

-- When and where it was, its fields, and its end.
abbrev pub IsPlacedEnd : Origin → EventEntry → List ℕ → Type 0
IsPlacedEnd origin event text =
    (last : List ℕ)
    × IsLastPayload event.def.fields event.payload (payload_at event.def.fields event.payload) (codes "}}") last
    × (text ≡ placed_text origin event ++ last)
