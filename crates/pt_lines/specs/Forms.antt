-- The text of lines in a form (this project's profile).
use Rattle.std.specs.Prelude.{◌≡◌, ℕ, List, [], ◌∷◌, ◌++◌, length}
use Rattle.nt_fields.specs.Values.{payload_at}
use Rattle.pt_lines.specs.declared.form.Form.{Form}
use Rattle.pt_lines.specs.declared.form.Form.TheVariants as forms
use Rattle.pt_lines.specs.Line.{Line, Lost, Event, Point}
use Rattle.pt_lines.specs.Texts.{IsPayload, event_start, lost_line, point_text}
use Rattle.pt_lines.specs.Json.{IsPayloadMember, IsStack, event_object, lost_object, point_object, width_of}
use Rattle.pt_lines.specs.Chromium.{event_phase, lost_counter, point_instant}
use Rattle.pt_lines.specs.Page.{next_item}

-- The text is the object of JSON that tells the line.
abbrev pub IsObject : Line → List ℕ → Type 0
IsObject (Lost origin stamp thread count) text = text ≡ lost_object thread count
IsObject (Event origin processor thread event) text =
    (stack payload : List ℕ)
    × IsStack (width_of origin.address) event.stack stack
    × IsPayloadMember event.def.fields event.payload (payload_at event.def.fields event.payload) payload
    × (text ≡ event_object processor thread event stack payload)
IsObject (Point origin point) text = text ≡ point_object point

-- The text is the line, in this form. In a page it is the object of JSON, behind the comma that parts it from those before.
abbrev pub IsLine : Form → Line → List ℕ → Type 0
IsLine forms.Lines (Lost origin stamp thread count) text = text ≡ lost_line thread count
IsLine forms.Lines (Event origin processor thread event) text =
    (fields : List ℕ)
    × IsPayload event.def.fields event.payload (payload_at event.def.fields event.payload) fields
    × (text ≡ event_start event ++ fields ++ 10 ∷ [])
IsLine forms.Lines (Point origin point) text = text ≡ point_text point.stamp (length point.threads)
IsLine forms.Json line text = IsObject line text
IsLine forms.Chromium (Lost origin stamp thread count) text = text ≡ lost_counter origin stamp thread count
IsLine forms.Chromium (Event origin processor thread event) text =
    (payload : List ℕ)
    × IsPayloadMember event.def.fields event.payload (payload_at event.def.fields event.payload) payload
    × (text ≡ event_phase origin event payload)
IsLine forms.Chromium (Point origin point) text = text ≡ point_instant origin point
IsLine forms.Page line text = (object : List ℕ) × IsObject line object × (text ≡ next_item object)

-- The text is these lines, one after another.
abbrev pub AreLines : Form → List Line → List ℕ → Type 0
AreLines form [] text = text ≡ []
AreLines form (line ∷ lines) text = (first rest : List ℕ) × IsLine form line first × AreLines form lines rest × (text ≡ first ++ rest)
