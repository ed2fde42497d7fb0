-- The object of an event, put piece by piece.
use Rattle.std.proofs.Common.{◌≡◌, ℕ, List, [], ◌∷◌, ◌++◌, drop, refl, sym, ap, ◌∙◌, subst, append_assoc}
use Rattle.std.specs.Prelude.{codes}
use Rattle.std.proofs.lemmas.List.{append-nil}
use Rattle.std.proofs.lemmas.Grind.{flat_map-append}
use Rattle.ep_defs.specs.declared.event.FieldDef.{FieldDef}
use Rattle.ep_defs.specs.Entry.{EventEntry}
use Rattle.nt_fields.specs.Values.{payload_at}
use Rattle.pt_lines.specs.declared.form.Form.TheVariants as forms
use Rattle.pt_lines.specs.declared.origin.Origin.{Origin}
use Rattle.pt_lines.specs.Line.{Event}
use Rattle.pt_lines.specs.Forms.{IsLine}
use Rattle.pt_lines.specs.Json.{IsStack, activity_members, behind_commas, commas, definition_members, event_object, line_of, place_members, width_of}
use Rattle.pt_lines.specs.Appends.{Appends}
use Rattle.pt_lines.specs.state.Opening.{IsNextPayload}
use Rattle.pt_lines.specs.state.Pieces.{described_text}
use Rattle.pt_lines.proofs.Steps.{payload-of, then}

-- Members and more of them.
commas-more : (member : List ℕ) (members more : List (List ℕ)) → commas ((member ∷ members) ++ more) ≡ commas (member ∷ members) ++ behind_commas more
commas-more member members more =
    ap (λ (xs : List ℕ). member ++ xs) (flat_map-append (λ (text : List ℕ). codes "," ++ text) members more)
    ∙ sym (append_assoc member (behind_commas members) (behind_commas more))

ends : (brace members key stack comma payload close feed : List ℕ)
    → ((brace ++ (members ++ (key ++ (stack ++ (comma ++ (payload ++ [])))))) ++ close) ++ feed ≡ (brace ++ members) ++ (key ++ (stack ++ (comma ++ (payload ++ (close ++ feed)))))
ends brace members key stack comma payload close feed = simp (append_assoc, append-nil)

-- Two members more.
two-more : (member : List ℕ) (members : List (List ℕ)) (stack payload : List ℕ)
    → line_of ((member ∷ members) ++ (codes "\"stack\":" ++ stack) ∷ payload ∷ []) ≡ (codes "{" ++ commas (member ∷ members)) ++ (codes ",\"stack\":" ++ (stack ++ (codes "," ++ (payload ++ codes "}\n"))))
two-more member members stack payload =
    ap (λ (xs : List ℕ). ((codes "{" ++ xs) ++ codes "}") ++ 10 ∷ []) (commas-more member members ((codes "\"stack\":" ++ stack) ∷ payload ∷ []))
    ∙ ends (codes "{") (commas (member ∷ members)) (codes ",\"stack\":") stack (codes ",") payload (codes "}") (10 ∷ [])

-- The members before them, put in parts.
members-are : (processor thread : ℕ) (event : EventEntry)
    → commas (place_members processor thread event ++ definition_members event.def ++ activity_members event)
    ≡ (commas (place_members processor thread event) ++ behind_commas (definition_members event.def)) ++ behind_commas (activity_members event)
members-are processor thread event =
    let kind = codes "\"kind\":\"event\"" in
    let place = place_members processor thread event in
    commas-more kind (drop 1 (place ++ definition_members event.def)) (activity_members event)
    ∙ ap (λ (xs : List ℕ). xs ++ behind_commas (activity_members event)) (commas-more kind (drop 1 place) (definition_members event.def))

pieces : (old brace place defs acts key stack comma payload end : List ℕ)
    → ((((old ++ (brace ++ place)) ++ ((defs ++ acts) ++ key)) ++ stack) ++ (comma ++ payload)) ++ end ≡ old ++ ((brace ++ ((place ++ defs) ++ acts)) ++ (key ++ (stack ++ (comma ++ (payload ++ end)))))
pieces old brace place defs acts key stack comma payload end = simp append_assoc

pub event-object-put : (origin : Origin) (processor thread width : ℕ) (event : EventEntry) (fields : List FieldDef) (bytes payload old first second third fourth new : List ℕ)
    → fields ≡ event.def.fields → bytes ≡ event.stack → payload ≡ event.payload → width ≡ width_of origin.address
    → first ≡ old ++ (codes "{" ++ commas (place_members processor thread event))
    → second ≡ first ++ described_text event
    → Appends (IsStack width bytes) second third
    → Appends (IsNextPayload fields payload (payload_at fields payload)) third fourth
    → new ≡ fourth ++ codes "}\n"
    → Appends (IsLine forms.Json (Event origin processor thread event)) old new
event-object-put origin processor thread width event fields bytes payload old first second third fourth new same_fields same_stack same_payload same_width place told (stack, is_stack, stacked) (next, (member, is_member, behind), put) end =
    let told_stack : IsStack (width_of origin.address) event.stack stack =
    subst (λ (w : ℕ). IsStack w event.stack stack) same_width (subst (λ (b : List ℕ). IsStack width b stack) same_stack is_stack) in
    let told_member = payload-of fields payload event.def.fields event.payload member same_fields same_payload is_member in
    let places = commas (place_members processor thread event) in
    let defs = behind_commas (definition_members event.def) in
    let acts = behind_commas (activity_members event) in
    let rest = codes ",\"stack\":" ++ (stack ++ (codes "," ++ (member ++ codes "}\n"))) in
    let all = then (codes "}\n") (then (codes "," ++ member) (then stack (then (described_text event) place told) stacked) (put ∙ ap (λ (xs : List ℕ). third ++ xs) behind)) end in
    let line : event_object processor thread event stack member ≡ (codes "{" ++ ((places ++ defs) ++ acts)) ++ rest =
    two-more (codes "\"kind\":\"event\"") (drop 1 (place_members processor thread event ++ definition_members event.def ++ activity_members event)) stack member
    ∙ ap (λ (xs : List ℕ). (codes "{" ++ xs) ++ rest) (members-are processor thread event) in (
      event_object processor thread event stack member,
      (stack, member, told_stack, told_member, refl),
      all
          ∙ pieces old (codes "{") places defs acts (codes ",\"stack\":") stack (codes ",") member (codes "}\n")
          ∙ ap (λ (xs : List ℕ). old ++ xs) (sym line),
    )
