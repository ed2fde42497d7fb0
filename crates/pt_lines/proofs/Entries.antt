-- The objects of trace events, put piece by piece.
use Rattle.std.proofs.Common.{◌≡◌, ℕ, true, false, replicate, List, [], ◌∷◌, ◌++◌, length, refl, ap, sym, ◌∙◌, append_assoc}
use Rattle.std.specs.Prelude.{codes}
use Rattle.std.specs.List.{concat}
use Rattle.std.proofs.lemmas.List.{append-nil}
use Rattle.std.proofs.lemmas.List.Folds.{concat-append}
use Rattle.ep_defs.specs.declared.event.FieldDef.{FieldDef}
use Rattle.ep_defs.specs.Entry.{EventEntry, PointEntry}
use Rattle.ep_defs.specs.Event.{is_same_text}
use Rattle.nt_fields.specs.Values.{payload_at}
use Rattle.pt_lines.specs.declared.form.Form.TheVariants as forms
use Rattle.pt_lines.specs.declared.origin.Origin.{Origin}
use Rattle.pt_lines.specs.Line.{Event}
use Rattle.pt_lines.specs.Forms.{IsLine}
use Rattle.pt_lines.specs.Texts.{quoted}
use Rattle.pt_lines.specs.Json.{behind_commas, integer, object}
use Rattle.pt_lines.specs.Chromium.{event_phase, lost_counter, microseconds, moment_text, nanoseconds, next_object, phase_of, phase_text, point_instant}
use Rattle.pt_lines.specs.Appends.{Appends}
use Rattle.pt_lines.specs.state.Opening.{IsNextPayload}
use Rattle.pt_lines.specs.state.Pieces.{end_of, ids_of, instant_text, named_pieces, placed_text, span_text}
use Rattle.pt_lines.proofs.Steps.{payload-of, then}

-- ---- an object, member by member

-- Members behind others, and an end.
abbrev rest_on : List (List ℕ) → List ℕ → List ℕ
rest_on [] end = end
rest_on (member ∷ members) end = codes "," ++ (member ++ rest_on members end)

rest-on : (members : List (List ℕ)) (end : List ℕ) → behind_commas members ++ end ≡ rest_on members end
rest-on [] end = refl
rest-on (member ∷ members) end =
    append_assoc (codes "," ++ member) (behind_commas members) end
    ∙ ap (λ (xs : List ℕ). (codes "," ++ member) ++ xs) (rest-on members end)

entry-on : (member : List ℕ) (members : List (List ℕ)) → next_object (member ∷ members) ≡ codes ",\n{" ++ (member ++ rest_on members (codes "}"))
entry-on member members =
    ap (λ (xs : List ℕ). codes ",\n{" ++ xs)
    (append_assoc member (behind_commas members) (codes "}") ∙ ap (λ (xs : List ℕ). member ++ xs) (rest-on members (codes "}")))

one-argument : (key value end : List ℕ) → (((key ++ value) ++ []) ++ end) ++ end ≡ key ++ (value ++ (end ++ end))
one-argument key value end = simp (append_assoc, append-nil)

two-arguments : (key value comma payload end : List ℕ) → (((key ++ value) ++ ((comma ++ payload) ++ [])) ++ end) ++ end ≡ key ++ (value ++ (comma ++ (payload ++ (end ++ end))))
two-arguments key value comma payload end = simp (append_assoc, append-nil)

-- ---- the objects

pub counter-is : (origin : Origin) (stamp thread count : ℕ)
    → lost_counter origin stamp thread count
    ≡ concat
    (codes ",\n{\"name\":\"lost\",\"ph\":\"C\",\"id\":"
    ∷ integer thread
    ∷ codes ","
    ∷ moment_text origin stamp
    ∷ codes ",\"tid\":"
    ∷ integer thread
    ∷ codes ",\"args\":{\"count\":"
    ∷ integer count
    ∷ codes "}}"
    ∷ [])
counter-is origin stamp thread count =
    let arguments = codes "\"args\":" ++ object ((codes "\"count\":" ++ integer count) ∷ []) in
    entry-on (codes "\"name\":\"lost\"")
    (codes "\"ph\":\"C\"" ∷ (codes "\"id\":" ++ integer thread) ∷ moment_text origin stamp ∷ (codes "\"tid\":" ++ integer thread) ∷ arguments ∷ [])
    ∙ ap
    (λ (xs : List ℕ).
    codes ",\n{\"name\":\"lost\",\"ph\":\"C\",\"id\":"
    ++ (integer thread ++ (codes "," ++ (moment_text origin stamp ++ (codes ",\"tid\":" ++ (integer thread ++ (codes ",\"args\":{" ++ xs)))))))
    (one-argument (codes "\"count\":") (integer count) (codes "}"))

pub instant-is : (origin : Origin) (point : PointEntry)
    → point_instant origin point
    ≡ concat
    (codes ",\n{\"name\":\"point\",\"ph\":\"i\",\"s\":\"p\","
    ∷ moment_text origin point.stamp
    ∷ codes ",\"args\":{\"threads\":"
    ∷ integer (length point.threads)
    ∷ codes "}}"
    ∷ [])
instant-is origin point =
    let count = integer (length point.threads) in
    let arguments = codes "\"args\":" ++ object ((codes "\"threads\":" ++ count) ∷ []) in
    entry-on (codes "\"name\":\"point\"") (codes "\"ph\":\"i\"" ∷ codes "\"s\":\"p\"" ∷ moment_text origin point.stamp ∷ arguments ∷ [])
    ∙ ap (λ (xs : List ℕ). codes ",\n{\"name\":\"point\",\"ph\":\"i\",\"s\":\"p\"," ++ (moment_text origin point.stamp ++ (codes ",\"args\":{" ++ xs)))
    (one-argument (codes "\"threads\":") count (codes "}"))

placed-is : (first name time pid process tid thread args number comma payload end : List ℕ)
    → first ++ ((((name ++ time) ++ pid) ++ process) ++ (tid ++ (thread ++ (args ++ (number ++ (comma ++ (payload ++ end)))))))
    ≡ ((first ++ name) ++ (time ++ (pid ++ (process ++ (tid ++ (thread ++ (args ++ number))))))) ++ (comma ++ (payload ++ end))
placed-is first name time pid process tid thread args number comma payload end = simp append_assoc

entry-is : (origin : Origin) (event : EventEntry) (payload : List ℕ)
    → event_phase origin event payload ≡ concat (named_pieces event) ++ (placed_text origin event ++ (codes "," ++ (payload ++ codes "}}")))
entry-is origin event payload =
    let phase = phase_of event.activity event.def.name in
    let name = quoted phase.1 in
    let category = quoted event.def.provider in
    let kind = phase_text event.activity phase.0 in
    let moment = moment_text origin event.stamp in
    let thread = integer event.thread in
    let number = integer event.number in
    let arguments = codes "\"args\":" ++ object ((codes "\"number\":" ++ number) ∷ payload ∷ []) in
    let behind =
    codes "," ∷ moment ∷ codes ",\"tid\":" ∷ thread ∷ codes ",\"args\":{\"number\":" ∷ number ∷ codes "," ∷ payload ∷ codes "}}" ∷ [] in
    entry-on (codes "\"name\":" ++ name) ((codes "\"cat\":" ++ category) ∷ kind ∷ moment ∷ (codes "\"tid\":" ++ thread) ∷ arguments ∷ [])
    ∙ ap
    (λ (xs : List ℕ).
    codes ",\n{\"name\":"
    ++ (name ++ (codes ",\"cat\":" ++ (category ++ (codes "," ++ (kind ++ (codes "," ++ (moment ++ (codes ",\"tid\":" ++ (thread ++ (codes ",\"args\":{" ++ xs)))))))))))
    (two-arguments (codes "\"number\":") number (codes ",") payload (codes "}"))
    ∙ concat-append (named_pieces event) behind
    ∙ ap (λ (xs : List ℕ). concat (named_pieces event) ++ xs)
    (placed-is (codes ",") (codes "\"ts\":") (microseconds (nanoseconds origin.frequency event.stamp)) (codes ",\"pid\":") (integer origin.process)
    (codes ",\"tid\":") thread (codes ",\"args\":{\"number\":") number (codes ",") payload (codes "}}"))

-- An event of no activity is an instant of its name.
pub plain-is : (event : EventEntry) → is_same_text event.activity (replicate 16 0) ≡ true → concat (named_pieces event) ≡ instant_text event.def
plain-is event none = rw none refl

-- An event of an activity is what stands for all of its definition, and its phase.
pub phased-is : (event : EventEntry) → is_same_text event.activity (replicate 16 0) ≡ false → concat (named_pieces event) ≡ span_text event.def ++ phase_text event.activity (end_of event.def.name).0
phased-is event some =
    let phase = phase_text event.activity (end_of event.def.name).0 in
    let start = codes ",\n{\"name\":" ∷ quoted (end_of event.def.name).1 ∷ codes ",\"cat\":" ∷ quoted event.def.provider ∷ codes "," ∷ [] in
    rw some (concat-append start (phase ∷ []) ∙ ap (λ (xs : List ℕ). concat start ++ xs) (append-nil phase))

ids-is : (pid process tid thread args number begun : List ℕ)
    → pid ++ (process ++ (tid ++ (thread ++ (args ++ (number ++ begun))))) ≡ (pid ++ (process ++ (tid ++ (thread ++ (args ++ number))))) ++ begun
ids-is pid process tid thread args number begun = simp append_assoc

-- Where an event was, placed one before another before what stands behind it.
pub ids-placed : {p process n number : ℕ} (thread : ℕ) {first second third fourth behind : List ℕ} → p ≡ process → n ≡ number
    → fourth ≡ codes ",\"pid\":" ++ (integer p ++ third) → third ≡ codes ",\"tid\":" ++ (integer thread ++ second)
    → second ≡ codes ",\"args\":{\"number\":" ++ (integer n ++ first) → first ≡ behind
    → fourth ≡ ids_of process thread number ++ behind
ids-placed {p} {process} {n} {number} thread {first} {second} {third} {fourth} {behind} same_process same_number here next last end =
    here
    ∙ ap (λ (m : ℕ). codes ",\"pid\":" ++ (integer m ++ third)) same_process
    ∙ ap (λ (xs : List ℕ). codes ",\"pid\":" ++ (integer process ++ xs))
    (next
    ∙ ap (λ (xs : List ℕ). codes ",\"tid\":" ++ (integer thread ++ xs))
    (last
    ∙ ap (λ (m : ℕ). codes ",\"args\":{\"number\":" ++ (integer m ++ first)) same_number
    ∙ ap (λ (xs : List ℕ). codes ",\"args\":{\"number\":" ++ (integer number ++ xs)) end))
    ∙ ids-is (codes ",\"pid\":") (integer process) (codes ",\"tid\":") (integer thread) (codes ",\"args\":{\"number\":") (integer number) behind

-- They behind its moment, in one piece or in three.
pub placed-on : (name time ids begun : List ℕ) → name ++ (time ++ (ids ++ begun)) ≡ (name ++ (time ++ ids)) ++ begun
placed-on name time ids begun = simp append_assoc

pub late-is : (old comma name time ids begun : List ℕ) → ((old ++ comma) ++ (name ++ time)) ++ (ids ++ begun) ≡ old ++ (((comma ++ name) ++ (time ++ ids)) ++ begun)
late-is old comma name time ids begun = simp append_assoc

pieces : (old named placed comma payload end : List ℕ) → (((old ++ named) ++ placed) ++ (comma ++ payload)) ++ end ≡ old ++ (named ++ (placed ++ (comma ++ (payload ++ end))))
pieces old named placed comma payload end = simp append_assoc

-- The object of an event was put.
pub entry-put : (origin : Origin) (processor thread : ℕ) (event : EventEntry) (fields : List FieldDef) (payload old first second third new : List ℕ)
    → fields ≡ event.def.fields → payload ≡ event.payload
    → first ≡ old ++ concat (named_pieces event)
    → second ≡ first ++ placed_text origin event
    → Appends (IsNextPayload fields payload (payload_at fields payload)) second third
    → new ≡ third ++ codes "}}"
    → Appends (IsLine forms.Chromium (Event origin processor thread event)) old new
entry-put origin processor thread event fields payload old first second third new same_fields same_payload named placed (next, (member, is_member, behind), put) end =
    let told = payload-of fields payload event.def.fields event.payload member same_fields same_payload is_member in
    let start = concat (named_pieces event) in
    let place = placed_text origin event in (
      event_phase origin event member,
      (member, told, refl),
      then (codes "}}") (then (codes "," ++ member) (then place named placed) (put ∙ ap (λ (xs : List ℕ). second ++ xs) behind)) end
          ∙ pieces old start place (codes ",") member (codes "}}")
          ∙ ap (λ (xs : List ℕ). old ++ xs) (sym (entry-is origin event member)),
    )
