-- The words of the command (this project's profile).
use Rattle.std.specs.Prelude.{ℕ, ◌&&◌, if◌then◌else◌, List, [], ◌∷◌, codes, Option, Some, None}
use Rattle.ep_defs.specs.Event.{is_same_text}
use Rattle.pt_lines.specs.declared.form.Form.{Form}
use Rattle.pt_lines.specs.declared.form.Form.TheVariants as forms

-- The words are `events`, or `events` and `--json`, or `convert` and `chromium`, or `page`.
abbrev pub form_in : List (List ℕ) → Option Form
form_in (name ∷ []) =
    if is_same_text name (codes "events") then Some forms.Lines
    else if is_same_text name (codes "page") then Some forms.Page
    else None
form_in (name ∷ second ∷ []) =
    if is_same_text name (codes "events") && is_same_text second (codes "--json") then Some forms.Json
    else if is_same_text name (codes "convert") && is_same_text second (codes "chromium") then Some forms.Chromium
    else None
form_in words = None
