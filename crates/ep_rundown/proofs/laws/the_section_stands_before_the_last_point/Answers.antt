use Rattle.std.proofs.Common.{List, ◌∷◌, [], ◌++◌, ap, ◌∙◌, true, false, refl, length, append_assoc}
use Rattle.ep_defs.specs.declared.event.EventDef.{EventDef}
use Rattle.ep_defs.specs.Entry.{Point}
use Rattle.ep_rundown.specs.Rundown.{used, section, naming, describing_at_end}
use Rattle.ep_rundown.proofs.Section.{used-pointed, at-end}
use Rattle.ep_rundown.proofs.laws.the_section_stands_before_the_last_point.Goals as goal

pub returns-clause-asked : goal.returns-clause-asked
returns-clause-asked c entries point =
    ap (λ (defs : List EventDef). describing_at_end defs (entries ++ Point point ∷ [])) (used-pointed entries point) ∙ at-end (used entries) entries point

pub returns-clause-ending : goal.returns-clause-ending
returns-clause-ending c true entries point =
    ap (λ (defs : List EventDef). describing_at_end defs (entries ++ Point point ∷ [])) (used-pointed entries point) ∙ at-end (used entries) entries point
    ∙ append_assoc entries (section point.stamp entries) (Point (naming (length (used entries)) point) ∷ [])
returns-clause-ending c false entries point = refl
