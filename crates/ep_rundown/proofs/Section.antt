-- Where the section stands.
use Rattle.std.proofs.Common.{◌≡◌, ℕ, List, [], ◌∷◌, ◌++◌, length, refl, ap, ◌∙◌}
use Rattle.std.specs.Prelude.{Bool, not, filter}
use Rattle.ep_defs.specs.Event.{is_same_event}
use Rattle.ep_defs.specs.declared.event.EventDef.{EventDef}
use Rattle.ep_defs.specs.Entry.{PointEntry, Entry, Event, Point}
use Rattle.ep_rundown.specs.Rundown.{used, describing_from, naming, describing_at_end}

-- A point at the end uses no definition.
pub used-pointed : (entries : List Entry) (point : PointEntry) → used (entries ++ Point point ∷ []) ≡ used entries
used-pointed [] point = refl
used-pointed (Event event ∷ entries) point =
    ap (λ (defs : List EventDef). event.def ∷ filter (λ def. not (is_same_event event.def def)) defs) (used-pointed entries point)
used-pointed (Point other ∷ entries) point = used-pointed entries point

-- The descriptions come before a point at the end.
pub at-end : (defs : List EventDef) (entries : List Entry) (point : PointEntry) → describing_at_end defs (entries ++ Point point ∷ []) ≡ entries ++ describing_from point.stamp 1 defs ++ Point (naming (length defs) point) ∷ []
at-end defs [] point = refl
at-end defs (Event event ∷ entries) point = ap (λ (es : List Entry). Event event ∷ es) (at-end defs entries point)
at-end defs (Point other ∷ []) point = refl
at-end defs (Point other ∷ entry ∷ entries) point = ap (λ (es : List Entry). Point other ∷ es) (at-end defs (entry ∷ entries) point)
