-- A stream's items without those of a rundown (this project's profile).
use Rattle.std.specs.Prelude.{ℕ, Bool, true, false, not, List, [], ◌∷◌, filter, ◌==◌}
use Rattle.ep_defs.specs.declared.item.Item.{Item}
use Rattle.ep_defs.specs.declared.item.ItemKind.{ItemKind}
use Rattle.ep_defs.specs.declared.item.ItemKind.TheVariants as item
use Rattle.ep_defs.specs.Event.{is_same_event}
use Rattle.ep_rundown.specs.Rundown.{rundown_def}

-- An event of thread 0, or what defines such events.
abbrev pub is_of_rundown : ItemKind → Bool
is_of_rundown (item.Event metadata number capture processor thread stack stamp activity related payload) = capture == 0
is_of_rundown (item.Meta id def) = is_same_event def rundown_def
is_of_rundown _ = false

-- A point does not name thread 0.
abbrev pub without_thread_0 : ItemKind → ItemKind
without_thread_0 (item.Trace info) = item.Trace info
without_thread_0 (item.Meta id def) = item.Meta id def
without_thread_0 (item.Stack id bytes) = item.Stack id bytes
without_thread_0 (item.Event metadata number capture processor thread stack stamp activity related payload) =
    item.Event metadata number capture processor thread stack stamp activity related payload
without_thread_0 (item.Point stamp threads) = item.Point stamp (filter (λ (named : ℕ × ℕ). not (named.0 == 0)) threads)

-- So it is with the last item.
abbrev pub bare_at_end : List Item → List Item
bare_at_end [] = []
bare_at_end (last ∷ []) = record last { kind = without_thread_0 last.kind } ∷ []
bare_at_end (item ∷ items) = item ∷ bare_at_end items

-- For a session with a rundown the items without the events of thread 0, without what defines them, and without thread 0
-- in the last point; for one without a rundown all items as they are.
abbrev pub bare : Bool → List Item → List Item
bare false items = items
bare true items = bare_at_end (filter (λ (i : Item). not (is_of_rundown i.kind)) items)
