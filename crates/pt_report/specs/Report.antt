-- The report of a stream's items and of the entries that they tell: which lines it has, in which order, and what they
-- count (this project's profile).
use Rattle.std.specs.Prelude.{ℕ, Bool, true, false, List, [], ◌∷◌, map, Option, Some, None, count_by, codes}
use Rattle.std.specs.List.{concat, flat_map}
use Rattle.std.specs.declared.cmp.Ordering.{Ordering}
use Rattle.std.specs.Ordering.{nat_cmp}
use Rattle.std.specs.Cmp.Lexicographic.{slice_cmp}
use Rattle.hex.specs.Hex.{encode_lower}
use Rattle.pt_print.specs.Printed.{number_part, text_part, units_part}
use Rattle.ep_defs.specs.declared.event.EventDef.{EventDef}
use Rattle.ep_defs.specs.declared.session.TraceInfo.{TraceInfo}
use Rattle.ep_defs.specs.declared.item.ItemKind.{ItemKind}
use Rattle.ep_defs.specs.declared.item.ItemKind.TheVariants as item
use Rattle.ep_defs.specs.Entry.{EventEntry, Entry, Event, Point}
use Rattle.nt_check.specs.declared.threads.Numbers.{Numbers}
use Rattle.nt_check.specs.Numbers.{held, numbers_of}
use Rattle.pt_report.specs.declared.key.EventKey.{EventKey}
use Rattle.pt_report.specs.Keys.{key_of, key_order}
use Rattle.pt_report.specs.Order.{in_order, uses_of}

-- ---- what is counted

-- The event that an entry tells.
abbrev pub event_in : Entry → List EventEntry
event_in (Event event) = event ∷ []
event_in (Point point) = []

-- The definition that an item gives.
abbrev pub definition_in : ItemKind → List EventDef
definition_in (item.Meta id def) = def ∷ []
definition_in (item.Trace info) = []
definition_in (item.Stack id bytes) = []
definition_in (item.Event metadata number capture processor thread stack stamp activity related payload) = []
definition_in (item.Point stamp threads) = []

-- The threads that an item speaks of: an event's capture thread, and those of a point.
abbrev pub threads_in : ItemKind → List ℕ
threads_in (item.Event metadata number capture processor thread stack stamp activity related payload) = capture ∷ []
threads_in (item.Point stamp threads) = map (λ thread. thread.0) threads
threads_in (item.Trace info) = []
threads_in (item.Meta id def) = []
threads_in (item.Stack id bytes) = []

-- No bytes are no stack.
abbrev pub stack_in : List ℕ → List (List ℕ)
stack_in [] = []
stack_in (byte ∷ bytes) = (byte ∷ bytes) ∷ []

-- The definitions among the items.
abbrev pub definitions : List ItemKind → List EventDef
definitions kinds = flat_map definition_in kinds

-- The definition of each event that is told.
abbrev pub used_definitions : List Entry → List EventDef
used_definitions entries = map (λ event. event.def) (flat_map event_in entries)

-- The stack of each event that is told and has one.
abbrev pub used_stacks : List Entry → List (List ℕ)
used_stacks entries = flat_map (λ event. stack_in event.stack) (flat_map event_in entries)

-- The item is an event.
abbrev pub is_event : ItemKind → Bool
is_event (item.Event metadata number capture processor thread stack stamp activity related payload) = true
is_event (item.Trace info) = false
is_event (item.Meta id def) = false
is_event (item.Stack id bytes) = false
is_event (item.Point stamp threads) = false

-- The item is a definition.
abbrev pub is_metadata : ItemKind → Bool
is_metadata (item.Meta id def) = true
is_metadata (item.Trace info) = false
is_metadata (item.Stack id bytes) = false
is_metadata (item.Event metadata number capture processor thread stack stamp activity related payload) = false
is_metadata (item.Point stamp threads) = false

-- The item is a stack.
abbrev pub is_stack : ItemKind → Bool
is_stack (item.Stack id bytes) = true
is_stack (item.Trace info) = false
is_stack (item.Meta id def) = false
is_stack (item.Event metadata number capture processor thread stack stamp activity related payload) = false
is_stack (item.Point stamp threads) = false

-- The item is a point.
abbrev pub is_point : ItemKind → Bool
is_point (item.Point stamp threads) = true
is_point (item.Trace info) = false
is_point (item.Meta id def) = false
is_point (item.Stack id bytes) = false
is_point (item.Event metadata number capture processor thread stack stamp activity related payload) = false

-- ---- lines

-- The line of the Trace object, the first if there are several.
abbrev pub trace_line : TraceInfo → List ℕ
trace_line info = concat (codes "trace" ∷ number_part info.pointer_size ∷ number_part info.process_id ∷ number_part info.processors ∷ (10 ∷ []) ∷ [])

-- The first Trace item, if there is one.
abbrev pub trace_of : List ItemKind → Option TraceInfo
trace_of [] = None
trace_of (item.Trace info ∷ kinds) = Some info
trace_of (item.Meta id def ∷ kinds) = trace_of kinds
trace_of (item.Stack id bytes ∷ kinds) = trace_of kinds
trace_of (item.Event metadata number capture processor thread stack stamp activity related payload ∷ kinds) = trace_of kinds
trace_of (item.Point stamp threads ∷ kinds) = trace_of kinds

-- The line of the Trace object, if there is one.
abbrev pub trace_lines : Option TraceInfo → List ℕ
trace_lines (Some info) = trace_line info
trace_lines None = []

-- The line of totals.
abbrev pub items_line : ℕ → ℕ → ℕ → ℕ → List ℕ
items_line events metadata stacks points =
    concat (codes "items" ∷ number_part events ∷ number_part metadata ∷ number_part stacks ∷ number_part points ∷ (10 ∷ []) ∷ [])

-- The line of a provider.
abbrev pub provider_line : List ℕ → ℕ → List ℕ
provider_line name events = concat (codes "provider" ∷ number_part events ∷ units_part name ∷ (10 ∷ []) ∷ [])

-- The first half of the line of an event.
abbrev pub event_numbers : EventKey → ℕ → List ℕ
event_numbers event events = concat (codes "event" ∷ number_part events ∷ number_part event.id ∷ number_part event.version ∷ [])

-- The line of an event.
abbrev pub event_line : EventKey → ℕ → List ℕ
event_line event events = concat (event_numbers event events ∷ units_part event.provider ∷ units_part event.name ∷ (10 ∷ []) ∷ [])

-- The line of a thread.
abbrev pub thread_line : ℕ → Numbers → List ℕ
thread_line thread numbers =
    concat (codes "thread" ∷ number_part thread ∷ number_part numbers.events ∷ number_part numbers.last ∷ number_part numbers.gaps ∷ (10 ∷ []) ∷ [])

-- The line of a stack.
abbrev pub stack_line : List ℕ → ℕ → List ℕ
stack_line bytes events = concat (codes "stack" ∷ number_part events ∷ text_part (encode_lower bytes) ∷ (10 ∷ []) ∷ [])

-- A line for each key, in order, with its uses.
abbrev pub lines_of : {K : Type 0} → (K → K → Ordering) → (K → ℕ → List ℕ) → List K → List K → List ℕ
lines_of cmp line names uses = flat_map (λ key. line key (uses_of cmp uses key)) (in_order cmp names)

-- The numbers of a thread, where there are some.
abbrev pub numbers_line : ℕ → Option Numbers → List ℕ
numbers_line thread (Some numbers) = thread_line thread numbers
numbers_line thread None = []

-- The lines of all threads, ascending.
abbrev pub thread_lines : List ItemKind → List ℕ
thread_lines kinds = flat_map (λ thread. numbers_line thread (numbers_of thread kinds)) (in_order nat_cmp (flat_map threads_in kinds))

-- The whole report.
abbrev pub report_text : List ItemKind → List Entry → List ℕ
report_text kinds entries =
    concat
    (trace_lines (trace_of kinds)
    ∷ items_line (held (count_by is_event kinds)) (held (count_by is_metadata kinds)) (held (count_by is_stack kinds)) (held (count_by is_point kinds))
    ∷ lines_of (slice_cmp nat_cmp) provider_line (map (λ def. def.provider) (definitions kinds)) (map (λ def. def.provider) (used_definitions entries))
    ∷ lines_of key_order event_line (map key_of (definitions kinds)) (map key_of (used_definitions entries))
    ∷ thread_lines kinds
    ∷ lines_of (slice_cmp nat_cmp) stack_line (used_stacks entries) (used_stacks entries)
    ∷ [])
