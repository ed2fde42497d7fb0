-- Items in an order in which each name is defined before its use, and the entries that they tell (the NetTrace format
-- document of PerfView (version 4): metadata ids hold for the stream, stack ids up to the next point).
use Rattle.std.specs.Prelude.{◌≡◌, ℕ, zero, suc, List, [], ◌∷◌, ◌++◌, map, Option, Some, None, Result, Ok, Err, ◌==◌, if◌then◌else◌, IsOk}
use Rattle.ep_defs.specs.declared.event.EventDef.{EventDef}
use Rattle.ep_defs.specs.declared.item.Item.{Item}
use Rattle.ep_defs.specs.declared.item.ItemKind.{ItemKind}
use Rattle.ep_defs.specs.declared.item.ItemKind.TheVariants as item
use Rattle.ep_defs.specs.Entry.{Entry, Event, Point}
use Rattle.pt_num.specs.Steps.{◌>>=◌, or_fault}

-- Why an item can't stand where it does: an event names what was not defined, or a name is defined twice.
pub data Disorder : Type 0 where
  UnknownMetadata : (id : ℕ) → Disorder
  UnknownStack : (id : ℕ) → Disorder
  MetadataTwice : (id : ℕ) → Disorder
  StackTwice : (id : ℕ) → Disorder

-- What ids stand for: metadata ids for the whole stream, stack ids since the last point.
pub record Names : Type 0 where
  pub definitions : List (ℕ × EventDef)
  pub stacks : List (ℕ × List ℕ)

-- The names before the first item.
abbrev pub no_names : Names
no_names = record { definitions = []; stacks = [] }

-- What is named by the id, if something is.
abbrev pub lookup : {A : Type 0} → ℕ → List (ℕ × A) → Option A
lookup id [] = None
lookup id (named ∷ others) = if named.0 == id then Some named.1 else lookup id others

-- Stack id 0 is the empty stack (this project's profile).
abbrev pub stack_of : Names → ℕ → Option (List ℕ)
stack_of names zero = Some []
stack_of names (suc id) = lookup (suc id) names.stacks

-- The fault of a name that is there already.
abbrev pub unless_there : {A : Type 0} → Option A → Disorder → Result (List Entry) Disorder
unless_there (Some x) fault = Err fault
unless_there None fault = Ok []

-- The entry of an item, or why the item can't stand after these names.
abbrev pub tell : Names → ItemKind → Result (List Entry) Disorder
tell names (item.Trace info) = Ok []
tell names (item.Meta id def) = unless_there (lookup id names.definitions) (MetadataTwice id)
tell names (item.Stack id bytes) = unless_there (lookup id names.stacks) (StackTwice id)
tell names (item.Event metadata number capture processor thread stack stamp activity related payload) = do
  def ← or_fault (lookup metadata names.definitions) (UnknownMetadata metadata)
  bytes ← or_fault (stack_of names stack) (UnknownStack stack)
  Ok
      (Event
      (record {
        thread = capture;
        number = number;
        stamp = stamp;
        def = def;
        activity = activity;
        related = related;
        stack = bytes;
        payload = payload;
      })
      ∷ [])
tell names (item.Point stamp threads) = Ok (Point (record { stamp = stamp; threads = threads }) ∷ [])

-- The names that stand after an item.
abbrev pub names_after : Names → ItemKind → Names
names_after names (item.Trace info) = names
names_after names (item.Meta id def) = record names { definitions = (id, def) ∷ names.definitions }
names_after names (item.Stack id bytes) = record names { stacks = (id, bytes) ∷ names.stacks }
names_after names (item.Event metadata number capture processor thread stack stamp activity related payload) = names
names_after names (item.Point stamp threads) = record names { stacks = [] }

-- The entries of items that stand after these names, or the first fault.
abbrev pub told_after : Names → List ItemKind → Result (List Entry) Disorder
told_after names [] = Ok []
told_after names (kind ∷ kinds) = do
  first ← tell names kind
  rest ← told_after (names_after names kind) kinds
  Ok (first ++ rest)

-- The items without their offsets.
abbrev pub kinds_of : List Item → List ItemKind
kinds_of items = map (λ i. i.kind) items

-- The items tell these entries.
abbrev pub Tell : List Item → List Entry → Type 0
Tell items entries = told_after no_names (kinds_of items) ≡ Ok entries

-- Each name is defined before its use, and once.
abbrev pub AreOrdered : List Item → Type 0
AreOrdered items = IsOk (told_after no_names (kinds_of items))
