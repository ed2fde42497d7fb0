-- What a line of a schedule means, and what is wrong with it.
use Rattle.std.specs.Prelude.{◌≡◌, ℕ, zero, suc, ◌+◌, ◌-◌, ◌^◌, ◌≤◌, Bool, true, false, ◌&&◌, ◌||◌, ◌⊎◌, List, [], ◌∷◌, length, codes, find, Option, Some, None, option_map, option_and_then, nat_lt, nat_le, ◌==◌, if◌then◌else◌, IsTrue}
use Rattle.std.specs.List.{list_any}
use Rattle.std.specs.Option.{option_or}
use Rattle.ep_defs.specs.declared.event.EventDef.{EventDef}
use Rattle.ep_defs.specs.declared.limits.TheConstants.{EVENTS, RULES}
use Rattle.ep_defs.specs.Event.{is_valid_event, is_same_event, is_same_text}
use Rattle.ep_defs.specs.declared.session.Write.{Write}
use Rattle.ep_rundown.specs.Rundown.{rundown_def}
use Rattle.ep_model.specs.declared.step.Step.{Step}
use Rattle.ep_model.specs.declared.step.Step.TheVariants as step
use Rattle.ep_plan.specs.declared.line.Line.{Line}
use Rattle.ep_plan.specs.declared.line.Line.TheVariants as line
use Rattle.ep_plan.specs.declared.limits.TheConstants.{LINE_BYTES}
use Rattle.ep_plan.specs.declared.line.LineKind.{LineKind}
use Rattle.ep_plan.specs.declared.line.LineKind.TheVariants as kind
use Rattle.ep_plan.specs.declared.short.ShortStep.{ShortStep}
use Rattle.ep_plan.specs.declared.short.ShortStep.TheVariants as short
use Rattle.ep_plan.specs.declared.verb.Verb.{Verb}
use Rattle.ep_plan.specs.declared.verb.Verb.TheVariants as verb
use Rattle.ep_plan.specs.Words.{hash, words_of, number_in, hex_in, id_in, frames_in, payload_in, provider_in, event_name_in, rule_in, fields_in, all_in}

-- ---- the table of lines

-- What a word stands for in its line.
pub data Part : Type 0 where
  -- the number of an event, which has to be this one
  Index : (next : ℕ) → Part
  Number : Part
  -- 0 or 1
  Flag : Part
  Stamp : Part
  Provider : Part
  Name : Part
  Keywords : Part
  Fields : Part
  Rule : Part
  Id : Part
  Frames : Part
  Payload : Part

-- What follows the first word of a line.
pub record Form : Type 0 where
  pub name : List ℕ
  -- these parts, each in a word
  pub parts : List Part
  -- and after them at most this many rules
  pub more_rules : ℕ

-- A line with a fixed number of parts.
abbrev pub form : List ℕ → List Part → Form
form name parts = record { name = name; parts = parts; more_rules = 0 }

-- The rules that may follow the first one.
abbrev pub more_than_one : ℕ
more_than_one = RULES - 1

-- A session's number, its chunks, and its rules.
abbrev pub accept_form : Form
accept_form = record { name = codes "accept"; parts = Number ∷ Number ∷ Rule ∷ []; more_rules = more_than_one }

-- The same with a flag before the rules: whether the session has stacks.
abbrev pub accept3_form : Form
accept3_form = record { name = codes "accept3"; parts = Number ∷ Number ∷ Flag ∷ Rule ∷ []; more_rules = more_than_one }

-- The same with one flag more: whether the session has a rundown.
abbrev pub accept4_form : Form
accept4_form = record { name = codes "accept4"; parts = Number ∷ Number ∷ Flag ∷ Flag ∷ Rule ∷ []; more_rules = more_than_one }

-- The numbers of a definition: ID VERSION LEVEL KEYWORDS.
abbrev pub number_parts : List Part
number_parts = Number ∷ Number ∷ Number ∷ Keywords ∷ []

-- The definition of an event: PROVIDER ID VERSION LEVEL KEYWORDS NAME FIELDS.
abbrev pub definition_parts : List Part
definition_parts = Provider ∷ Number ∷ Number ∷ Number ∷ Keywords ∷ Name ∷ Fields ∷ []

-- What follows the word `event`, where the next number is this one.
abbrev pub event_parts : ℕ → List Part
event_parts next = Index next ∷ definition_parts

-- A write: E ACTIVITY RELATED FRAMES PAYLOAD.
abbrev pub write_parts : List Part
write_parts = Number ∷ Id ∷ Id ∷ Frames ∷ Payload ∷ []

-- The words after `begin`.
abbrev pub begin_parts : List Part
begin_parts = Number ∷ Stamp ∷ write_parts

-- The lines of steps, each by its verb.
abbrev pub form_of : Verb → Form
form_of verb.Accept = accept_form
form_of verb.Accept3 = accept3_form
form_of verb.Accept4 = accept4_form
form_of verb.Enter = form (codes "enter") (Number ∷ [])
form_of verb.Leave = form (codes "leave") (Number ∷ [])
form_of verb.Open = form (codes "open") (Number ∷ Number ∷ [])
form_of verb.Begin = form (codes "begin") begin_parts
form_of verb.Show = form (codes "show") (Number ∷ Number ∷ [])
form_of verb.End = form (codes "end") (Number ∷ [])
form_of verb.Steal = form (codes "steal") (Number ∷ Number ∷ [])
form_of verb.Give = form (codes "give") (Number ∷ [])
form_of verb.Point = form (codes "point") (Number ∷ Stamp ∷ [])
form_of verb.Close = form (codes "close") (Number ∷ Number ∷ [])
form_of verb.Finish = form (codes "finish") (Number ∷ Stamp ∷ [])

-- The first words that a line of a step can have.
abbrev pub verbs : List Verb
verbs =
    verb.Accept ∷ verb.Accept3 ∷ verb.Accept4 ∷ verb.Enter ∷ verb.Leave ∷ verb.Open ∷ verb.Begin ∷ verb.Show ∷ verb.End
    ∷ verb.Steal ∷ verb.Give ∷ verb.Point ∷ verb.Close ∷ verb.Finish ∷ []

-- The verb that has this name.
abbrev pub verb_in : List ℕ → Option Verb
verb_in word = find (λ verb. is_same_text word (form_of verb).name) verbs

-- ---- what is wrong with a word

-- How an error line says why.
abbrev pub kind_name : LineKind → List ℕ
kind_name kind.Word = codes "Word"
kind_name kind.Number = codes "Number"
kind_name kind.Hex = codes "Hex"
kind_name kind.Fields = codes "Fields"
kind_name kind.Long = codes "Long"
kind_name kind.LateEvent = codes "LateEvent"
kind_name kind.EventOrder = codes "EventOrder"
kind_name kind.Same = codes "Same"

-- Numbers are below 2 ^ 32, stamps below 2 ^ 64.
abbrev pub number_of : List ℕ → Option ℕ
number_of word = number_in (2 ^ 32 - 1) word

-- A number of 64 bits.
abbrev pub stamp_of : List ℕ → Option ℕ
stamp_of word = number_in (2 ^ 64 - 1) word

-- Flags are 0 or 1.
abbrev pub flag_of : List ℕ → Option Bool
flag_of word = option_map (λ number. number == 1) (number_in 1 word)

-- This kind, where a word spells nothing.
abbrev pub unless : {A : Type 0} → Option A → LineKind → Option LineKind
unless None kind = Some kind
unless (Some value) kind = None

-- Events are numbered in turn, from 1 on.
abbrev pub order_fault : ℕ → Option ℕ → Option LineKind
order_fault next None = Some kind.Number
order_fault next (Some index) = if (index == next) && nat_le index EVENTS then None else Some kind.EventOrder

-- What is wrong with a word that is not empty.
abbrev pub spelling_fault : Part → List ℕ → Option LineKind
spelling_fault (Index next) word = order_fault next (number_of word)
spelling_fault Number word = unless (number_of word) kind.Number
spelling_fault Flag word = unless (flag_of word) kind.Number
spelling_fault Stamp word = unless (stamp_of word) kind.Number
spelling_fault Provider word = unless (provider_in word) kind.Word
spelling_fault Name word = unless (event_name_in word) kind.Word
spelling_fault Keywords word = unless (hex_in word) kind.Hex
spelling_fault Fields word = unless (fields_in word) kind.Fields
spelling_fault Rule word = unless (rule_in word) kind.Fields
spelling_fault Id word = unless (id_in word) kind.Hex
spelling_fault Frames word = unless (frames_in word) kind.Hex
spelling_fault Payload word = unless (payload_in word) kind.Hex

-- What is wrong with the word for a part.
unfoldable pub fault_of : Part → List ℕ → Option LineKind
fault_of part [] = Some kind.Word
fault_of part (byte ∷ word) = spelling_fault part (byte ∷ word)

-- ---- what is wrong with a line

-- Where a line is refused, from column 1, and why.
pub record Bad : Type 0 where
  pub column : ℕ
  pub kind : LineKind

-- Bad at this column, for this reason.
abbrev pub bad_at : ℕ → LineKind → Bad
bad_at column kind = record { column = column; kind = kind }

-- The first word that is wrong, missing or left over, in a line that ends before this column. The words left begin at
-- the second column; they have to be these parts, and then at most this many rules.
unfoldable pub first_bad : ℕ → ℕ → List Part → ℕ → List (List ℕ) → Option Bad
first_bad past column [] more_rules [] = None
first_bad past column (part ∷ parts) more_rules [] = Some (bad_at past kind.Word)
first_bad past column [] zero (word ∷ words) = Some (bad_at column kind.Word)
first_bad past column [] (suc more_rules) (word ∷ words) =
    option_or (option_map (bad_at column) (fault_of Rule word)) (first_bad past (column + length word + 1) [] more_rules words)
first_bad past column (part ∷ parts) more_rules (word ∷ words) =
    option_or (option_map (bad_at column) (fault_of part word)) (first_bad past (column + length word + 1) parts more_rules words)

-- The words after the first one have this form.
abbrev pub form_bad : ℕ → ℕ → List (List ℕ) → Option Form → Option Bad
form_bad past column words None = Some (bad_at 1 kind.Word)
form_bad past column words (Some form) = first_bad past column form.parts form.more_rules words

-- A line that begins with this word has one of the forms.
unfoldable pub step_bad : ℕ → List ℕ → List (List ℕ) → Option Bad
step_bad past first words =
    form_bad past (length first + 2) words (option_map form_of (verb_in first))

-- ---- what words spell together

infixl 10 ◌>>=◌
-- The next word is read where this one spells something.
abbrev pub ◌>>=◌ : {A B : Type 0} → Option A → (A → Option B) → Option B
o >>= f = option_and_then f o

-- The write that the words of a `begin` line spell, after the stamp.
unfoldable pub write_of : List (List ℕ) → Option Write
write_of (event ∷ activity ∷ related ∷ frames ∷ payload ∷ []) = do
  event ← number_of event
  activity ← id_in activity
  related ← id_in related
  frames ← frames_in frames
  payload ← payload_in payload
  Some (record { event = event; activity = activity; related = related; frames = frames; payload = payload })
write_of words = None

-- The definition that the words of an `event` line spell, after the event's number.
unfoldable pub definition_of : List (List ℕ) → Option EventDef
definition_of (provider ∷ id ∷ version ∷ level ∷ keywords ∷ name ∷ fields ∷ []) = do
  provider ← provider_in provider
  id ← number_of id
  version ← number_of version
  level ← number_of level
  keywords ← hex_in keywords
  name ← event_name_in name
  fields ← fields_in fields
  Some (record { provider = provider; id = id; version = version; level = level; keywords = keywords; name = name; fields = fields })
definition_of words = None

-- A definition is there already: it is that of the rundown, which every program has, or one before it.
abbrev pub is_there : List EventDef → EventDef → Bool
is_there events def = is_same_event def rundown_def || list_any (λ other. is_same_event other def) events

-- A definition has to be valid, and none that is there already.
abbrev pub definition_fault : List EventDef → EventDef → Option LineKind
definition_fault events def =
    if is_valid_event def then (if is_there events def then Some kind.Same else None) else Some kind.Fields

-- A definition stands before the lines of steps, is the next one under this number, valid, and none that is there already.
abbrev pub IsNextDefinition : List EventDef → Bool → ℕ → EventDef → Type 0
IsNextDefinition events stepped index def =
    (stepped ≡ false) × (index ≡ length events + 1) × (index ≤ EVENTS)
    × IsTrue (is_valid_event def) × (is_there events def ≡ false)

-- What is wrong with the definition after the number of an event.
unfoldable pub definition_bad : List EventDef → List (List ℕ) → Option Bad
definition_bad events [] = None
definition_bad events (index ∷ words) =
    option_map (bad_at 1) (option_and_then (definition_fault events) (definition_of words))

-- An `event` line stands before the lines of steps. Its definition is judged once its words are good.
unfoldable pub event_bad : List EventDef → Bool → ℕ → List (List ℕ) → Option Bad
event_bad events stepped past words =
    if stepped then Some (bad_at 1 kind.LateEvent)
    else option_or (first_bad past 7 (event_parts (length events + 1)) 0 words) (definition_bad events words)

-- ---- lines

-- A line that has something in it is no comment, and has words.
abbrev pub is_blank : List ℕ → Bool
is_blank [] = true
is_blank (byte ∷ text) = byte == hash

-- Where the words of a line are bad, by their first one.
unfoldable pub words_bad : List EventDef → Bool → ℕ → List (List ℕ) → Option Bad
words_bad events stepped past [] = None
words_bad events stepped past (first ∷ words) =
    if is_same_text first (codes "event") then event_bad events stepped past words else step_bad past first words

-- What is wrong with a line after these definitions, where a step line has come before or not.
unfoldable pub bad_of : List EventDef → Bool → List ℕ → Option Bad
bad_of events stepped text =
    if nat_lt LINE_BYTES (length text) then Some (bad_at 1 kind.Long)
    else (if is_blank text then None else words_bad events stepped (length text + 1) (words_of text))

-- The words are this one and one that spells a number.
abbrev pub SpellNumber : List ℕ → List (List ℕ) → ℕ → Type 0
SpellNumber name words number = (a : List ℕ) × (words ≡ name ∷ a ∷ []) × (number_of a ≡ Some number)

-- The words are this one and two that spell numbers.
abbrev pub SpellNumbers : List ℕ → List (List ℕ) → ℕ → ℕ → Type 0
SpellNumbers name words first second =
    (a : List ℕ) × (b : List ℕ) × (words ≡ name ∷ a ∷ b ∷ []) × (number_of a ≡ Some first) × (number_of b ≡ Some second)

-- The words are this one, one that spells a number, and one that spells a stamp.
abbrev pub SpellStamp : List ℕ → List (List ℕ) → ℕ → ℕ → Type 0
SpellStamp name words number stamp =
    (a : List ℕ) × (b : List ℕ) × (words ≡ name ∷ a ∷ b ∷ []) × (number_of a ≡ Some number) × (stamp_of b ≡ Some stamp)

-- An `accept` line asks for stacks and for no rundown; an `accept3` line says whether it asks for stacks, and an `accept4`
-- line whether it asks for stacks and for a rundown.
abbrev pub AsksFor : List (List ℕ) → List ℕ → List ℕ → List (List ℕ) → Bool → Bool → Type 0
AsksFor words session chunks rules stackwalk rundown =
    ((words ≡ codes "accept" ∷ session ∷ chunks ∷ rules) × (stackwalk ≡ true) × (rundown ≡ false))
    ⊎ (((stacks : List ℕ) × (words ≡ codes "accept3" ∷ session ∷ chunks ∷ stacks ∷ rules)
    × (flag_of stacks ≡ Some stackwalk) × (rundown ≡ false))
    ⊎ ((stacks : List ℕ) × (ends : List ℕ) × (words ≡ codes "accept4" ∷ session ∷ chunks ∷ stacks ∷ ends ∷ rules)
    × (flag_of stacks ≡ Some stackwalk) × (flag_of ends ≡ Some rundown)))

-- The words of a line spell this step.
unfoldable pub Spells : List (List ℕ) → Step → Type 0
Spells words (step.Accept session config) =
    (a : List ℕ) × (b : List ℕ) × (rules : List (List ℕ)) × AsksFor words a b rules config.stackwalk config.rundown
    × (number_of a ≡ Some session) × (number_of b ≡ Some config.chunks) × (all_in rule_in rules ≡ Some config.rules)
Spells words (step.Enter thread) = SpellNumber (codes "enter") words thread
Spells words (step.Leave thread) = SpellNumber (codes "leave") words thread
Spells words (step.Open session thread) = SpellNumbers (codes "open") words session thread
Spells words (step.Begin thread stamp write) =
    (a : List ℕ) × (b : List ℕ) × (rest : List (List ℕ)) × (words ≡ codes "begin" ∷ a ∷ b ∷ rest)
    × (number_of a ≡ Some thread) × (stamp_of b ≡ Some stamp) × (write_of rest ≡ Some write)
Spells words (step.Show thread session) = SpellNumbers (codes "show") words thread session
Spells words (step.End thread) = SpellNumber (codes "end") words thread
Spells words (step.Steal session thread) = SpellNumbers (codes "steal") words session thread
Spells words (step.Give session) = SpellNumber (codes "give") words session
Spells words (step.Point session stamp) = SpellStamp (codes "point") words session stamp
Spells words (step.Close session thread) = SpellNumbers (codes "close") words session thread
Spells words (step.Finish session stamp) = SpellStamp (codes "finish") words session stamp

-- The line means this.
unfoldable pub Means : List ℕ → Line → Type 0
Means text line.Blank = is_blank text ≡ true
Means text (line.Event index def) =
    (number : List ℕ) × (words : List (List ℕ)) × (is_blank text ≡ false) × (words_of text ≡ codes "event" ∷ number ∷ words)
    × (number_of number ≡ Some index) × (definition_of words ≡ Some def)
Means text (line.Step made) = (is_blank text ≡ false) × Spells (words_of text) made

-- The line is good and means this.
pub record IsLine (events : List EventDef) (stepped : Bool) (text : List ℕ) (line : Line) : Type 0 where
  pub good : bad_of events stepped text ≡ None
  pub meaning : Means text line

-- The step of a line that is read by its numbers alone.
abbrev pub step_of : ShortStep → Step
step_of (short.Show thread session) = step.Show thread session
step_of (short.End thread) = step.End thread
