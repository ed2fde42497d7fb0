-- What a cursor has still to read of a line.
use Rattle.std.specs.Prelude.{◌≡◌, ◌≢◌, ◌==◌, ℕ, ◌+◌, ◌-◌, ◌<◌, ◌≤◌, Bool, true, false, List, [], ◌∷◌, ◌++◌, length, take, slice_index, Option, Some, Result, Ok, Err, IfOk, option_copied, unwrap_or}
use Rattle.std.specs.List.{All}
use Rattle.std.specs.Borrow.{Bor}
use Rattle.std.specs.declared.alloc.AllocError.{AllocError}
use Rattle.hex.specs.Hex.{decode_of}
use Rattle.ep_plan.specs.declared.cursor.Cursor.{Cursor}
use Rattle.ep_plan.specs.declared.line.LineFault.{LineFault}
use Rattle.ep_plan.specs.declared.line.LineFault.TheVariants.{Bad as BadLine}
use Rattle.ep_plan.specs.declared.line.LineKind.{LineKind}
use Rattle.ep_plan.specs.Lines.{Part, Form, Bad, bad_at, first_bad, number_of, number_parts, spelling_fault, unless}
use Rattle.ep_plan.specs.Words.{space, hex_in, parts_behind}

-- The words that are left.
unfoldable pub left : Cursor → List (List ℕ)
left cursor = parts_behind space (option_copied cursor.rest)

-- The column of the next word, or one past the line's end.
abbrev pub column_of : Cursor → ℕ
column_of cursor = cursor.past - length (unwrap_or (option_copied cursor.rest) [])

-- The first word that is bad among those left, which have to be these parts and at most this many rules.
unfoldable pub bad_left : Cursor → List Part → ℕ → Option Bad
bad_left cursor parts more_rules = first_bad cursor.past (column_of cursor) parts more_rules (left cursor)

-- The same where they have to be of this form.
abbrev pub bad_form : Cursor → Form → Option Bad
bad_form cursor form = bad_left cursor form.parts form.more_rules

-- The words that are left begin at this column, if there are any.
abbrev pub BeginsAt : ℕ → Cursor → Type 0
BeginsAt column cursor =
    (parts : List Part) (more_rules : ℕ) → first_bad cursor.past column parts more_rules (left cursor) ≡ bad_left cursor parts more_rules

-- The next word is there and not empty.
abbrev pub has_word : List (List ℕ) → Bool
has_word [] = false
has_word ([] ∷ words) = false
has_word ((byte ∷ word) ∷ words) = true

-- A word was taken.
pub record TookWord (old new : Cursor) (word : List ℕ) : Type 0 where
  pub line : new.line ≡ old.line
  pub past : new.past ≡ old.past
  pub some : word ≢ []
  pub words : left old ≡ word ∷ left new
  -- what is left begins after the word and a space
  pub begins : BeginsAt (column_of old + length word + 1) new

-- A word was taken that is good as this part.
pub record Took (part : Part) (old new : Cursor) (word : List ℕ) : Type 0 where
  pub line : new.line ≡ old.line
  pub words : left old ≡ word ∷ left new
  pub bad : (parts : List Part) (more_rules : ℕ) → bad_left old (part ∷ parts) more_rules ≡ bad_left new parts more_rules

-- Words were taken that are good as these parts.
pub record TookAll (these : List Part) (old new : Cursor) (taken : List (List ℕ)) : Type 0 where
  pub line : new.line ≡ old.line
  pub words : left old ≡ taken ++ left new
  pub bad : (parts : List Part) (more_rules : ℕ) → bad_left old (these ++ parts) more_rules ≡ bad_left new parts more_rules

-- The next word is bad as this part, or missing.
pub record IsBad (part : Part) (cursor : Cursor) (line column : ℕ) (kind : LineKind) : Type 0 where
  pub line_is : line ≡ cursor.line
  pub bad : (parts : List Part) (more_rules : ℕ) → bad_left cursor (part ∷ parts) more_rules ≡ Some (bad_at column kind)

-- One of the next words is bad as one of these parts, or missing.
pub record IsBadAmong (these : List Part) (cursor : Cursor) (line column : ℕ) (kind : LineKind) : Type 0 where
  pub line_is : line ≡ cursor.line
  pub bad : (parts : List Part) (more_rules : ℕ) → bad_left cursor (these ++ parts) more_rules ≡ Some (bad_at column kind)

-- Where a line is refused, this holds of the line's number, the column and the kind.
abbrev pub IfBad : {T : Type 0} → Result T LineFault → (ℕ → ℕ → LineKind → Type 0) → Type 0
IfBad result Holds = (line column : ℕ) (kind : LineKind) → result ≡ Err (BadLine line column kind) → Holds line column kind

-- The line of these words is bad there.
abbrev pub IsBadAt : Cursor → Option Bad → ℕ → ℕ → LineKind → Type 0
IsBadAt words bad line column kind = (line ≡ words.line) × (bad ≡ Some (bad_at column kind))

-- The next word was taken as this part, and spells this value.
abbrev pub TakesPart : {T : Type 0} → Part → (List ℕ → Option T) → Cursor → Cursor → T → Type 0
TakesPart part spell old new value = (word : List ℕ) × Took part old new word × (spell word ≡ Some value)

-- The next four words were taken as the numbers of a definition, and spell these: its id, version, level and keywords.
abbrev pub TakesNumbers : Cursor → Cursor → ℕ × ℕ × ℕ × ℕ → Type 0
TakesNumbers old new read =
    (i : List ℕ) × (v : List ℕ) × (l : List ℕ) × (k : List ℕ) × TookAll number_parts old new (i ∷ v ∷ l ∷ k ∷ [])
    × (number_of i ≡ Some read.0) × (number_of v ≡ Some read.1) × (number_of l ≡ Some read.2) × (hex_in k ≡ Some read.3)

-- What is read from a word is what it spells as this part, and a word that spells nothing is a fault of this kind.
pub record Reads {T : Type 0} (part : Part) (spell : List ℕ → Option T) (kind : LineKind) (Gives : Bor (List ℕ) → Result (Option T) AllocError → Type 0) : Type 0 where
  pub fault : (word : List ℕ) → spelling_fault part word ≡ unless (spell word) kind
  pub value : (word : Bor (List ℕ)) (result : Result (Option T) AllocError) → Gives word result → IfOk result (λ read. read ≡ spell word.now)

-- ---- a word that is read where it stands

-- A space stands after so many bytes of a text, or nothing.
abbrev pub EndsAt : List ℕ → ℕ → Type 0
EndsAt text count = count < length text → slice_index text count ≡ space

-- The first word of a text has so many bytes, one at least.
pub record IsWordOf (text : List ℕ) (count : ℕ) : Type 0 where
  pub some : 0 < count
  pub within : count ≤ length text
  pub whole : All (λ byte. (byte == space) ≡ false) (take count text)
  pub ends : EndsAt text count

-- The next word has so many bytes.
pub record IsNext (cursor : Cursor) (count : ℕ) : Type 0 where
  pub text : Bor (List ℕ)
  pub rest : cursor.rest ≡ Some text
  pub word : IsWordOf text.now count

-- All that is left of the line is pairs of digits, one at least, which spell these bytes.
pub record SpellsAll (cursor : Cursor) (bytes : List ℕ) : Type 0 where
  pub text : Bor (List ℕ)
  pub rest : cursor.rest ≡ Some text
  pub some : 0 < length text.now
  pub spelled : decode_of text.now ≡ Ok bytes
