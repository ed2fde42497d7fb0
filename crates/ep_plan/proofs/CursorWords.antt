-- Words that were taken from a line, and what they say of its first bad word.
use Rattle.std.proofs.Common.{◌≡◌, ◌≢◌, ◌==◌, ℕ, ◌+◌, ◌-◌, ◌<◌, ◌≤◌, ◌⊎◌, inl, inr, Bool, true, false, not, ◌&&◌, is_some, nat_le, List, [], ◌∷◌, ◌++◌, length, Option, Some, None, Result, Err, IfSome, option_copied, unwrap_or, Bor, refl, sym, ap, ◌∙◌, arith}
use Rattle.std.proofs.lemmas.Bool.{eqb-true}
use Rattle.std.proofs.lemmas.Bool.Decides.{nat_tests}
use Rattle.std.proofs.lemmas.List.Splits.{length-slice_split}
use Rattle.ep_defs.specs.declared.limits.TheConstants.{EVENTS}
use Rattle.ep_plan.specs.Words.{space, parts_at, parts_behind}
use Rattle.ep_plan.specs.declared.line.LineFault.{LineFault}
use Rattle.ep_plan.specs.declared.line.LineFault.TheVariants.{Bad as BadLine}
use Rattle.std.specs.Bool.{OnTrue, OnFalse}
use Rattle.ep_plan.specs.declared.cursor.Cursor.{Cursor}
use Rattle.ep_plan.specs.declared.line.LineKind.{LineKind}
use Rattle.ep_plan.specs.declared.line.LineKind.TheVariants as kind
use Rattle.ep_plan.specs.Lines.{Part, bad_at, first_bad, fault_of, spelling_fault, order_fault}
use Rattle.ep_plan.specs.Cursor.{left, column_of, bad_left, has_word, TookWord, Took, TookAll, IsBad, IsBadAmong}

-- A word that spells something is no empty one.
spelled : (part : Part) (word : List ℕ) (fault : Option LineKind) → word ≢ [] → spelling_fault part word ≡ fault → fault_of part word ≡ fault
unfolding fault_of
spelled part [] fault some h = absurd (some refl)
spelled part (byte ∷ word) fault some h = h

-- A good word is passed over.
good-word : (past column : ℕ) (part : Part) (parts : List Part) (more : ℕ) (word : List ℕ) (words : List (List ℕ)) → fault_of part word ≡ None → first_bad past column (part ∷ parts) more (word ∷ words) ≡ first_bad past (column + length word + 1) parts more words
unfolding first_bad
good-word past column part parts more word words h = rw h refl

-- A bad word is the first one.
bad-word : (past column : ℕ) (part : Part) (parts : List Part) (more : ℕ) (word : List ℕ) (words : List (List ℕ)) (kind : LineKind) → fault_of part word ≡ Some kind → first_bad past column (part ∷ parts) more (word ∷ words) ≡ Some (bad_at column kind)
unfolding first_bad
bad-word past column part parts more word words kind h = rw h refl

-- A word that spells something as a part was taken as it.
pub took-part : (part : Part) (old new : Cursor) (word : List ℕ) → TookWord old new word → spelling_fault part word ≡ None → Took part old new word
unfolding bad_left
took-part part old new word took h =
    let good = spelled part word None took.some h in
    record {
      line = took.line;
      words = took.words;
      bad = λ parts more. ap (first_bad old.past (column_of old) (part ∷ parts) more) took.words ∙ good-word old.past (column_of old) part parts more word (left new) good ∙ ap (λ p. first_bad p (column_of old + length word + 1) parts more (left new)) (sym took.past) ∙ took.begins parts more;
    }

-- A word that spells nothing as a part is bad.
pub bad-part : (part : Part) (old new : Cursor) (word : List ℕ) (kind : LineKind) → TookWord old new word → spelling_fault part word ≡ Some kind → (parts : List Part) (more : ℕ) → bad_left old (part ∷ parts) more ≡ Some (bad_at (column_of old) kind)
unfolding bad_left
bad-part part old new word kind took h parts more =
    ap (first_bad old.past (column_of old) (part ∷ parts) more) took.words ∙ bad-word old.past (column_of old) part parts more word (left new) kind (spelled part word (Some kind) took.some h)

-- A fault that tells what is wrong with a word.
pub is-bad : {T : Type 0} (part : Part) (old new : Cursor) (word : List ℕ) (fault : LineFault) (first : ℕ) (found : LineKind) → TookWord old new word → spelling_fault part word ≡ Some found → fault ≡ BadLine new.line first found → first ≡ column_of old → (at column : ℕ) (why : LineKind) → ◌≡◌ {A = Result T LineFault} (Err fault) (Err (BadLine at column why)) → IsBad part old at column why
is-bad part old new word fault first found took h told begins at column why e =
    let same : ◌≡◌ {A = LineFault} (BadLine new.line first found) (BadLine at column why) = cc in
    let line : at ≡ new.line = cc in
    let place : column_of old ≡ column = cc in
    let answer : bad_at (column_of old) found ≡ bad_at column why = cc in
    record { line_is = line ∙ took.line; bad = λ parts more. bad-part part old new word found took h parts more ∙ ap Some answer }

-- Words that were taken one after another.
pub took-one : (part : Part) (old new : Cursor) (word : List ℕ) → Took part old new word → TookAll (part ∷ []) old new (word ∷ [])
took-one part old new word took = record { line = took.line; words = took.words; bad = took.bad }

pub took-first : (part : Part) (these : List Part) (old mid new : Cursor) (word : List ℕ) (taken : List (List ℕ)) → Took part old mid word → TookAll these mid new taken → TookAll (part ∷ these) old new (word ∷ taken)
took-first part these old mid new word taken first others = record {
  line = others.line ∙ first.line;
  words = first.words ∙ ap (λ words. word ∷ words) others.words;
  bad = λ parts more. first.bad (these ++ parts) more ∙ others.bad parts more;
}

-- The first of them is bad, or one behind it.
pub bad-first : (part : Part) (these : List Part) (old : Cursor) (line column : ℕ) (why : LineKind) → IsBad part old line column why → IsBadAmong (part ∷ these) old line column why
bad-first part these old line column why bad = record { line_is = bad.line_is; bad = λ parts more. bad.bad (these ++ parts) more }

pub bad-later : (part : Part) (these : List Part) (old new : Cursor) (word : List ℕ) (line column : ℕ) (why : LineKind) → Took part old new word → IsBadAmong these new line column why → IsBadAmong (part ∷ these) old line column why
bad-later part these old new word line column why took bad = record {
  line_is = bad.line_is ∙ took.line;
  bad = λ parts more. took.bad (these ++ parts) more ∙ bad.bad parts more;
}

-- Nothing is left of a line.
over : (cursor : Cursor) → cursor.rest ≡ None → left cursor ≡ []
unfolding left
over cursor h = ap (λ rest. parts_behind space (option_copied rest)) h

column-over : (cursor : Cursor) → cursor.rest ≡ None → column_of cursor ≡ cursor.past
column-over cursor h = ap (λ rest. cursor.past - length (unwrap_or (option_copied rest) [])) h ∙ omega arith

-- A word is missing.
missing : (past column : ℕ) (part : Part) (parts : List Part) (more : ℕ) → first_bad past column (part ∷ parts) more [] ≡ Some (bad_at past kind.Word)
unfolding first_bad
missing past column part parts more = refl

pub is-missing : {T : Type 0} (part : Part) (old : Cursor) (fault : LineFault) (first : ℕ) → old.rest ≡ None → fault ≡ BadLine old.line first kind.Word → first ≡ column_of old → (at column : ℕ) (why : LineKind) → ◌≡◌ {A = Result T LineFault} (Err fault) (Err (BadLine at column why)) → IsBad part old at column why
unfolding bad_left
is-missing part old fault first none told begins at column why e =
    let same : ◌≡◌ {A = LineFault} (BadLine old.line first kind.Word) (BadLine at column why) = cc in
    let line : at ≡ old.line = cc in
    let end : column_of old ≡ old.past = column-over old none in
    let answer : bad_at old.past kind.Word ≡ bad_at column why = cc in
    record { line_is = line; bad = λ parts more. ap (first_bad old.past (column_of old) (part ∷ parts) more) (over old none) ∙ missing old.past (column_of old) part parts more ∙ ap Some answer }

-- The words left begin with an empty one.
begins-with : (cursor : Cursor) (text : Bor (List ℕ)) (word : List ℕ) (words : List (List ℕ)) → cursor.rest ≡ Some text → parts_at space text.now ≡ word ∷ words → left cursor ≡ word ∷ words
unfolding left
begins-with cursor text word words h parts = ap (λ rest. parts_behind space (option_copied rest)) h ∙ parts

no-length : (word : List ℕ) → (length word == 0) ≡ true → word ≡ []
no-length [] h = refl
no-length (byte ∷ word) h = absurd (omega (arith, eqb-true (length (byte ∷ word)) 0 h))

empty-word : (part : Part) → fault_of part [] ≡ Some kind.Word
unfolding fault_of
empty-word part = refl

pub is-empty : {T : Type 0} (part : Part) (old : Cursor) (text : Bor (List ℕ)) (word : List ℕ) (words : List (List ℕ)) (fault : LineFault) (first : ℕ) → old.rest ≡ Some text → parts_at space text.now ≡ word ∷ words → (length word == 0) ≡ true → fault ≡ BadLine old.line first kind.Word → first ≡ column_of old → (at column : ℕ) (why : LineKind) → ◌≡◌ {A = Result T LineFault} (Err fault) (Err (BadLine at column why)) → IsBad part old at column why
unfolding bad_left
is-empty part old text word words fault first h cut none told begins at column why e =
    let same : ◌≡◌ {A = LineFault} (BadLine old.line first kind.Word) (BadLine at column why) = cc in
    let line : at ≡ old.line = cc in
    let answer : bad_at (column_of old) kind.Word ≡ bad_at column why = cc in
    let empty : word ≡ [] = no-length word none in
    let starts : left old ≡ [] ∷ words = begins-with old text word words h cut ∙ ap (λ w. w ∷ words) empty in
    record { line_is = line; bad = λ parts more. ap (first_bad old.past (column_of old) (part ∷ parts) more) starts ∙ bad-word old.past (column_of old) part parts more [] words kind.Word (empty-word part) ∙ ap Some answer }

pub tells-word : {T : Type 0} (old : Cursor) (fault : LineFault) (first : ℕ) → fault ≡ BadLine old.line first kind.Word → first ≡ column_of old → (at column : ℕ) (why : LineKind) → ◌≡◌ {A = Result T LineFault} (Err fault) (Err (BadLine at column why)) → (column ≡ column_of old) × (why ≡ kind.Word)
tells-word old fault first told begins at column why e =
    let same : ◌≡◌ {A = LineFault} (BadLine old.line first kind.Word) (BadLine at column why) = cc in
    let place : column ≡ column_of old = cc in
    let word : why ≡ kind.Word = cc in
    (place, word)

pub no-word_over : (old : Cursor) → old.rest ≡ None → has_word (left old) ≡ false
no-word_over old none = ap has_word (over old none)

pub no-word_empty : (old : Cursor) (text : Bor (List ℕ)) (word : List ℕ) (words : List (List ℕ)) → old.rest ≡ Some text → parts_at space text.now ≡ word ∷ words → (length word == 0) ≡ true → has_word (left old) ≡ false
no-word_empty old text word words h cut none =
    let first : List ℕ → Bool = λ w. has_word (w ∷ words) in
    ap has_word (begins-with old text word words h cut) ∙ ap first (no-length word none)

-- ---- what follows a word

-- Where nothing is left the column doesn't matter.
no-column : (past a b : ℕ) (parts : List Part) (more : ℕ) → first_bad past a parts more [] ≡ first_bad past b parts more []
unfolding first_bad
no-column past a b [] more = refl
no-column past a b (part ∷ parts) more = refl

-- The next word begins one byte after the last one.
next-column : (past : ℕ) (text word : List ℕ) (rest : Option (Bor (List ℕ))) (parts : List Part) (more : ℕ) → IfSome rest (λ r. length word + 1 + length r.now ≡ length text) → length text < past → first_bad past (past - length text + length word + 1) parts more (parts_behind space (option_copied rest)) ≡ first_bad past (past - length (unwrap_or (option_copied rest) [])) parts more (parts_behind space (option_copied rest))
next-column past text word None parts more h within = no-column past _ _ parts more
next-column past text word (Some r) parts more h within =
    let column : past - length text + length word + 1 ≡ past - length r.now = omega arith in
    ap (λ c. first_bad past c parts more (parts_at space r.now)) column

some-length : (word : List ℕ) → (length word == 0) ≡ false → word ≢ []
some-length [] h = cc
some-length (byte ∷ word) h = λ e. cc

pub took-word : (old new : Cursor) (text : Bor (List ℕ)) (word : List ℕ) → new.line ≡ old.line → new.past ≡ old.past → old.rest ≡ Some text → parts_at space text.now ≡ word ∷ parts_behind space (option_copied new.rest) → IfSome new.rest (λ rest. length word + 1 + length rest.now ≡ length text.now) → (length word == 0) ≡ false → TookWord old new word
unfolding left bad_left
took-word old new text word line past h cut lengths some =
    let within : length text.now < old.past = old.in_range text h in
    let begins : column_of old ≡ old.past - length text.now = ap (λ rest. old.past - length (unwrap_or (option_copied rest) [])) h in
    record {
      line = line;
      past = past;
      some = some-length word some;
      words = begins-with old text word (parts_behind space (option_copied new.rest)) h cut;
      begins = λ parts more.
          let after : ℕ → Option _ = λ c. first_bad new.past (c + length word + 1) parts more (parts_behind space (option_copied new.rest)) in
          let same : ℕ → Option _ = λ p. first_bad new.past (p - length text.now + length word + 1) parts more (parts_behind space (option_copied new.rest)) in
          let within_new : length text.now < new.past = omega arith in
          ap after begins ∙ ap same (sym past) ∙ next-column new.past text.now word new.rest parts more lengths within_new;
    }

-- ---- the end of a line

pub end-none : (past column more : ℕ) → first_bad past column [] more [] ≡ None
unfolding first_bad
end-none past column more = refl

pub is-end : (cursor : Cursor) → left cursor ≡ [] → (more : ℕ) → bad_left cursor [] more ≡ None
unfolding bad_left
is-end cursor none more = ap (first_bad cursor.past (column_of cursor) [] more) none ∙ end-none cursor.past (column_of cursor) more

left-over : (past column : ℕ) (words : List (List ℕ)) → words ≢ [] → first_bad past column [] 0 words ≡ Some (bad_at column kind.Word)
unfolding first_bad
left-over past column [] some = absurd (some refl)
left-over past column (word ∷ words) some = refl

pub is-left_over : {T : Type 0} (cursor : Cursor) (fault : LineFault) (first : ℕ) → left cursor ≢ [] → fault ≡ BadLine cursor.line first kind.Word → first ≡ column_of cursor → (at column : ℕ) (why : LineKind) → ◌≡◌ {A = Result T LineFault} (Err fault) (Err (BadLine at column why)) → (at ≡ cursor.line) × (bad_left cursor [] 0 ≡ Some (bad_at column why))
unfolding bad_left
is-left_over cursor fault first some told begins at column why e =
    let same : ◌≡◌ {A = LineFault} (BadLine cursor.line first kind.Word) (BadLine at column why) = cc in
    let line : at ≡ cursor.line = cc in
    let answer : bad_at (column_of cursor) kind.Word ≡ bad_at column why = cc in
    (line, left-over cursor.past (column_of cursor) (left cursor) some ∙ ap Some answer)

-- ---- whether a line is over

pub parts-some : (separator : ℕ) (text : List ℕ) → parts_at separator text ≢ []
parts-some separator text e = absurd (omega (arith, length-slice_split (λ byte. byte == separator) text, ap length e))

over-by_test : (rest : Option (Bor (List ℕ))) (b : Bool) → is_some rest ≡ not b → OnTrue b (parts_behind space (option_copied rest) ≡ [])
over-by_test None true h = refl
over-by_test None false h = tt
over-by_test (Some text) true h = cc
over-by_test (Some text) false h = tt

pub is-over : (cursor : Cursor) (b : Bool) → is_some cursor.rest ≡ not b → OnTrue b (left cursor ≡ [])
unfolding left
is-over cursor b h = over-by_test cursor.rest b h

more-by_test : (rest : Option (Bor (List ℕ))) (b : Bool) → is_some rest ≡ not b → OnFalse b (parts_behind space (option_copied rest) ≢ [])
more-by_test None true h = tt
more-by_test None false h = cc
more-by_test (Some text) true h = tt
more-by_test (Some text) false h = parts-some space text.now

pub is-not-over : (cursor : Cursor) (b : Bool) → is_some cursor.rest ≡ not b → OnFalse b (left cursor ≢ [])
unfolding left
is-not-over cursor b h = more-by_test cursor.rest b h

-- ---- faults that pass through

-- What a `?` returns is the fault that it found.
pub through : {T U : Type 0} (r : Result T LineFault) (fault : LineFault) → (x : LineFault) × (r ≡ Err x) × (x ≡ fault) → (at column : ℕ) (why : LineKind) → r ≡ Err (BadLine at column why) → ◌≡◌ {A = Result U LineFault} (Err fault) (Err (BadLine at column why))
through r fault p at column why e = cc

-- ---- the numbers of events

-- The next number is good up to the most.
pub order-good : (next index : ℕ) → index ≡ next → index ≤ EVENTS → order_fault next (Some index) ≡ None
order-good next index same few =
    let h : ((index == next) && nat_le index EVENTS) ≡ true = grind (arith, nat_tests) in
    rw h refl

-- Every other number is out of order.
pub order-bad : (next index : ℕ) → (index ≢ next) ⊎ (EVENTS < index) → order_fault next (Some index) ≡ Some kind.EventOrder
order-bad next index (inl other) =
    let h : ((index == next) && nat_le index EVENTS) ≡ false = grind (arith, nat_tests) in
    rw h refl
order-bad next index (inr many) =
    let h : ((index == next) && nat_le index EVENTS) ≡ false = grind (arith, nat_tests) in
    rw h refl
