-- What is wrong with an `event` line.
use Rattle.std.proofs.Common.{◌≡◌, ◌==◌, ◌&&◌, ◌≤◌, ◌+◌, ℕ, Bool, true, false, nat_le, if◌then◌else◌, List, [], ◌∷◌, length, Option, Some, None, option_map, Result, Err, refl, sym, ap, ◌∙◌, arith}
use Rattle.std.specs.Option.{option_or}
use Rattle.std.proofs.lemmas.Bool.Decides.{nat_tests}
use Rattle.ep_defs.specs.declared.event.EventDef.{EventDef}
use Rattle.ep_defs.specs.Event.{is_valid_event}
use Rattle.ep_defs.specs.declared.limits.TheConstants.{EVENTS}
use Rattle.ep_plan.specs.declared.cursor.Cursor.{Cursor}
use Rattle.ep_plan.specs.declared.line.LineFault.{LineFault}
use Rattle.ep_plan.specs.declared.line.LineFault.TheVariants.{Bad as BadLine}
use Rattle.ep_plan.specs.declared.line.LineKind.{LineKind}
use Rattle.ep_plan.specs.declared.line.LineKind.TheVariants as kind
use Rattle.ep_plan.specs.Lines.{Part, Index, Bad, bad_at, first_bad, fault_of, order_fault, number_of, event_parts, definition_of, is_there, definition_fault, definition_bad, event_bad}
use Rattle.ep_plan.specs.Cursor.{left, bad_left, BeginsAt}

-- ---- from the parts of the line

pub late : (events : List EventDef) (stepped : Bool) (past : ℕ) (words : List (List ℕ)) → stepped ≡ true → event_bad events stepped past words ≡ Some (bad_at 1 kind.LateEvent)
unfolding event_bad
late events true past words h = refl
late events false past words h = cc

-- What is wrong with the words, and then with the definition.
pub in-turn : (events : List EventDef) (stepped : Bool) (words : Cursor) → stepped ≡ false → BeginsAt 7 words → event_bad events stepped words.past (left words) ≡ option_or (bad_left words (event_parts (length events + 1)) 0) (definition_bad events (left words))
unfolding event_bad
in-turn events true words h begins = cc
in-turn events false words h begins =
    let before : Option Bad → Option Bad = λ o. option_or o (definition_bad events (left words)) in
    ap before (begins (event_parts (length events + 1)) 0)

pub word-bad : (events : List EventDef) (stepped : Bool) (words : Cursor) (bad : Bad) → stepped ≡ false → BeginsAt 7 words → bad_left words (event_parts (length events + 1)) 0 ≡ Some bad → event_bad events stepped words.past (left words) ≡ Some bad
word-bad events stepped words bad h column found =
    let before : Option Bad → Option Bad = λ o. option_or o (definition_bad events (left words)) in
    in-turn events stepped words h column ∙ ap before found

definition-by : (events : List EventDef) (words rest : List (List ℕ)) (number : List ℕ) (def : EventDef) (fault : Option LineKind) → words ≡ number ∷ rest → definition_of rest ≡ Some def → definition_fault events def ≡ fault → definition_bad events words ≡ option_map (bad_at 1) fault
unfolding definition_bad
definition-by events words rest number def fault cut spelled h = rw (cut, spelled) (ap (option_map (bad_at 1)) h)

pub def-judged : (events : List EventDef) (stepped : Bool) (words : Cursor) (rest : List (List ℕ)) (number : List ℕ) (def : EventDef) (fault : Option LineKind) → stepped ≡ false → BeginsAt 7 words → bad_left words (event_parts (length events + 1)) 0 ≡ None → left words ≡ number ∷ rest → definition_of rest ≡ Some def → definition_fault events def ≡ fault → event_bad events stepped words.past (left words) ≡ option_map (bad_at 1) fault
def-judged events stepped words rest number def fault h column good cut spelled judged =
    let before : Option Bad → Option Bad = λ o. option_or o (definition_bad events (left words)) in
    in-turn events stepped words h column ∙ ap before good ∙ definition-by events (left words) rest number def fault cut spelled judged

-- A fault of the whole line.
pub whole-line : {T : Type 0} (line : ℕ) (judged : Option Bad) (fault : LineFault) (found : LineKind) → fault ≡ BadLine line 1 found → judged ≡ Some (bad_at 1 found) → (at column : ℕ) (why : LineKind) → ◌≡◌ {A = Result T LineFault} (Err fault) (Err (BadLine at column why)) → (at ≡ line) × (judged ≡ Some (bad_at column why))
whole-line line judged fault found told bad at column why e =
    let same : ◌≡◌ {A = LineFault} (BadLine line 1 found) (BadLine at column why) = cc in
    let place : at ≡ line = cc in
    let answer : bad_at 1 found ≡ bad_at column why = cc in
    (place, bad ∙ ap Some answer)

-- ---- what a good line says

or-none : (a b : Option Bad) → option_or a b ≡ None → (a ≡ None) × (b ≡ None)
or-none None b h = (refl, h)
or-none (Some bad) b h = cc

map-none : (o : Option LineKind) (column : ℕ) → option_map (bad_at column) o ≡ None → o ≡ None
map-none None column h = refl
map-none (Some why) column h = cc

event-good : (events : List EventDef) (stepped : Bool) (past : ℕ) (words : List (List ℕ)) → event_bad events stepped past words ≡ None → (stepped ≡ false) × (first_bad past 7 (event_parts (length events + 1)) 0 words ≡ None) × (definition_bad events words ≡ None)
unfolding event_bad
event-good events true past words h = cc
event-good events false past words h =
    let parts = or-none (first_bad past 7 (event_parts (length events + 1)) 0 words) (definition_bad events words) h in
    (refl, parts.0, parts.1)

order-none : (same few : Bool) → (if same && few then None else Some kind.EventOrder) ≡ None → (same ≡ true) × (few ≡ true)
order-none true true h = (refl, refl)
order-none true false h = cc
order-none false few h = cc

order-good : (next index : ℕ) → order_fault next (Some index) ≡ None → (index ≡ next) × (index ≤ EVENTS)
order-good next index h =
    let parts = order-none (index == next) (nat_le index EVENTS) h in
    let same = parts.0 in
    let few = parts.1 in
    (grind (arith, nat_tests), grind (arith, nat_tests))

index-good : (past column next : ℕ) (parts : List Part) (number : List ℕ) (words : List (List ℕ)) (index : ℕ) → first_bad past column (Index next ∷ parts) 0 (number ∷ words) ≡ None → number_of number ≡ Some index → (index ≡ next) × (index ≤ EVENTS)
unfolding first_bad fault_of
index-good past column next parts [] words index h spelled = cc
index-good past column next parts (byte ∷ number) words index h spelled =
    let both = or-none (option_map (bad_at column) (order_fault next (number_of (byte ∷ number)))) (first_bad past (column + length (byte ∷ number) + 1) parts 0 words) h in
    let good = map-none (order_fault next (number_of (byte ∷ number))) column both.0 in
    order-good next index (ap (order_fault next) (sym spelled) ∙ good)

judged-good : (valid same : Bool) → (if valid then (if same then Some kind.Same else None) else Some kind.Fields) ≡ None → (valid ≡ true) × (same ≡ false)
judged-good true true h = cc
judged-good true false h = (refl, refl)
judged-good false same h = cc

pub event-facts : (events : List EventDef) (stepped : Bool) (past : ℕ) (number : List ℕ) (words : List (List ℕ)) (index : ℕ) (def : EventDef) → event_bad events stepped past (number ∷ words) ≡ None → number_of number ≡ Some index → definition_of words ≡ Some def → (stepped ≡ false) × (index ≡ length events + 1) × (index ≤ EVENTS) × (is_valid_event def ≡ true) × (is_there events def ≡ false)
event-facts events stepped past number words index def good spelled defined =
    let parts = event-good events stepped past (number ∷ words) good in
    let order = index-good past 7 (length events + 1) _ number words index parts.1 spelled in
    let whole = sym (definition-by events (number ∷ words) words number def (definition_fault events def) refl defined refl) ∙ parts.2 in
    let fault = map-none (definition_fault events def) 1 whole in
    let valid = judged-good (is_valid_event def) (is_there events def) fault in
    (parts.0, order.0, order.1, valid.0, valid.1)
