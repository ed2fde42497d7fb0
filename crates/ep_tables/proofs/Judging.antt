-- How a step is judged: one kind after another, and what is found of it.
use Rattle.std.proofs.Common.{◌≡◌, ℕ, ◌≤◌, ◌<◌, Bool, true, false, List, Option, Some, None, Result, Ok, Err, IfOk, refl, ap, sym, ◌∙◌, subst, arith, if◌then◌else◌}
use Rattle.std.specs.Prelude.{◌&&◌, ◌==◌, not, is_none, is_some, position, nat_lt, nat_le}
use Rattle.std.specs.BTreeMap.{get}
use Rattle.std.specs.Ordering.{nat_cmp}
use Rattle.std.proofs.lemmas.Bool.{le-leb, leb-true, lt-ltb, ltb-false, false_from_ne_true}
use Rattle.std.proofs.Math.Bool.{not-not}
use Rattle.ep_defs.specs.Definitions.{definition_at}
use Rattle.ep_defs.specs.declared.event.EventDef.{EventDef}
use Rattle.ep_model.specs.declared.step.Kind.{Kind}
use Rattle.ep_model.specs.declared.step.Kind.TheVariants.{NoSession, NoThread, NoEvent, InWrite, NotInWrite}
use Rattle.ep_model.specs.History.{Past, in_write, is_present, is_there, was_there}
use Rattle.ep_stream.specs.Steps.{ToldRows}
use Rattle.ep_rows.specs.Rows.{told_of}
use Rattle.ep_tables.specs.declared.tables.Present.{Present}
use Rattle.ep_tables.specs.declared.tables.Tables.{Tables}
use Rattle.ep_tables.specs.Tables.{PlaceFollows, TablesFollow, row_of}
use Rattle.ep_tables.proofs.Found.{present_found, writes_found}

-- ---- one kind after another

-- The first kind is there.
pub stop : (a : Bool) (k : Kind) (o : Option Kind) → a ≡ true → Some k ≡ (if a then Some k else o)
stop true k o is = refl
stop false k o is = cc

-- It is not there.
pub pass : (a : Bool) (k : Kind) (o p : Option Kind) → a ≡ false → p ≡ o → p ≡ (if a then Some k else o)
pass false k o p is later = later
pass true k o p is later = cc

-- It is there alike.
pub alike : (a b : Bool) (k : Kind) (o p : Option Kind) → a ≡ b → o ≡ p → (if a then Some k else o) ≡ (if b then Some k else p)
alike true true k o p same later = refl
alike false false k o p same later = later
alike true false k o p same later = cc
alike false true k o p same later = cc

-- One of three is there, or none of them.
pub stop_in_three : (a b c : Bool) (i j k x : Kind) (o : Option Kind) → Some x ≡ (if a then Some i else (if b then Some j else (if c then Some k else None))) → Some x ≡ (if a then Some i else (if b then Some j else (if c then Some k else o)))
stop_in_three true b c i j k x o is = is
stop_in_three false true c i j k x o is = is
stop_in_three false false true i j k x o is = is
stop_in_three false false false i j k x o is = cc

pub pass_three : (a b c : Bool) (i j k : Kind) (o p : Option Kind) → None ≡ (if a then Some i else (if b then Some j else (if c then Some k else None))) → p ≡ o → p ≡ (if a then Some i else (if b then Some j else (if c then Some k else o)))
pass_three true b c i j k o p is later = cc
pass_three false true c i j k o p is later = cc
pass_three false false true i j k o p is later = cc
pass_three false false false i j k o p is later = later

-- What holds of the answer holds of what was found.
pub found_as : {A : Type 0} (result : Result A Kind) (P : A → Type 0) (answer : A) → IfOk result (λ found. found ≡ answer) → P answer → IfOk result P
found_as (Ok found) P answer same holds = subst P (sym same) holds
found_as (Err kind) P answer same holds = tt

-- ---- numbers and threads that come

-- A number that is not above the last one is not the next.
pub not_next : (low n last : ℕ) (some : Bool) → (nat_lt low n ≡ true → some ≡ nat_le n last) → low ≤ last → nat_le n last ≡ not (nat_lt low n && not some)
not_next low n last some same least =
    elim (nat_lt low n) as (λ v. nat_lt low n ≡ v → nat_le n last ≡ not (v && not some)) [
      | true ↦ λ above. sym (not-not some ∙ same above)
      | false ↦ λ below. let most = ltb-false low n below in le-leb n last (omega (arith, most, least))
    ] refl

-- One that is above it is.
pub next_is : (low n last : ℕ) (some : Bool) → low < n → last < n → (nat_lt low n ≡ true → some ≡ nat_le n last) → not (nat_lt low n && not some) ≡ false
next_is low n last some least above same =
    let at : nat_lt low n ≡ true = lt-ltb low n least in
    let less : nat_le n last ≡ false = false_from_ne_true (nat_le n last) (λ is. let most = leb-true n last is in absurd (omega (arith, most, above))) in
    ap (λ b. not (b && not some)) at ∙ ap not (ap not (same at ∙ less))

-- A thread that was given a row came.
pub came_found : (past : Past) (told : ToldRows) (thread : ℕ) (given : Option ℕ) → PlaceFollows past told thread given → is_some given ≡ was_there thread past
came_found past told thread None follows = sym follows
came_found past told thread (Some row) follows = sym follows.0

-- ---- the kinds that a step passes first

-- The tables lack an event exactly where the definitions do.
pub lacks_found : (events : List EventDef) (past : Past) (tables : Tables) (event : ℕ) (lacks : Bool) → TablesFollow events past tables
    → lacks ≡ is_none (definition_at tables.events.items event) → lacks ≡ is_none (definition_at events event)
lacks_found events past tables event lacks h is = is ∙ ap (λ (list : List EventDef). is_none (definition_at list event)) h.events_are

-- A begin whose thread is there and in no write, and whose event is one of the definitions.
pub pass_known : (events : List EventDef) (past : Past) (tables : Tables) (thread row event : ℕ) (writes lacks : Bool) (o p : Option Kind) → TablesFollow events past tables
    → row_of tables thread ≡ Some row → true ≡ is_there thread past → writes ≡ ((told_of tables.rows).row row).in_write → writes ≡ false
    → lacks ≡ is_none (definition_at tables.events.items event) → lacks ≡ false → p ≡ o
    → p ≡ (if not (is_there thread past) then Some NoThread else (if in_write thread past then Some InWrite else (if is_none (definition_at events event) then Some NoEvent else o)))
pass_known events past tables thread row event writes lacks o p h own there in_write_is quiet lacks_is known later =
    pass _ _ _ _ (ap not (sym there))
    (pass _ _ _ _ (sym (writes_found events past tables thread row writes h (sym own) in_write_is) ∙ quiet)
    (pass _ _ _ _ (sym (lacks_found events past tables event lacks h lacks_is) ∙ known) later))

-- A show whose thread is there and in a write, and whose session is present.
pub pass_writing : (events : List EventDef) (past : Past) (tables : Tables) (session thread place row : ℕ) (writes : Bool) (o p : Option Kind) → TablesFollow events past tables
    → row_of tables thread ≡ Some row → true ≡ is_there thread past → Some place ≡ position (λ (q : Present). q.number == session) tables.present.items
    → writes ≡ ((told_of tables.rows).row row).in_write → not writes ≡ false → p ≡ o
    → p ≡ (if not (is_there thread past) then Some NoThread else (if not (is_present session past) then Some NoSession else (if not (in_write thread past) then Some NotInWrite else o)))
pass_writing events past tables session thread place row writes o p h own there found in_write_is writing later =
    pass _ _ _ _ (ap not (sym there))
    (pass _ _ _ _ (ap not (sym (present_found events past tables session (Some place) h found)))
    (pass _ _ _ _ (sym (ap not (writes_found events past tables thread row writes h (sym own) in_write_is)) ∙ writing) later))

-- A session that is present, and a thread that came.
pub pass_came : (events : List EventDef) (past : Past) (tables : Tables) (session thread place : ℕ) (came : Bool) (o p : Option Kind) → TablesFollow events past tables
    → Some place ≡ position (λ (q : Present). q.number == session) tables.present.items → came ≡ is_some (get nat_cmp tables.threads thread) → came ≡ true → p ≡ o
    → p ≡ (if not (is_present session past) then Some NoSession else (if not (was_there thread past) then Some NoThread else o))
pass_came events past tables session thread place came o p h found came_is some later =
    pass _ _ _ _ (ap not (sym (present_found events past tables session (Some place) h found)))
    (pass _ _ _ _ (ap not (sym (came_is ∙ came_found past (told_of tables.rows) thread (get nat_cmp tables.threads thread) (h.places thread)) ∙ some)) later)
