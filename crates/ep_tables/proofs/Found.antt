-- What is found in tables that stand for the steps so far.
use Rattle.std.proofs.Common.{◌≡◌, ℕ, zero, suc, ◌+◌, ◌<◌, Bool, true, false, inl, inr, List, [], ◌∷◌, map, length, Option, Some, None, refl, ap, sym, ◌∙◌, subst, arith, if◌then◌else◌, get_or}
use Rattle.std.specs.Prelude.{◌⊎◌, ◌&&◌, ◌||◌, not, is_some, nat_lt, slice_get, position, ◌==◌}
use Rattle.std.specs.Int.{bit_at}
use Rattle.std.specs.List.{list_any, position_or_len, AllByRecursion}
use Rattle.std.specs.BTreeMap.{get}
use Rattle.std.specs.Ordering.{nat_cmp}
use Rattle.std.proofs.lemmas.Bool.{eqb-true, eq-eqb, lt-ltb, false≢true}
use Rattle.std.proofs.lemmas.Option.{slice_get_read, slice_get-get_or}
use Rattle.std.proofs.lemmas.List.Quantifiers.{position-Some}
use Rattle.std.proofs.lemmas.Map.Keys.{any_passes_from_place}
use Rattle.ep_defs.specs.declared.limits.TheConstants.{THREADS}
use Rattle.ep_defs.specs.declared.event.EventDef.{EventDef}
use Rattle.ep_model.specs.Chunks.{turns, in_hand, is_hand_full}
use Rattle.ep_model.specs.Fold.{budget_of}
use Rattle.ep_model.specs.History.{Past, present, is_present, was_there, is_there, has_left, in_write, is_open, is_due}
use Rattle.ep_model.proofs.Lists.{has}
use Rattle.ep_row.specs.Row.{slot_of}
use Rattle.ep_stream.specs.Rows.{IsRow}
use Rattle.ep_stream.specs.Session.{rest_of}
use Rattle.ep_stream.specs.Steps.{ToldRows}
use Rattle.ep_rows.specs.Rows.{told_of}
use Rattle.ep_tables.specs.declared.tables.Present.{Present}
use Rattle.ep_tables.specs.declared.tables.Tables.{Tables}
use Rattle.ep_tables.specs.Tables.{TablesFollow, PresentFollows, RowFollows, PlaceFollows, IsGone, own_row, row_of, number_of}
use Rattle.ep_tables.proofs.Pasts.{has_present}

-- ---- lists

pub list_any-map : {A : Type 0} (p : ℕ → Bool) (f : A → ℕ) (xs : List A) → list_any p (map f xs) ≡ list_any (λ x. p (f x)) xs
list_any-map p f [] = refl
list_any-map p f (x ∷ xs) = ap (λ b. p (f x) || b) (list_any-map p f xs)

pub All-at : {A : Type 0} (P : A → Type 0) (xs : List A) (i : ℕ) (x : A) → AllByRecursion P xs → slice_get xs i ≡ Some x → P x
All-at P [] i x all is = absurd (cc)
All-at P (y ∷ ys) zero x all is = let same : y ≡ x = cc in subst P same all.0
All-at P (y ∷ ys) (suc i) x all is = All-at P ys i x all.1 is

any_within : {A : Type 0} (p : A → Bool) (xs : List A) → list_any p xs ≡ true → position_or_len p xs < length xs
any_within p [] is = absurd (false≢true is)
any_within p (x ∷ xs) is =
    elim (p x) as (λ v. (v || list_any p xs) ≡ true → (if (not v) then 1 + position_or_len p xs else 0) < suc (length xs)) [
      | true ↦ λ _. omega arith
      | false ↦ λ h. let more = any_within p xs h in omega arith
    ] is

-- Nothing is found where no item passes.
none_passes : {A : Type 0} (p : A → Bool) (xs : List A) → position p xs ≡ None → list_any p xs ≡ false
none_passes p xs is =
    elim (list_any p xs) as (λ v. list_any p xs ≡ v → v ≡ false) [
      | true ↦ λ some. let on = lt-ltb _ _ (any_within p xs some) in let found : position p xs ≡ Some (position_or_len p xs) = rw on refl in cc
      | false ↦ λ _. refl
    ] refl

some_passes : {A : Type 0} (p : A → Bool) (xs : List A) (i : ℕ) → position p xs ≡ Some i → list_any p xs ≡ true
some_passes p [] i is = cc
some_passes p (x ∷ xs) i is = let at = position-Some p (x ∷ xs) i x is in any_passes_from_place p (x ∷ xs) i _ (slice_get-get_or (x ∷ xs) i x at.0) at.1

-- What is found passes.
found_at : {A : Type 0} (p : A → Bool) (xs : List A) (i : ℕ) (x : A) → position p xs ≡ Some i → x ≡ get_or xs i x → (slice_get xs i ≡ Some x) × (p x ≡ true)
found_at {A = A} p xs i x is reads =
    let at = position-Some p xs i x is in
    let P : A → Type 0 = λ y. p y ≡ true in
    (slice_get_read xs (length xs) i x refl at.0 reads, subst P (sym reads) at.1)

-- ---- sessions

session_any : (events : List EventDef) (past : Past) (tables : Tables) (session : ℕ) → TablesFollow events past tables → is_present session past ≡ list_any (λ (p : Present). p.number == session) tables.present.items
session_any events past tables session h =
    sym (has_present session past) ∙ ap (has session) h.present_are ∙ list_any-map (λ n. n == session) number_of tables.present.items

-- A session is present exactly where it has a place.
pub present_found : (events : List EventDef) (past : Past) (tables : Tables) (session : ℕ) (found : Option ℕ) → TablesFollow events past tables
    → found ≡ position (λ (p : Present). p.number == session) tables.present.items → is_some found ≡ is_present session past
present_found events past tables session None h is = sym (session_any events past tables session h ∙ none_passes (λ (p : Present). p.number == session) tables.present.items (sym is))
present_found events past tables session (Some place) h is = sym (session_any events past tables session h ∙ some_passes (λ (p : Present). p.number == session) tables.present.items place (sym is))

pub no_place : (events : List EventDef) (past : Past) (tables : Tables) (session : ℕ) → TablesFollow events past tables
    → None ≡ position (λ (p : Present). p.number == session) tables.present.items → is_present session past ≡ true → ⊥
no_place events past tables session h none is = false≢true (present_found events past tables session None h none ∙ is)

-- What is kept of the session at its place.
pub record SessionFound (events : List EventDef) (past : Past) (tables : Tables) (session : ℕ) (present : Present) : Type 0 where
  pub number : present.number ≡ session
  pub follows : PresentFollows events past (told_of tables.rows) present

pub session_found : (events : List EventDef) (past : Past) (tables : Tables) (session place : ℕ) (present : Present) → TablesFollow events past tables
    → Some place ≡ position (λ (p : Present). p.number == session) tables.present.items → present ≡ get_or tables.present.items place present
    → SessionFound events past tables session present
session_found events past tables session place present h is reads =
    let at = found_at (λ (p : Present). p.number == session) tables.present.items place present (sym is) reads in
    record {
      number = eqb-true present.number session at.1;
      follows = All-at (PresentFollows events past (told_of tables.rows)) tables.present.items place present h.sessions at.0;
    }

-- ---- threads

own_some : (told : ToldRows) (thread : ℕ) (given : Option ℕ) (row : ℕ) → own_row told thread given ≡ Some row → (given ≡ Some row) × ((told.row row).thread ≡ thread)
own_some told thread None row is = cc
own_some told thread (Some r) row is =
    elim ((told.row r).thread == thread) as (λ v. ((told.row r).thread == thread) ≡ v → (if v then Some r else None) ≡ Some row → (Some r ≡ Some row) × ((told.row row).thread ≡ thread)) [
      | true ↦ λ same e. let it : r ≡ row = cc in (e, subst (λ n. (told.row n).thread ≡ thread) it (eqb-true (told.row r).thread thread same))
      | false ↦ λ _ e. cc
    ] refl is

own_none : (past : Past) (told : ToldRows) (thread : ℕ) (given : Option ℕ) → PlaceFollows past told thread given → own_row told thread given ≡ None → (was_there thread past ≡ false) ⊎ IsGone thread past
own_none past told thread None follows is = inl follows
own_none past told thread (Some r) follows is =
    elim follows.1 [
      | inl same ↦ let e : own_row told thread (Some r) ≡ Some r = rw (eq-eqb (told.row r).thread thread same) refl in cc
      | inr gone ↦ inr gone
    ]

-- The row that serves the thread.
pub record RowFound (past : Past) (tables : Tables) (thread row : ℕ) : Type 0 where
  pub is_row : IsRow THREADS row
  pub thread_is : ((told_of tables.rows).row row).thread ≡ thread
  pub follows : RowFollows past ((told_of tables.rows).row row)

pub row_found : (events : List EventDef) (past : Past) (tables : Tables) (thread row : ℕ) → TablesFollow events past tables → Some row ≡ row_of tables thread → RowFound past tables thread row
row_found events past tables thread row h is =
    let at = own_some (told_of tables.rows) thread (get nat_cmp tables.threads thread) row (sym is) in
    let is_row = tables.given thread row at.0 in
    record { is_row = is_row; thread_is = at.1; follows = h.rows row is_row }

-- What has no row of its own never came, or is gone.
pub no_row : (events : List EventDef) (past : Past) (tables : Tables) (thread : ℕ) → TablesFollow events past tables → None ≡ row_of tables thread → (was_there thread past ≡ false) ⊎ IsGone thread past
no_row events past tables thread h is = own_none past (told_of tables.rows) thread (get nat_cmp tables.threads thread) (h.places thread) (sym is)

pub there_found : (past : Past) (tables : Tables) (thread row : ℕ) → RowFound past tables thread row → not ((told_of tables.rows).row row).left ≡ is_there thread past
there_found past tables thread row h =
    let R = (told_of tables.rows).row row in
    ap not h.follows.gone ∙ ap (λ b. b && not (has_left R.thread past)) (sym h.follows.came) ∙ ap (λ t. is_there t past) h.thread_is

pub in_write_found : (past : Past) (tables : Tables) (thread row : ℕ) → RowFound past tables thread row → ((told_of tables.rows).row row).in_write ≡ in_write thread past
in_write_found past tables thread row h = h.follows.writing ∙ ap (λ t. in_write t past) h.thread_is

-- What is read of the row tells whether its thread is in a write.
pub writes_found : (events : List EventDef) (past : Past) (tables : Tables) (thread row : ℕ) (writes : Bool) → TablesFollow events past tables → Some row ≡ row_of tables thread
    → writes ≡ ((told_of tables.rows).row row).in_write → writes ≡ in_write thread past
writes_found events past tables thread row writes h own is = is ∙ in_write_found past tables thread row (row_found events past tables thread row h own)

-- No session is open on a thread that has no row of its own, if it came.
pub none_open : (past : Past) (session thread : ℕ) → (was_there thread past ≡ false) ⊎ IsGone thread past → was_there thread past ≡ true → is_open session thread past ≡ false
none_open past session thread (inl never) came = absurd (false≢true (sym never ∙ came))
none_open past session thread (inr gone) came = gone.closed session

-- ---- a session on a thread

pub on_found : (events : List EventDef) (past : Past) (tables : Tables) (session thread row : ℕ) (present : Present) → SessionFound events past tables session present → RowFound past tables thread row
    → is_some (slot_of ((told_of tables.rows).row row) present.slot) ≡ is_open session thread past
on_found events past tables session thread row present s r =
    (s.follows.rows row r.is_row).on ∙ ap (λ n. is_open n ((told_of tables.rows).row row).thread past) s.number ∙ ap (λ t. is_open session t past) r.thread_is

pub owed_found : (events : List EventDef) (past : Past) (tables : Tables) (session thread row : ℕ) (present : Present) → SessionFound events past tables session present → RowFound past tables thread row
    → (bit_at ((told_of tables.rows).row row).due present.slot == 1) ≡ is_due events session thread past
owed_found events past tables session thread row present s r =
    (s.follows.rows row r.is_row).owed ∙ ap (λ n. is_due events n ((told_of tables.rows).row row).thread past) s.number ∙ ap (λ t. is_due events session t past) r.thread_is

-- What is read of the row by the session's slot tells whether the session is open on its thread.
pub open_found : (events : List EventDef) (past : Past) (tables : Tables) (session thread place row : ℕ) (present : Present) (on : Bool) → TablesFollow events past tables
    → Some place ≡ position (λ (p : Present). p.number == session) tables.present.items → present ≡ get_or tables.present.items place present → Some row ≡ row_of tables thread
    → on ≡ is_some (slot_of ((told_of tables.rows).row row) present.slot) → on ≡ is_open session thread past
open_found events past tables session thread place row present on h found reads own is =
    is ∙ on_found events past tables session thread row present (session_found events past tables session place present h found reads) (row_found events past tables thread row h own)

-- And whether the thread's write is due for it.
pub due_found : (events : List EventDef) (past : Past) (tables : Tables) (session thread place row : ℕ) (present : Present) (due : Bool) → TablesFollow events past tables
    → Some place ≡ position (λ (p : Present). p.number == session) tables.present.items → present ≡ get_or tables.present.items place present → Some row ≡ row_of tables thread
    → due ≡ (bit_at ((told_of tables.rows).row row).due present.slot == 1) → due ≡ is_due events session thread past
due_found events past tables session thread place row present due h found reads own is =
    is ∙ owed_found events past tables session thread row present (session_found events past tables session place present h found reads) (row_found events past tables thread row h own)

-- ---- what is in hand

pub in_hand_found : (events : List EventDef) (past : Past) (tables : Tables) (session : ℕ) (present : Present) (full : Bool) → ((session : ℕ) (past : Past) → in_hand (turns session past) ≡ (budget_of session past).in_hand)
    → SessionFound events past tables session present → full ≡ nat_lt 0 (rest_of present.session).in_hand → full ≡ is_hand_full session past
in_hand_found events past tables session present full counted at is =
    is ∙ ap (nat_lt 0) (at.follows.in_hand ∙ sym (counted present.number past)) ∙ ap (λ number. is_hand_full number past) at.number
