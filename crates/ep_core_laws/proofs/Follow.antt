-- Tables go on to stand for the steps so far.
use Rattle.std.proofs.Common.{◌≡◌, ℕ, zero, suc, true, false, inl, inr, List, [], ◌∷◌, map, length, Option, Some, None, refl, ap, sym, ◌∙◌, subst}
use Rattle.std.specs.Prelude.{is_some, nat_le, ◌==◌, slice_set}
use Rattle.std.specs.Int.{bit_at}
use Rattle.std.specs.List.{list_any, AllByRecursion}
use Rattle.std.specs.BTreeMap.{get}
use Rattle.std.specs.Ordering.{nat_cmp}
use Rattle.std.proofs.lemmas.Bool.{eq-eqb, ne_eqb, cases_eq}
use Rattle.std.proofs.lemmas.Option.{get_or_from_slice_get, same_Some}
use Rattle.ep_defs.specs.declared.limits.TheConstants.{THREADS}
use Rattle.ep_defs.specs.declared.event.EventDef.{EventDef}
use Rattle.ep_model.specs.declared.step.Step.{Step}
use Rattle.ep_model.specs.History.{Past, accepted, entered, present, was_there}
use Rattle.ep_model.specs.Lawful.{IsLawful, begins}
use Rattle.ep_table.specs.Sessions.{is_held, held_count}
use Rattle.ep_row.specs.Row.{RowState, slot_of}
use Rattle.ep_stream.specs.Rows.{IsRow}
use Rattle.ep_stream.specs.Steps.{ToldRows, ChangesRow}
use Rattle.ep_rows.specs.Rows.{told_of}
use Rattle.ep_tables.specs.declared.tables.Present.{Present}
use Rattle.ep_tables.specs.declared.tables.Tables.{Tables}
use Rattle.ep_tables.specs.Tables.{TablesFollow, PresentFollows, RowFollows, PlaceFollows, IsGone, row_of, number_of, has_slot}
use Rattle.ep_tables.proofs.Lists.{IsDistinct}
use Rattle.ep_tables.proofs.Found.{row_found, SessionFound, session_found}
use Rattle.ep_tables.specs.Made.{KeepsEvents, KeepsThreads, KeepsSlots, KeepsSessions, StandsAt, ChangesOne}
use Rattle.ep_tables.proofs.Items.{map-set, any-set}
use Rattle.ep_core_laws.proofs.FollowPasts.{present_distinct}
use Rattle.ep_tables.proofs.Seats.{slots_distinct}

-- ---- rows of which one changes

-- What holds of the row that changes and of the others, holds of each.
pub each_row : (row : ℕ) (Changes : RowState → RowState → Type 0) (old new : ToldRows) (P : ℕ → RowState → RowState → Type 0) → ChangesRow row Changes old new
    → (Changes (old.row row) (new.row row) → P row (old.row row) (new.row row)) → ((r : ℕ) → (r ≡ row → ⊥) → P r (old.row r) (old.row r)) → (r : ℕ) → P r (old.row r) (new.row r)
each_row row Changes old new P changes here else r =
    elim (cases_eq r row) [
      | inl same ↦ let Q : ℕ → Type 0 = λ n. P n (old.row n) (new.row n) in subst Q (sym same) (here changes.here)
      | inr other ↦ let Q : RowState → Type 0 = λ R. P r (old.row r) R in subst Q (sym (changes.others r other)) (else r other)
    ]

-- The row of a thread, and that no other row is.
pub record OwnRow (past : Past) (tables : Tables) (thread row : ℕ) : Type 0 where
  pub is_row : IsRow THREADS row
  pub thread_is : ((told_of tables.rows).row row).thread ≡ thread
  pub here : (thread == ((told_of tables.rows).row row).thread) ≡ true
  pub others : (r : ℕ) → IsRow THREADS r → (r ≡ row → ⊥) → (thread == ((told_of tables.rows).row r).thread) ≡ false
  pub follows : RowFollows past ((told_of tables.rows).row row)

pub own_row : (events : List EventDef) (past : Past) (tables : Tables) (thread row : ℕ) → TablesFollow events past tables → row_of tables thread ≡ Some row → OwnRow past tables thread row
own_row events past tables thread row h own =
    let told = told_of tables.rows in
    let found = row_found events past tables thread row h (sym own) in
    record {
      is_row = found.is_row;
      thread_is = found.thread_is;
      here = eq-eqb thread (told.row row).thread (sym found.thread_is);
      others = λ r is_row other. ne_eqb thread (told.row r).thread (λ same.
          other (same_Some r row (sym (h.place_of r is_row) ∙ ap (get nat_cmp tables.threads) (sym same ∙ sym found.thread_is) ∙ h.place_of row found.is_row)));
      follows = found.follows;
    }

-- ---- sessions of which one changes

-- The sessions that are present stay, each with its number and slot.
pub record SameSeats (old new : Tables) : Type 0 where
  pub numbers : map number_of new.present.items ≡ map number_of old.present.items
  pub slots : (slot : ℕ) → has_slot slot new.present.items ≡ has_slot slot old.present.items
  pub count : length new.present.items ≡ length old.present.items

pub same_seats : (old new : Tables) → KeepsSessions old new → SameSeats old new
same_seats old new keeps =
    let items : new.present.items ≡ old.present.items = rw keeps.present refl in
    record {
      numbers = ap (map number_of) items;
      slots = λ slot. ap (has_slot slot) items;
      count = ap length items;
    }

pub one_seated : (session : ℕ) (Changes : Present → Present → ToldRows → ToldRows → Type 0) (old new : Tables) → ChangesOne session Changes old new → SameSeats old new
one_seated session Changes old new one =
    record {
      numbers = ap (map number_of) one.sessions ∙ map-set number_of old.present.items one.place one.was one.now one.stands.there one.number;
      slots = λ slot. ap (has_slot slot) one.sessions ∙ any-set (λ (p : Present). p.slot == slot) old.present.items one.place one.was one.now one.stands.there (ap (λ n. n == slot) one.slot);
      count = ap length one.sessions ∙ same_length old.present.items one.place one.now;
    }
  where
    same_length : (xs : List Present) (i : ℕ) (x : Present) → length (slice_set xs i x) ≡ length xs
    same_length [] i x = refl
    same_length (y ∷ ys) zero x = refl
    same_length (y ∷ ys) (suc i) x = ap suc (same_length ys i x)

-- The session at a place.
pub session_at : (events : List EventDef) (past : Past) (tables : Tables) (session place : ℕ) (one : Present) → TablesFollow events past tables → StandsAt session tables place one → SessionFound events past tables session one
session_at events past tables session place one h stands =
    session_found events past tables session place one h (sym stands.first) (sym (get_or_from_slice_get tables.present.items place one one stands.there))

pub numbers_distinct : (events : List EventDef) (past : Past) (tables : Tables) → TablesFollow events past tables → IsDistinct (map number_of tables.present.items)
numbers_distinct events past tables h = subst IsDistinct h.present_are (present_distinct events past h.lawful)

pub seats_distinct : (events : List EventDef) (past : Past) (tables : Tables) → TablesFollow events past tables → IsDistinct (map (λ (p : Present). p.slot) tables.present.items)
seats_distinct events past tables h = slots_distinct tables.table tables.present.items h.held h.held_are

-- ---- all tables

pub place_stays : (past later : Past) (old new : ToldRows) (thread : ℕ) (given : Option ℕ) → was_there thread later ≡ was_there thread past → (IsGone thread past → IsGone thread later) → ((r : ℕ) → (new.row r).thread ≡ (old.row r).thread)
    → PlaceFollows past old thread given → PlaceFollows later new thread given
place_stays past later old new thread None came gone served h = came ∙ h
place_stays past later old new thread (Some row) came gone served h = (
  came ∙ h.0,
  elim h.1 [ inl own ↦ inl (served row ∙ own) | inr left ↦ inr (gone left) ],
)

-- The tables after a step that brings and takes no thread and no session.
pub follows_on : (events : List EventDef) (past : Past) (s : Step) (old new : Tables) → IsLawful events (s ∷ past) → TablesFollow events past old
    → KeepsEvents old new → KeepsThreads old new → KeepsSlots old new → SameSeats old new
    → accepted (s ∷ past) ≡ accepted past → entered (s ∷ past) ≡ entered past → present (s ∷ past) ≡ present past → begins (s ∷ past) ≡ new.begins
    → ((thread : ℕ) → was_there thread (s ∷ past) ≡ was_there thread past)
    → ((thread : ℕ) → IsGone thread past → IsGone thread (s ∷ past))
    → ((r : ℕ) → ((told_of new.rows).row r).thread ≡ ((told_of old.rows).row r).thread)
    → ((r : ℕ) → IsRow THREADS r → RowFollows (s ∷ past) ((told_of new.rows).row r))
    → AllByRecursion (PresentFollows events (s ∷ past) (told_of new.rows)) new.present.items
    → ((r slot : ℕ) → IsRow THREADS r → is_some (slot_of ((told_of new.rows).row r) slot) ≡ true → has_slot slot old.present.items ≡ true)
    → ((r slot : ℕ) → IsRow THREADS r → bit_at ((told_of new.rows).row r).due slot ≡ 1 → has_slot slot old.present.items ≡ true)
    → TablesFollow events (s ∷ past) new
follows_on events past s old new lawful h keeps threads slots seats same_accepted same_entered same_present counted came gone served rows sessions on due =
    let before = told_of old.rows in
    let after = told_of new.rows in
    let map_is : (t : ℕ) → get nat_cmp new.threads t ≡ get nat_cmp old.threads t = λ t. rw threads.threads refl in
    record {
      lawful = lawful;
      events_are = rw keeps.events h.events_are;
      known = keeps.known ∙ h.known;
      last_session = λ session above. ap (list_any (λ n. nat_le session n)) same_accepted ∙ h.last_session session above ∙ ap (nat_le session) (sym slots.last_session);
      last_thread = λ thread above. ap (list_any (λ n. nat_le thread n)) same_entered ∙ h.last_thread thread above ∙ ap (nat_le thread) (sym threads.last_thread);
      begins_are = counted;
      rows = rows;
      places = λ thread.
          let P : Option ℕ → Type 0 = λ given. PlaceFollows (s ∷ past) after thread given in
          subst P (sym (map_is thread)) (place_stays past (s ∷ past) before after thread (get nat_cmp old.threads thread) (came thread) (gone thread) served (h.places thread));
      place_of = λ r is_row. map_is (after.row r).thread ∙ ap (get nat_cmp old.threads) (served r) ∙ h.place_of r is_row;
      present_are = same_present ∙ h.present_are ∙ sym seats.numbers;
      sessions = sessions;
      held = λ slot. ap (λ t. is_held t slot) slots.table ∙ h.held slot ∙ sym (seats.slots slot);
      held_are = ap held_count slots.table ∙ h.held_are ∙ sym seats.count;
      on_known = λ r slot is_row is. seats.slots slot ∙ on r slot is_row is;
      due_known = λ r slot is_row is. seats.slots slot ∙ due r slot is_row is;
    }

-- What holds of the sessions holds where they stay.
pub sessions_stay : (old new : Tables) (P : Present → Type 0) → KeepsSessions old new → AllByRecursion P old.present.items → AllByRecursion P new.present.items
sessions_stay old new P keeps all = rw keeps.present all

pub sessions_are : (session : ℕ) (Changes : Present → Present → ToldRows → ToldRows → Type 0) (old new : Tables) (P : Present → Type 0) → (one : ChangesOne session Changes old new)
    → AllByRecursion P (slice_set old.present.items one.place one.now) → AllByRecursion P new.present.items
sessions_are session Changes old new P one all = subst (AllByRecursion P) (sym one.sessions) all
