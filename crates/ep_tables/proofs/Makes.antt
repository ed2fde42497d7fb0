-- A step that can be made finds what it needs.
use Rattle.std.proofs.Common.{◌≡◌, ℕ, zero, suc, ◌<◌, ◌≤◌, Bool, true, false, inl, inr, List, [], ◌∷◌, length, Option, Some, None, Result, Ok, Err, OnOk, refl, ap, sym, ◌∙◌, subst, arith, get_or}
use Rattle.std.specs.Prelude.{not, is_some, is_none, slice_get, position, nat_lt, ◌==◌}
use Rattle.std.specs.BTreeMap.{get}
use Rattle.std.specs.Ordering.{nat_cmp}
use Rattle.std.proofs.lemmas.Bool.{eqb-true, leb-false, ltb-false, and_parts, not-true, not-false, false≢true, false_from_ne_true}
use Rattle.std.proofs.lemmas.Option.{slice_get-get_or}
use Rattle.std.proofs.lemmas.List.Quantifiers.{position-Some}
use Rattle.std.proofs.lemmas.List.{length-map}
use Rattle.ep_model.proofs.Lists.{none_is}
use Rattle.ep_defs.specs.declared.limits.TheConstants.{SCHEDULE_WRITES, SESSION_THREADS}
use Rattle.ep_defs.specs.Definitions.{definition_at}
use Rattle.ep_defs.specs.declared.event.EventDef.{EventDef}
use Rattle.ep_model.specs.declared.step.Kind.{Kind}
use Rattle.ep_model.specs.declared.step.Step.{Step}
use Rattle.ep_model.specs.declared.step.Step.TheVariants as step
use Rattle.ep_model.specs.Chunks.{turns, in_hand, is_hand_full}
use Rattle.ep_model.specs.Fold.{budget_of}
use Rattle.ep_model.specs.History.{Past, present, is_present, was_there, is_there, has_left, in_write, opened, is_open}
use Rattle.ep_model.specs.Lawful.{objections, objection_to, was_opened, begins}
use Rattle.ep_model.proofs.Objections.{none_there}
use Rattle.ep_model.proofs.Sessions.{open_opened, open_somewhere}
use Rattle.ep_row.specs.Row.{slot_of}
use Rattle.ep_rows.specs.Rows.{told_of}
use Rattle.ep_tables.specs.declared.tables.Present.{Present}
use Rattle.ep_tables.specs.declared.tables.Tables.{Tables}
use Rattle.ep_tables.specs.Judged.{kind_in}
use Rattle.ep_tables.specs.Tables.{TablesFollow, PresentFollows, IsGone, row_of, number_of}
use Rattle.ep_tables.specs.Can.{HasRow, HasPlace, IsQuiet, CanOpenOn, CanShowTo, IsOn, HasEmptyHand, IsNowhere, CanMake}
use Rattle.ep_tables.proofs.Pasts.{open_there}
use Rattle.ep_tables.proofs.Found.{All-at, RowFound, row_found, no_row, no_place, there_found, in_write_found, SessionFound, on_found, owed_found}
use Rattle.ep_tables.proofs.Judging.{not_next}
use Rattle.ep_tables.proofs.Slots.{has_due_found}

-- ---- threads

record OwnRow (past : Past) (tables : Tables) (thread : ℕ) : Type 0 where
  row : ℕ
  own : row_of tables thread ≡ Some row
  found : RowFound past tables thread row

own_at : (events : List EventDef) (past : Past) (tables : Tables) (thread : ℕ) (own : Option ℕ) → TablesFollow events past tables → row_of tables thread ≡ own → was_there thread past ≡ true → (IsGone thread past → ⊥) → OwnRow past tables thread
own_at events past tables thread None h is came stays =
    elim (no_row events past tables thread h (sym is)) [ inl never ↦ absurd (false≢true (sym never ∙ came)) | inr gone ↦ absurd (stays gone) ]
own_at events past tables thread (Some row) h is came stays = record { row = row; own = is; found = row_found events past tables thread row h (sym is) }

there_row : (events : List EventDef) (past : Past) (tables : Tables) (thread : ℕ) → TablesFollow events past tables → is_there thread past ≡ true → OwnRow past tables thread
there_row events past tables thread h there =
    let parts = and_parts (was_there thread past) (not (has_left thread past)) there in
    own_at events past tables thread (row_of tables thread) h refl parts.0 (λ gone. false≢true (sym (not-true (has_left thread past) parts.1) ∙ gone.gone))

open_row : (events : List EventDef) (past : Past) (tables : Tables) (session thread : ℕ) → TablesFollow events past tables → is_open session thread past ≡ true → OwnRow past tables thread
open_row events past tables session thread h on =
    own_at events past tables thread (row_of tables thread) h refl (open_there events session thread past h.lawful on) (λ gone. false≢true (sym (gone.closed session) ∙ on))

quiet_row : (past : Past) (tables : Tables) (thread row : ℕ) → RowFound past tables thread row → is_there thread past ≡ true → in_write thread past ≡ false → IsQuiet ((told_of tables.rows).row row)
quiet_row past tables thread row found there quiet =
    record {
      between = in_write_found past tables thread row found ∙ quiet;
      stays = not-true ((told_of tables.rows).row row).left (there_found past tables thread row found ∙ there);
    }

quiet : (events : List EventDef) (past : Past) (tables : Tables) (thread : ℕ) → TablesFollow events past tables → is_there thread past ≡ true → in_write thread past ≡ false → HasRow tables thread IsQuiet
quiet events past tables thread h there between =
    let at = there_row events past tables thread h there in
    record { row = at.row; own = at.own; is_row = at.found.is_row; holds = quiet_row past tables thread at.row at.found there between }

-- ---- sessions

record OwnPlace (events : List EventDef) (past : Past) (tables : Tables) (session : ℕ) : Type 0 where
  place : ℕ
  first : position (λ (p : Present). p.number == session) tables.present.items ≡ Some place
  one : Present
  there : slice_get tables.present.items place ≡ Some one
  found : SessionFound events past tables session one

record Item {A : Type 0} (p : A → Bool) (xs : List A) (i : ℕ) : Type 0 where
  item : A
  there : slice_get xs i ≡ Some item
  passes : p item ≡ true

item_at : {A : Type 0} (p : A → Bool) (xs : List A) (i : ℕ) → position p xs ≡ Some i → Item p xs i
item_at p [] i is = cc
item_at p (x ∷ xs) i is = let at = position-Some p (x ∷ xs) i x is in record { item = get_or (x ∷ xs) i x; there = slice_get-get_or (x ∷ xs) i x at.0; passes = at.1 }

place_at : (events : List EventDef) (past : Past) (tables : Tables) (session : ℕ) (found : Option ℕ) → TablesFollow events past tables
    → position (λ (p : Present). p.number == session) tables.present.items ≡ found → is_present session past ≡ true → OwnPlace events past tables session
place_at events past tables session None h is there = absurd (no_place events past tables session h (sym is) there)
place_at events past tables session (Some place) h is there =
    let at = item_at (λ (p : Present). p.number == session) tables.present.items place is in
    record {
      place = place;
      first = is;
      one = at.item;
      there = at.there;
      found = record {
        number = eqb-true at.item.number session at.passes;
        follows = All-at (PresentFollows events past (told_of tables.rows)) tables.present.items place at.item h.sessions at.there;
      };
    }

present_place : (events : List EventDef) (past : Past) (tables : Tables) (session : ℕ) → TablesFollow events past tables → is_present session past ≡ true → OwnPlace events past tables session
present_place events past tables session h there = place_at events past tables session (position (λ (p : Present). p.number == session) tables.present.items) h refl there

has_place : (events : List EventDef) (past : Past) (tables : Tables) (session : ℕ) (Holds : Present → Type 0) (at : OwnPlace events past tables session) → Holds at.one → HasPlace tables session Holds
has_place events past tables session Holds at holds = record { place = at.place; first = at.first; present = at.one; there = at.there; holds = holds }

none_left : (n : ℕ) → nat_lt 0 n ≡ false → n ≡ 0
none_left zero is = refl
none_left (suc n) is = let most = ltb-false 0 (suc n) is in absurd (omega (arith, most))

empty_hand : (events : List EventDef) (past : Past) (tables : Tables) (session : ℕ) (one : Present) → in_hand (turns session past) ≡ (budget_of session past).in_hand → SessionFound events past tables session one → is_hand_full session past ≡ false → HasEmptyHand one
empty_hand events past tables session one counted found empty =
    found.follows.in_hand ∙ ap (λ n. (budget_of n past).in_hand) found.number ∙ sym counted ∙ none_left (in_hand (turns session past)) empty

-- ---- limits

within : {A : Type 0} (xs : List A) (i : ℕ) → is_none (slice_get xs i) ≡ false → i < length xs
within [] i is = absurd (false≢true (sym is))
within (x ∷ xs) zero is = omega arith
within (x ∷ xs) (suc i) is = let less = within xs i is in omega arith

pub defined : (definitions : List EventDef) (event : ℕ) → is_none (definition_at definitions event) ≡ false → (0 < event) × (event ≤ length definitions)
defined definitions zero is = absurd (false≢true (sym is))
defined definitions (suc place) is = let less = within definitions place is in (omega arith, omega arith)

-- ---- a session that is open on a thread

open_on : (events : List EventDef) (past : Past) (tables : Tables) (session thread : ℕ) → TablesFollow events past tables → (at : OwnPlace events past tables session) → (on : OwnRow past tables thread)
    → is_open session thread past ≡ true → IsOn at.one ((told_of tables.rows).row on.row)
open_on events past tables session thread h at on is = on_found events past tables session thread on.row at.one at.found on.found ∙ is

-- ---- each step

pub can_make : (events : List EventDef) (past : Past) (tables : Tables) (made : Step) → ((session : ℕ) → in_hand (turns session past) ≡ (budget_of session past).in_hand)
    → TablesFollow events past tables → objection_to events past made ≡ None → CanMake made tables
can_make events past tables (step.Accept s config) counted h none =
    let o = none_there (objections events past (step.Accept s config)) none in
    let few = leb-false 64 (length (present past)) o.1.1.0 in
    let count = ap length h.present_are ∙ length-map tables.present.items number_of in
    let above = leb-false s tables.last_session (not_next 0 s tables.last_session _ (h.last_session s) (omega arith) ∙ o.0) in
    (above, not-false _ o.1.0, omega (arith, few, count))
can_make events past tables (step.Enter t) counted h none = tt
can_make events past tables (step.Leave t) counted h none =
    let o = none_there (objections events past (step.Leave t)) none in
    quiet events past tables t h (not-false _ o.0) o.1.0
can_make events past tables (step.Open s t) counted h none =
    let o = none_there (objections events past (step.Open s t)) none in
    let there = not-false (is_there t past) o.1.0 in
    let at = present_place events past tables s h (not-false _ o.0) in
    let on = there_row events past tables t h there in
    let R = (told_of tables.rows).row on.row in
    let closed : is_open s t past ≡ false = false_from_ne_true (is_open s t past) (λ is. false≢true (sym o.1.1.0 ∙ open_opened s t past is)) in
    let few = leb-false SESSION_THREADS (length (opened s past)) o.1.1.1.0 in
    let count = at.found.follows.count ∙ ap (λ n. length (opened n past)) at.found.number in
    has_place events past tables s (λ one. HasRow tables t (CanOpenOn t one)) at
    (record {
      row = on.row;
      own = on.own;
      is_row = on.found.is_row;
      holds = record {
        quiet = quiet_row past tables t on.row on.found there o.1.1.1.1.0;
        off = none_is (slot_of R at.one.slot) (on_found events past tables s t on.row at.one at.found on.found ∙ closed);
        never = none_is (get nat_cmp at.one.opened t) (at.found.follows.ever t ∙ ap (λ n. was_opened n t past) at.found.number ∙ o.1.1.0);
        few = omega (arith, few, count);
      };
    })
can_make events past tables (step.Begin t stamp write) counted h none =
    let o = none_there (objections events past (step.Begin t stamp write)) none in
    let known = defined events write.event o.1.1.0 in
    let few = leb-false SCHEDULE_WRITES (begins past) o.1.1.1.1.0 in
    let count = h.begins_are in
    (quiet events past tables t h (not-false _ o.0) o.1.0, known.0, subst (λ (list : List EventDef). write.event ≤ length list) (sym h.known) known.1, not-false _ o.1.1.1.0, omega (arith, few, count))
can_make events past tables (step.Show t s) counted h none =
    let o = none_there (objections events past (step.Show t s)) none in
    let at = present_place events past tables s h (not-false _ o.1.0) in
    let on = there_row events past tables t h (not-false _ o.0) in
    has_place events past tables s (λ one. HasRow tables t (CanShowTo one)) at
    (record {
      row = on.row;
      own = on.own;
      is_row = on.found.is_row;
      holds = record {
        writing = in_write_found past tables t on.row on.found ∙ not-false _ o.1.1.0;
        due = eqb-true _ _ (owed_found events past tables s t on.row at.one at.found on.found ∙ not-false _ o.1.1.1.0);
      };
    })
can_make events past tables (step.End t) counted h none =
    let o = none_there (objections events past (step.End t)) none in
    let on = there_row events past tables t h (not-false _ o.0) in
    record {
      row = on.row;
      own = on.own;
      is_row = on.found.is_row;
      holds = record {
        writing = in_write_found past tables t on.row on.found ∙ not-false _ o.1.0;
        seen = eqb-true _ _ (not-false _ (has_due_found events past tables t on.row h on.found ∙ o.1.1.0));
      };
    }
can_make events past tables (step.Steal s t) counted h none =
    let o = none_there (objections events past (step.Steal s t)) none in
    let is = not-false (is_open s t past) o.1.1.0 in
    let at = present_place events past tables s h (not-false _ o.0) in
    let on = open_row events past tables s t h is in
    has_place events past tables s (λ one. HasRow tables t (IsOn one) × HasEmptyHand one) at
    (record { row = on.row; own = on.own; is_row = on.found.is_row; holds = open_on events past tables s t h at on is }, empty_hand events past tables s at.one (counted s) at.found o.1.1.1.0)
can_make events past tables (step.Give s) counted h none =
    let o = none_there (objections events past (step.Give s)) none in
    has_place events past tables s (λ one. Unit {0}) (present_place events past tables s h (not-false _ o.0)) tt
can_make events past tables (step.Point s stamp) counted h none =
    let o = none_there (objections events past (step.Point s stamp)) none in
    has_place events past tables s (λ one. Unit {0}) (present_place events past tables s h (not-false _ o.0)) tt
can_make events past tables (step.Close s t) counted h none =
    let o = none_there (objections events past (step.Close s t)) none in
    let is = not-false (is_open s t past) o.1.1.0 in
    let at = present_place events past tables s h (not-false _ o.0) in
    let on = open_row events past tables s t h is in
    has_place events past tables s (λ one. HasRow tables t (λ row. IsOn one row × (row.in_write ≡ false)) × HasEmptyHand one) at
    (record { row = on.row; own = on.own; is_row = on.found.is_row; holds = (open_on events past tables s t h at on is, in_write_found past tables t on.row on.found ∙ o.1.1.1.0) }, empty_hand events past tables s at.one (counted s) at.found o.1.1.1.1.0)
can_make events past tables (step.Finish s stamp) counted h none =
    let o = none_there (objections events past (step.Finish s stamp)) none in
    let at = present_place events past tables s h (not-false _ o.0) in
    let told = told_of tables.rows in
    has_place events past tables s (λ one. IsNowhere tables one × HasEmptyHand one) at (
      λ r is_row. none_is (slot_of (told.row r) at.one.slot) (false_from_ne_true (is_some (slot_of (told.row r) at.one.slot)) (λ on.
          false≢true (sym o.1.0 ∙ open_somewhere s (told.row r).thread past (sym ((at.found.follows.rows r is_row).on ∙ ap (λ n. is_open n (told.row r).thread past) at.found.number) ∙ on)))),
      empty_hand events past tables s at.one (counted s) at.found o.1.1.0,
    )

-- What holds where no kind is answered, holds where a step is.
pub if_made : {A : Type 0} (result : Result A Kind) (P : Type 0) → (kind_in result ≡ None → P) → OnOk result P
if_made (Ok answer) P holds = holds refl
if_made (Err kind) P holds = tt
