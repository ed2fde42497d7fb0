-- Before the first step the tables stand for no step.
use Rattle.std.proofs.Common.{◌≡◌, ℕ, zero, suc, Bool, true, false, List, [], length, Option, Some, None, inl, refl, ap, sym, ◌∙◌, subst, arith, if◌then◌else◌}
use Rattle.std.specs.Prelude.{◌&&◌, ◌||◌, nat_lt, nat_le, is_some, replicate, slice_index_or, map}
use Rattle.std.specs.Int.{bit_at, is_in_range}
use Rattle.std.specs.List.{AllByRecursion}
use Rattle.std.specs.BTreeMap.{get}
use Rattle.std.specs.Ordering.{nat_cmp}
use Rattle.std.proofs.lemmas.Bool.{ltb-true, leb-true, le-leb, false≢true, and_parts, false_from_ne_true}
use Rattle.std.proofs.lemmas.Nat.Bits.{bit_at-zero}
use Rattle.ep_defs.specs.declared.limits.TheConstants.{THREADS}
use Rattle.ep_defs.specs.declared.event.EventDef.{EventDef}
use Rattle.ep_table.specs.Sessions.{is_held, held_count}
use Rattle.ep_row.specs.declared.row.Opening.{Opening}
use Rattle.ep_row.specs.Row.{RowState, slot_of}
use Rattle.ep_stream.specs.Rows.{IsRow}
use Rattle.ep_rows.specs.Rows.{told_of}
use Rattle.ep_tables.specs.declared.tables.Tables.{Tables}
use Rattle.ep_tables.specs.Tables.{TablesFollow, PresentFollows, RowFollows, PlaceFollows, number_of, has_slot}
use Rattle.ep_tables.specs.Made.{IsStart}
use Rattle.ep_tables.proofs.TiedComings.{none_held}

above : (a b : ℕ) → nat_lt b a ≡ true → nat_le a b ≡ false
above a b over =
    false_from_ne_true (nat_le a b) (λ within. let most = leb-true a b within in let least = ltb-true b a over in omega (arith, most, least))

from_row : (n : ℕ) → IsRow THREADS n → is_in_range 1 THREADS n ≡ true
from_row n row = ap (λ (b : Bool). b && nat_le n THREADS) (le-leb 1 n row.0) ∙ le-leb n THREADS row.1

to_row : (n : ℕ) → is_in_range 1 THREADS n ≡ true → IsRow THREADS n
to_row n is =
    let both = and_parts (nat_le 1 n) (nat_le n THREADS) is in
    (leb-true 1 n both.0, leb-true n THREADS both.1)

none_in : (count slot : ℕ) → slice_index_or (replicate {A = Option Opening} count None) slot None ≡ None
none_in zero slot = refl
none_in (suc count) zero = refl
none_in (suc count) (suc slot) = none_in count slot

pub start_follows : (events : List EventDef) (tables : Tables) → IsStart events tables → TablesFollow events [] tables
start_follows events tables start =
    let told = told_of tables.rows in
    let none : (slot : ℕ) → has_slot slot tables.present.items ≡ false = λ slot. ap (has_slot slot) start.present in
    record {
      lawful = tt;
      events_are = start.events_are;
      known = start.known;
      last_session = λ session over. sym (ap (nat_le session) start.last_session ∙ above session 0 over);
      last_thread = λ thread over. sym (ap (nat_le thread) start.last_thread ∙ above thread THREADS over);
      begins_are = sym start.begins;
      rows = λ r is_row.
          let fresh : RowState → Type 0 = RowFollows [] in
          subst fresh (sym (start.rows.rows r is_row))
          (record {
            came = ap (λ (b : Bool). b || false) (from_row r is_row);
            count = refl;
            writing = refl;
            gone = refl;
          });
      places = λ thread. subst (PlaceFollows [] told thread) (sym (start.threads thread)) (place thread);
      place_of = λ r is_row.
          ap (λ (row : RowState). get nat_cmp tables.threads row.thread) (start.rows.rows r is_row) ∙ start.threads r
          ∙ ap (λ (b : Bool). if b then Some r else None) (from_row r is_row);
      present_are = sym (ap (map number_of) start.present);
      sessions = subst (AllByRecursion (PresentFollows events [] told)) (sym start.present) tt;
      held = λ slot. ap (λ t. is_held t slot) start.table ∙ none_held 64 slot ∙ sym (none slot);
      held_are = ap held_count start.table ∙ sym (ap length start.present);
      on_known = λ r slot is_row on.
          let off : slot_of (told.row r) slot ≡ None = ap (λ (row : RowState). slot_of row slot) (start.rows.rows r is_row) ∙ none_in 64 slot in
          absurd (false≢true (sym (ap is_some off) ∙ on));
      due_known = λ r slot is_row due.
          let off : bit_at (told.row r).due slot ≡ 0 = ap (λ (row : RowState). bit_at row.due slot) (start.rows.rows r is_row) ∙ bit_at-zero slot in
          absurd (omega (arith, off, due));
    }
  where
    place : (thread : ℕ) → PlaceFollows [] (told_of tables.rows) thread (if is_in_range 1 THREADS thread then Some thread else None)
    place thread =
        elim (is_in_range 1 THREADS thread) as (λ v. is_in_range 1 THREADS thread ≡ v → PlaceFollows [] (told_of tables.rows) thread (if v then Some thread else None)) [
          | true ↦ λ is. (ap (λ (b : Bool). b || false) is, inl (ap (λ (row : RowState). row.thread) (start.rows.rows thread (to_row thread is))))
          | false ↦ λ is. ap (λ (b : Bool). b || false) is
        ] refl
