-- What a session's calls make of a row set.
use Rattle.std.proofs.Common.{◌≡◌, ℕ, ◌-◌, ◌<◌, ◌≤◌, Bool, true, false, List, Option, None, Some, Result, Ok, Err, OnOk, OnErr, length, refl, ap, sym, ◌∙◌, subst}
use Rattle.std.specs.Prelude.{slice_index_or, slice_set, option_map, IfOk, IsTrue, ◌==◌, ◌&&◌, if◌then◌else◌}
use Rattle.std.specs.List.{All}
use Rattle.std.proofs.lemmas.Bool.{eqb-true}
use Rattle.std.proofs.lemmas.List.Elements.{All-nil, All-push}
use Rattle.ep_defs.specs.declared.event.EventDef.{EventDef}
use Rattle.ep_defs.specs.declared.session.Config.{Config}
use Rattle.ep_defs.specs.declared.session.Write.{Write}
use Rattle.ep_defs.specs.Session.{fits}
use Rattle.ep_pool.specs.Counts.{PoolCounts}
use Rattle.ep_slot.specs.declared.shown.Shown.{Shown}
use Rattle.ep_slot.specs.Slot.{SlotState, opened, is_refused, recorded}
use Rattle.ep_slot.specs.Hand.{HandState, hand_of}
use Rattle.ep_row.specs.Row.{RowState, HasOpen, opening_of}
use Rattle.ep_stream.specs.Rows.{IsSetAt, IsSame, first_hand}
use Rattle.ep_stream.specs.Steps.{OpensRow, ClosesRow, Opens, GivesBack, given_back}
use Rattle.ep_rows.specs.declared.opened.Open.{Open}
use Rattle.ep_rows.specs.declared.column.Column.{Column}
use Rattle.ep_rows.specs.Told.{row_at, told, cell_in, open_at, pool_in, pool_at, slot_in, config_in, opened_with, IsKnown, IsWritten, AreWritten}
use Rattle.ep_rows.specs.Shows.{ShownIn, ShowsRow, ShowsWrite, shown_slot}
use Rattle.ep_rows.specs.Writes.{Shows}
use Rattle.ep_rows.proofs.OneRow.{row_now, row_other, lent_row, lent_column, known_kept, known_at, known_some, known_none, pool_set, pool_here, pool_other, same_pools, cell_set, cells_same, kept_at, written_some, written_none}

-- A function of what is open changes at one row and slot too.
pub set_map : {B : Type 0} (f : Option Open → B) (row slot : ℕ) (cell : Option Open) (old new : ℕ → ℕ → Option Open) → IsSetAt row slot cell old new → IsSetAt row slot (f cell) (λ r s. f (old r s)) (λ r s. f (new r s))
set_map f row slot cell old new set r s =
    elim ((r == row) && (s == slot)) as (λ v. new r s ≡ (if v then cell else old r s) → f (new r s) ≡ (if v then f cell else f (old r s))) [
      | true ↦ λ is. ap f is
      | false ↦ λ is. ap f is
    ]
    (set r s)

-- ---- a session is opened

-- What opening a session made of a row and of its slot's column.
pub record Attaches {A E : Type 0} (events : List EventDef) (row slot session : ℕ) (config : Config) (result : Result A E) (old now : RowState) (column new : Option Column) : Type 0 where
  pub opens : OnOk result (OpensRow events slot session config old now)
  pub known : OnOk result (HasOpen now slot (opened session old.thread old.index config.chunks))
  pub cells : OnOk result ((r : ℕ) → cell_in new r ≡ (if r == row then Some (opened_with session old config) else cell_in column r))
  pub same : OnErr result ((r : ℕ) → cell_in new r ≡ cell_in column r)
  pub row_same : OnErr result (now ≡ old)
  pub pool : pool_in new ≡ pool_in column

-- The row and the column that were lent are those of the set.
pub attaches_at : {A E : Type 0} (events : List EventDef) (rows : List RowState) (columns : List (Option Column)) (row slot session : ℕ) (config : Config) (result : Result A E) (old now : RowState) (column new : Option Column)
    → old ≡ row_at rows row → column ≡ slice_index_or columns slot None → Attaches events row slot session config result old now column new → Attaches events row slot session config result (row_at rows row) now (slice_index_or columns slot None) new
attaches_at events rows columns row slot session config result old now column new row_is column_is h =
    subst (λ (x : RowState). Attaches events row slot session config result x now (slice_index_or columns slot None) new) row_is
    (subst (λ (x : Option Column). Attaches events row slot session config result old now x new) column_is h)

-- The same, for definitions that were read.
pub attach_is : {A E : Type 0} (events read : List EventDef) (rows : List RowState) (columns : List (Option Column)) (row slot session : ℕ) (config : Config) (result : Result A E) (old now : RowState) (column new : Option Column)
    → 0 < row → row ≤ length rows → slot < length columns → old ≡ slice_index_or rows (row - 1) old → column ≡ slice_index_or columns slot column → read ≡ events
    → Attaches read row slot session config result old now column new → Attaches events row slot session config result (row_at rows row) now (slice_index_or columns slot None) new
attach_is events read rows columns row slot session config result old now column new some within in_slots at there same h =
    attaches_at events rows columns row slot session config result old now column new (lent_row rows row old some within at) (lent_column columns slot column in_slots there)
    (subst (λ (xs : List EventDef). Attaches xs row slot session config result old now column new) same h)

pub hand_at_row : {E : Type 0} (session : ℕ) (result : Result HandState E) (old now : RowState) → old ≡ now → IfOk result (λ hand. hand ≡ first_hand session old.thread old.index) → IfOk result (λ hand. hand ≡ first_hand session now.thread now.index)
hand_at_row session (Ok hand) old now same is = is ∙ ap (λ (x : RowState). first_hand session x.thread x.index) same
hand_at_row session (Err e) old now same is = tt

pub attach_masks : {A E : Type 0} (events : List EventDef) (row slot session : ℕ) (config : Config) (result : Result A E) (old now : RowState) (column new : Option Column)
    → Attaches events row slot session config result old now column new → length now.masks ≡ length old.masks
attach_masks events row slot session config (Ok a) old now column new h = h.opens.masks.count
attach_masks events row slot session config (Err e) old now column new h = ap (λ (x : RowState). length x.masks) h.row_same

pub attach_known : {A E : Type 0} (events : List EventDef) (rows : List RowState) (columns : List (Option Column)) (row slot session : ℕ) (config : Config) (result : Result A E) (now : RowState) (new : Option Column)
    → 0 < row → row ≤ length rows → slot < length columns → Attaches events row slot session config result (row_at rows row) now (slice_index_or columns slot None) new
    → ((r s : ℕ) → IsKnown (row_at rows r) s (open_at columns r s)) → (r s : ℕ) → IsKnown (row_at (slice_set rows (row - 1) now) r) s (open_at (slice_set columns slot new) r s)
attach_known events rows columns row slot session config (Ok a) now new some within in_slots h all =
    let one : Open = opened_with session (row_at rows row) config in
    known_at rows columns (slice_set columns slot new) row slot now (Some (opening_of one.slot)) (Some one) some within h.opens.slots (ap (λ (x : RowState). x.thread) h.opens.others)
    (cell_set columns slot row (Some one) new in_slots h.cells) (known_some now slot one (Some one) refl h.known) all
attach_known events rows columns row slot session config (Err e) now new some within in_slots h all = λ r s.
    subst (IsKnown (row_at (slice_set rows (row - 1) now) r) s) (sym (cells_same columns slot new in_slots h.same r s))
    (known_kept rows columns row now some within (ap (λ (x : RowState). x.slots) h.row_same) (ap (λ (x : RowState). x.thread) h.row_same) all r s)

pub attach_written : {A E : Type 0} (events : List EventDef) (rows : List RowState) (columns : List (Option Column)) (row slot session : ℕ) (config : Config) (result : Result A E) (now : RowState) (new : Option Column)
    → slot < length columns → Attaches events row slot session config result (row_at rows row) now (slice_index_or columns slot None) new
    → ((r s : ℕ) → AreWritten events (open_at columns r s)) → (r s : ℕ) → AreWritten events (open_at (slice_set columns slot new) r s)
attach_written events rows columns row slot session config (Ok a) now new in_slots h all =
    let one : Open = opened_with session (row_at rows row) config in
    kept_at (λ r s cell. AreWritten events cell) row slot (Some one) (open_at columns) (open_at (slice_set columns slot new)) (cell_set columns slot row (Some one) new in_slots h.cells)
    (written_some events one (Some one) refl (All-nil (IsWritten events))) all
attach_written events rows columns row slot session config (Err e) now new in_slots h all = λ r s.
    subst (AreWritten events) (sym (cells_same columns slot new in_slots h.same r s)) (all r s)

pub attach_told : {A E : Type 0} (events : List EventDef) (rows : List RowState) (columns : List (Option Column)) (row slot session : ℕ) (config : Config) (result : Result A E) (now : RowState) (new : Option Column)
    → 0 < row → row ≤ length rows → slot < length columns → Attaches events row slot session config result (row_at rows row) now (slice_index_or columns slot None) new
    → OnOk result (Opens events row slot session config (told rows columns) (told (slice_set rows (row - 1) now) (slice_set columns slot new)))
attach_told events rows columns row slot session config (Ok a) now new some within in_slots h =
    let one : Open = opened_with session (row_at rows row) config in
    record {
      rows = record {
        here = subst (OpensRow events slot session config (row_at rows row)) (sym (row_now rows row now some within)) h.opens;
        others = λ r not. row_other rows row now r some within not;
      };
      slots = set_map slot_in row slot (Some one) (open_at columns) (open_at (slice_set columns slot new)) (cell_set columns slot row (Some one) new in_slots h.cells);
      pools = same_pools columns slot new in_slots h.pool;
    }
attach_told events rows columns row slot session config (Err e) now new some within in_slots h = tt

pub attach_expected : {E : Type 0} (events : List EventDef) (rows : List RowState) (columns : List (Option Column)) (row slot session : ℕ) (config : Config) (result : Result HandState E) (now : RowState) (new : Option Column)
    → slot < length columns → IfOk result (λ hand. hand ≡ first_hand session (row_at rows row).thread (row_at rows row).index) → Attaches events row slot session config result (row_at rows row) now (slice_index_or columns slot None) new
    → IfOk result (λ hand. IsSetAt row slot (Some hand) (λ r s. option_map hand_of (slot_in (open_at columns r s))) (λ r s. option_map hand_of (slot_in (open_at (slice_set columns slot new) r s))))
attach_expected events rows columns row slot session config (Ok hand) now new in_slots hand_is h =
    let one : Open = opened_with session (row_at rows row) config in
    subst (λ (x : HandState). IsSetAt row slot (Some x) (λ r s. option_map hand_of (slot_in (open_at columns r s))) (λ r s. option_map hand_of (slot_in (open_at (slice_set columns slot new) r s)))) (sym hand_is)
    (set_map (λ cell. option_map hand_of (slot_in cell)) row slot (Some one) (open_at columns) (open_at (slice_set columns slot new)) (cell_set columns slot row (Some one) new in_slots h.cells))
attach_expected events rows columns row slot session config (Err e) now new in_slots hand_is h = tt

pub attach_configured : {A E : Type 0} (events : List EventDef) (rows : List RowState) (columns : List (Option Column)) (row slot session : ℕ) (config : Config) (result : Result A E) (now : RowState) (new : Option Column)
    → slot < length columns → Attaches events row slot session config result (row_at rows row) now (slice_index_or columns slot None) new
    → OnOk result (IsSetAt row slot (Some config) (λ r s. config_in (open_at columns r s)) (λ r s. config_in (open_at (slice_set columns slot new) r s)))
attach_configured events rows columns row slot session config (Ok a) now new in_slots h =
    let one : Open = opened_with session (row_at rows row) config in
    set_map config_in row slot (Some one) (open_at columns) (open_at (slice_set columns slot new)) (cell_set columns slot row (Some one) new in_slots h.cells)
attach_configured events rows columns row slot session config (Err e) now new in_slots h = tt

-- Out of memory a function of what is open is as before.
pub attach_none : {A E B : Type 0} (f : Option Open → B) (events : List EventDef) (rows : List RowState) (columns : List (Option Column)) (row slot session : ℕ) (config : Config) (result : Result A E) (now : RowState) (new : Option Column)
    → slot < length columns → Attaches events row slot session config result (row_at rows row) now (slice_index_or columns slot None) new
    → OnErr result (IsSame (λ r s. f (open_at columns r s)) (λ r s. f (open_at (slice_set columns slot new) r s)))
attach_none f events rows columns row slot session config (Ok a) now new in_slots h = tt
attach_none f events rows columns row slot session config (Err e) now new in_slots h = λ r s. ap f (cells_same columns slot new in_slots h.same r s)

-- ---- a session is closed

pub detach_known : (rows : List RowState) (columns : List (Option Column)) (row slot : ℕ) (old now : RowState) (column new : Option Column)
    → 0 < row → row ≤ length rows → slot < length columns → old ≡ slice_index_or rows (row - 1) old → column ≡ slice_index_or columns slot column → ClosesRow slot old now
    → ((r : ℕ) → cell_in new r ≡ (if r == row then None else cell_in column r))
    → ((r s : ℕ) → IsKnown (row_at rows r) s (open_at columns r s)) → (r s : ℕ) → IsKnown (row_at (slice_set rows (row - 1) now) r) s (open_at (slice_set columns slot new) r s)
detach_known rows columns row slot old now column new some within in_slots at there closes cells all =
    let is = lent_row rows row old some within at in
    let column_is = lent_column columns slot column in_slots there in
    known_at rows columns (slice_set columns slot new) row slot now None None some within
    (closes.slots ∙ ap (λ (x : RowState). slice_set x.slots slot None) is) (ap (λ (x : RowState). x.thread) closes.others ∙ ap (λ (x : RowState). x.thread) is)
    (cell_set columns slot row None new in_slots (subst (λ (x : Option Column). (r : ℕ) → cell_in new r ≡ (if r == row then None else cell_in x r)) column_is cells))
    (known_none old now slot closes.slots) all

pub detach_written : (events : List EventDef) (columns : List (Option Column)) (row slot : ℕ) (column new : Option Column) → slot < length columns → column ≡ slice_index_or columns slot column
    → ((r : ℕ) → cell_in new r ≡ (if r == row then None else cell_in column r))
    → ((r s : ℕ) → AreWritten events (open_at columns r s)) → (r s : ℕ) → AreWritten events (open_at (slice_set columns slot new) r s)
detach_written events columns row slot column new in_slots there cells all =
    kept_at (λ r s cell. AreWritten events cell) row slot None (open_at columns) (open_at (slice_set columns slot new))
    (cell_set columns slot row None new in_slots (subst (λ (x : Option Column). (r : ℕ) → cell_in new r ≡ (if r == row then None else cell_in x r)) (lent_column columns slot column in_slots there) cells))
    (written_none events) all

-- ---- chunks are given back

pub give_cells : (columns : List (Option Column)) (slot : ℕ) (column new : Option Column) → slot < length columns → column ≡ slice_index_or columns slot column → ((r : ℕ) → cell_in new r ≡ cell_in column r)
    → (r s : ℕ) → open_at (slice_set columns slot new) r s ≡ open_at columns r s
give_cells columns slot column new in_slots there cells =
    cells_same columns slot new in_slots (subst (λ (x : Option Column). (r : ℕ) → cell_in new r ≡ cell_in x r) (lent_column columns slot column in_slots there) cells)

pub give_told : (rows : List RowState) (columns : List (Option Column)) (slot chunks : ℕ) (column new : Option Column) → slot < length columns → column ≡ slice_index_or columns slot column → ((r : ℕ) → cell_in new r ≡ cell_in column r)
    → pool_in new ≡ given_back (pool_in column) chunks → GivesBack slot chunks (told rows columns) (told rows (slice_set columns slot new))
give_told rows columns slot chunks column new in_slots there cells pool =
    record {
      pools = λ s. pool_set columns slot new s in_slots
          ∙ elim (s == slot) as (λ v. (s == slot) ≡ v → (if v then pool_in new else pool_at columns s) ≡ (if v then given_back (pool_at columns s) chunks else pool_at columns s)) [
            | true ↦ λ same. pool ∙ ap (λ (x : PoolCounts). given_back x chunks) (ap pool_in (lent_column columns slot column in_slots there) ∙ sym (ap (pool_at columns) (eqb-true s slot same)))
            | false ↦ λ _. refl
          ]
          refl;
      rows = λ r. refl;
      slots = λ r s. ap slot_in (give_cells columns slot column new in_slots there cells r s);
    }

-- ---- a write is shown

pub shown_at : (rows : List RowState) (columns : List (Option Column)) (row slot : ℕ) (write : Write) (shown : Shown) (old now : RowState) (column new : Option Column) → old ≡ row_at rows row → column ≡ slice_index_or columns slot None
    → ShownIn slot write shown old now (pool_in column) (pool_in new) (cell_in column row) (cell_in new row) → ShownIn slot write shown (row_at rows row) now (pool_at columns slot) (pool_in new) (open_at columns row slot) (cell_in new row)
shown_at rows columns row slot write shown old now column new row_is column_is h =
    subst (λ (x : RowState). ShownIn slot write shown x now (pool_at columns slot) (pool_in new) (open_at columns row slot) (cell_in new row)) row_is
    (subst (λ (x : Option Column). ShownIn slot write shown old now (pool_in x) (pool_in new) (cell_in x row) (cell_in new row)) column_is h)

-- What was shown on a row and in a column that were lent, as the rows and columns had them.
pub record ShownLent (rows : List RowState) (columns : List (Option Column)) (row slot : ℕ) (write : Write) (shown : Shown) (now : RowState) (column new : Option Column) : Type 0 where
  pub column_is : column ≡ slice_index_or columns slot None
  pub set : IsSetAt row slot (cell_in new row) (open_at columns) (open_at (slice_set columns slot new))
  pub is : ShownIn slot write shown (row_at rows row) now (pool_at columns slot) (pool_in new) (open_at columns row slot) (cell_in new row)

pub shown_lent : (rows : List RowState) (columns : List (Option Column)) (row slot : ℕ) (write : Write) (shown : Shown) (old now : RowState) (column new : Option Column) → 0 < row → row ≤ length rows
    → slot < length columns → old ≡ slice_index_or rows (row - 1) old → column ≡ slice_index_or columns slot column
    → ((r : ℕ) → cell_in new r ≡ (if r == row then cell_in new row else cell_in column r))
    → ShownIn slot write shown old now (pool_in column) (pool_in new) (cell_in column row) (cell_in new row) → ShownLent rows columns row slot write shown now column new
shown_lent rows columns row slot write shown old now column new some within in_slots row_lent column_lent others is =
    let column_is = lent_column columns slot column in_slots column_lent in
    record {
      column_is = column_is;
      set = cell_set columns slot row (cell_in new row) new in_slots
          (subst (λ (x : Option Column). (r : ℕ) → cell_in new r ≡ (if r == row then cell_in new row else cell_in x r)) column_is others);
      is = shown_at rows columns row slot write shown old now column new (lent_row rows row old some within row_lent) column_is is;
    }

pub show_known : (rows : List RowState) (columns : List (Option Column)) (row slot : ℕ) (write : Write) (shown : Shown) (now : RowState) (new : Option Column) → 0 < row → row ≤ length rows
    → IsSetAt row slot (cell_in new row) (open_at columns) (open_at (slice_set columns slot new))
    → ShownIn slot write shown (row_at rows row) now (pool_at columns slot) (pool_in new) (open_at columns row slot) (cell_in new row)
    → ((r s : ℕ) → IsKnown (row_at rows r) s (open_at columns r s)) → (r s : ℕ) → IsKnown (row_at (slice_set rows (row - 1) now) r) s (open_at (slice_set columns slot new) r s)
show_known rows columns row slot write shown now new some within set h all =
    let buffer = shown_slot (is_refused shown) h.opened.slot (row_at rows row).stamp write in
    known_at rows columns (slice_set columns slot new) row slot now (Some (opening_of buffer)) (cell_in new row) some within h.row_is.slots (ap (λ (x : RowState). x.thread) h.row_is.others) set
    (known_some now slot (record h.opened { slot = buffer }) (cell_in new row) h.now h.row_is.known) all

records_shown : (events : List EventDef) (refused : Bool) (buffer : SlotState) (stamp : ℕ) (write : Write) → 0 < write.event → write.event ≤ length events → IsTrue (fits write) → All (IsWritten events) buffer.records
    → All (IsWritten events) (shown_slot refused buffer stamp write).records
records_shown events true buffer stamp write some most fit all = all
records_shown events false buffer stamp write some most fit all = All-push (IsWritten events) buffer.records (recorded buffer stamp write) all ((some, most), fit)

pub show_written : (events : List EventDef) (rows : List RowState) (columns : List (Option Column)) (row slot : ℕ) (write : Write) (shown : Shown) (now : RowState) (new : Option Column)
    → 0 < write.event → write.event ≤ length events → IsTrue (fits write)
    → IsSetAt row slot (cell_in new row) (open_at columns) (open_at (slice_set columns slot new))
    → ShownIn slot write shown (row_at rows row) now (pool_at columns slot) (pool_in new) (open_at columns row slot) (cell_in new row)
    → ((r s : ℕ) → AreWritten events (open_at columns r s)) → (r s : ℕ) → AreWritten events (open_at (slice_set columns slot new) r s)
show_written events rows columns row slot write shown now new some most fit set h all =
    let buffer = shown_slot (is_refused shown) h.opened.slot (row_at rows row).stamp write in
    kept_at (λ r s cell. AreWritten events cell) row slot (cell_in new row) (open_at columns) (open_at (slice_set columns slot new)) set
    (written_some events (record h.opened { slot = buffer }) (cell_in new row) h.now (records_shown events (is_refused shown) h.opened.slot (row_at rows row).stamp write some most fit (all row slot h.opened h.was)))
    all

pub show_told : (rows : List RowState) (columns : List (Option Column)) (row slot : ℕ) (write : Write) (shown : Shown) (now : RowState) (new : Option Column) → 0 < row → row ≤ length rows → slot < length columns
    → IsSetAt row slot (cell_in new row) (open_at columns) (open_at (slice_set columns slot new))
    → ShownIn slot write shown (row_at rows row) now (pool_at columns slot) (pool_in new) (open_at columns row slot) (cell_in new row)
    → Shows row slot write shown (told rows columns) (told (slice_set rows (row - 1) now) (slice_set columns slot new))
show_told rows columns row slot write shown now new some within in_slots set h =
    let buffer = shown_slot (is_refused shown) h.opened.slot (row_at rows row).stamp write in
    record {
      buffer = h.opened.slot;
      was = ap slot_in h.was;
      rows = record {
        here = subst (ShowsRow slot buffer (row_at rows row)) (sym (row_now rows row now some within)) h.row_is;
        others = λ r not. row_other rows row now r some within not;
      };
      slots = subst (λ (x : Option SlotState). IsSetAt row slot x (λ r s. slot_in (open_at columns r s)) (λ r s. slot_in (open_at (slice_set columns slot new) r s))) (ap slot_in h.now)
          (set_map slot_in row slot (cell_in new row) (open_at columns) (open_at (slice_set columns slot new)) set);
      pool = subst (λ (x : PoolCounts). ShowsWrite write shown h.opened.slot (pool_at columns slot) x) (sym (pool_here columns slot new in_slots)) h.pool_is;
      pools = λ s not. pool_other columns slot new s in_slots not;
      rest = h.rest;
    }
