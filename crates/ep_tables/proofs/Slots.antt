-- What the slots of rows say of all sessions together.
use Rattle.std.proofs.Common.{◌≡◌, ℕ, zero, suc, ◌<◌, ◌≤◌, Bool, true, false, inl, inr, List, [], ◌∷◌, length, Option, Some, None, IfSome, IfNone, refl, ap, sym, ◌∙◌, arith}
use Rattle.std.specs.Prelude.{◌||◌, not, is_some, IsNone, slice_index_or, nat_le, ◌==◌}
use Rattle.std.specs.Int.{bit_at}
use Rattle.std.specs.List.{All, list_any, AllByRecursion}
use Rattle.std.specs.BTreeMap.{get}
use Rattle.std.specs.Ordering.{nat_cmp}
use Rattle.std.proofs.lemmas.Bool.{eqb-true, eq-eqb, le-leb, leb-true, and_from, and_right, or_left, or_right, or_from, false≢true, false_from_ne_true}
use Rattle.std.proofs.lemmas.Nat.Bits.{bit_at-zero, same_from_bits}
use Rattle.std.proofs.lemmas.List.Elements.{All-head, All-tail, All-from_get_or}
use Rattle.ep_defs.specs.declared.limits.TheConstants.{THREADS}
use Rattle.ep_defs.specs.declared.event.EventDef.{EventDef}
use Rattle.ep_model.specs.History.{Past, present, was_there, is_there, has_left, takes_row, rows, is_open, is_due}
use Rattle.ep_model.specs.Lawful.{has_due}
use Rattle.ep_model.proofs.Lists.{same_bools}
use Rattle.ep_row.specs.Row.{slot_of}
use Rattle.ep_row.proofs.Masks.{bit_zero}
use Rattle.ep_row.specs.declared.row.Opening.{Opening}
use Rattle.ep_stream.specs.Rows.{IsRow}
use Rattle.ep_rows.specs.Rows.{told_of}
use Rattle.ep_tables.specs.declared.tables.Present.{Present}
use Rattle.ep_tables.specs.declared.tables.Tables.{Tables}
use Rattle.ep_tables.specs.Tables.{TablesFollow, PresentFollows, PlaceFollows, IsGone, number_of, has_slot}
use Rattle.ep_tables.proofs.Taken.{none_free, some_free, Served}
use Rattle.ep_tables.proofs.Found.{list_any-map, RowFound}

-- ---- tests of lists

any_same : {A : Type 0} (P : A → Type 0) (f g : A → Bool) (xs : List A) → ((x : A) → P x → f x ≡ g x) → AllByRecursion P xs → list_any f xs ≡ list_any g xs
any_same P f g [] same all = refl
any_same P f g (x ∷ xs) same all = ap (λ b. b || list_any f xs) (same x all.0) ∙ ap (λ b. g x || b) (any_same P f g xs same all.1)

any_none : {A : Type 0} (f : A → Bool) (xs : List A) → ((x : A) → f x ≡ false) → list_any f xs ≡ false
any_none f [] none = refl
any_none f (x ∷ xs) none = or_from (f x) (list_any f xs) (none x) (any_none f xs none)

-- A session in this slot passes a test of slots that the slot passes.
any_slot : (q : ℕ → Bool) (slot : ℕ) (ps : List Present) → q slot ≡ true → has_slot slot ps ≡ true → list_any (λ (p : Present). q p.slot) ps ≡ true
any_slot q slot [] passes is = is
any_slot q slot (p ∷ ps) passes is =
    elim (p.slot == slot) as (λ v. (p.slot == slot) ≡ v → (v || has_slot slot ps) ≡ true → (q p.slot || list_any (λ (p : Present). q p.slot) ps) ≡ true) [
      | true ↦ λ same _. or_left (q p.slot) _ (ap q (eqb-true p.slot slot same) ∙ passes)
      | false ↦ λ _ h. or_right (q p.slot) _ (any_slot q slot ps passes h)
    ] refl is

-- ---- what is due

due_any : (due : ℕ) (ps : List Present) → ((slot : ℕ) → bit_at due slot ≡ 1 → has_slot slot ps ≡ true) → not (due == 0) ≡ list_any (λ (p : Present). bit_at due p.slot == 1) ps
due_any due ps known =
    same_bools _ _
    (λ some. elim (list_any (λ (p : Present). bit_at due p.slot == 1) ps) as (λ v. list_any (λ (p : Present). bit_at due p.slot == 1) ps ≡ v → v ≡ true) [
      | true ↦ λ _. refl
      | false ↦ λ none.
          let zeros : (slot : ℕ) → bit_at due slot ≡ bit_at 0 slot = λ slot.
          bit_zero due slot (λ one. false≢true (sym none ∙ any_slot (λ s. bit_at due s == 1) slot ps (eq-eqb (bit_at due slot) 1 one) (known slot one))) ∙ sym (bit_at-zero slot) in
          let nothing : due ≡ 0 = same_from_bits due 0 zeros in
          absurd (false≢true (sym (ap not (eq-eqb due 0 nothing)) ∙ some))
    ] refl)
    (λ some. elim (due == 0) as (λ v. (due == 0) ≡ v → not v ≡ true) [
      | true ↦ λ same.
          let nothing : due ≡ 0 = eqb-true due 0 same in
          let none : list_any (λ (p : Present). bit_at due p.slot == 1) ps ≡ false = any_none (λ (p : Present). bit_at due p.slot == 1) ps (λ p. ap (λ n. bit_at n p.slot == 1) nothing ∙ ap (λ n. n == 1) (bit_at-zero p.slot)) in
          absurd (false≢true (sym none ∙ some))
      | false ↦ λ _. refl
    ] refl)

pub has_due_found : (events : List EventDef) (past : Past) (tables : Tables) (thread row : ℕ) → TablesFollow events past tables → RowFound past tables thread row
    → not (((told_of tables.rows).row row).due == 0) ≡ has_due events thread past
has_due_found events past tables thread row h r =
    let told = told_of tables.rows in
    due_any (told.row row).due tables.present.items (λ slot one. h.due_known row slot r.is_row one)
    ∙ any_same (PresentFollows events past told) (λ (p : Present). bit_at (told.row row).due p.slot == 1) (λ (p : Present). is_due events p.number thread past) tables.present.items
    (λ p follows. (follows.rows row r.is_row).owed ∙ ap (λ t. is_due events p.number t past) r.thread_is) h.sessions
    ∙ sym (ap (list_any (λ s. is_due events s thread past)) h.present_are ∙ list_any-map (λ s. is_due events s thread past) number_of tables.present.items)

-- ---- what is open

open_any : (events : List EventDef) (past : Past) (tables : Tables) (row : ℕ) → TablesFollow events past tables → IsRow THREADS row
    → list_any (λ s. is_open s ((told_of tables.rows).row row).thread past) (present past) ≡ list_any (λ (p : Present). is_some (slot_of ((told_of tables.rows).row row) p.slot)) tables.present.items
open_any events past tables row h is_row =
    let told = told_of tables.rows in
    let thread = (told.row row).thread in
    ap (list_any (λ s. is_open s thread past)) h.present_are ∙ list_any-map (λ s. is_open s thread past) number_of tables.present.items
    ∙ any_same (PresentFollows events past told) (λ (p : Present). is_open p.number thread past) (λ (p : Present). is_some (slot_of (told.row row) p.slot)) tables.present.items
    (λ p follows. sym (follows.rows row is_row).on) h.sessions

pub none_at : (xs : List (Option Opening)) (slot : ℕ) → All IsNone xs → is_some (slice_index_or xs slot None) ≡ false
none_at [] slot all = refl
none_at (x ∷ xs) zero all = All-head IsNone x xs all
none_at (x ∷ xs) (suc slot) all = none_at xs slot (All-tail IsNone x xs all)

-- ---- rows that are taken

le_false : (n m : ℕ) → m < n → nat_le n m ≡ false
le_false n m less = false_from_ne_true (nat_le n m) (λ is. let most = leb-true n m is in absurd (omega (arith, most, less)))

-- The row is not free, so its thread takes it.
row_taken : (events : List EventDef) (past : Past) (tables : Tables) (row : ℕ) → TablesFollow events past tables → IsRow THREADS row
    → (((told_of tables.rows).row row).left ≡ true → All IsNone ((told_of tables.rows).row row).slots → ⊥) → takes_row ((told_of tables.rows).row row).thread past ≡ true
row_taken events past tables row h is_row not_free =
    let R = (told_of tables.rows).row row in
    let follows = h.rows row is_row in
    elim R.left as (λ v. R.left ≡ v → takes_row R.thread past ≡ true) [
      | false ↦ λ stays. or_left (is_there R.thread past) _ (and_from (was_there R.thread past) (not (has_left R.thread past)) follows.came (ap not (sym follows.gone ∙ stays)))
      | true ↦ λ left.
          elim (list_any (λ s. is_open s R.thread past) (present past)) as (λ v. list_any (λ s. is_open s R.thread past) (present past) ≡ v → takes_row R.thread past ≡ true) [
            | true ↦ λ some. or_right (is_there R.thread past) _ some
            | false ↦ λ none.
                let off : (slot : ℕ) → is_some (slot_of R slot) ≡ false = λ slot. false_from_ne_true (is_some (slot_of R slot)) (λ on.
                false≢true (sym none ∙ open_any events past tables row h is_row ∙ any_slot (λ s. is_some (slot_of R s)) slot tables.present.items on (h.on_known row slot is_row on))) in
                absurd (not_free left (All-from_get_or IsNone R.slots None (λ slot _. off slot)))
          ] refl
    ] refl

-- The row is free, so its thread takes none.
row_untaken : (events : List EventDef) (past : Past) (tables : Tables) (row : ℕ) → TablesFollow events past tables → IsRow THREADS row
    → ((told_of tables.rows).row row).left ≡ true → All IsNone ((told_of tables.rows).row row).slots → takes_row ((told_of tables.rows).row row).thread past ≡ false
row_untaken events past tables row h is_row left off =
    let R = (told_of tables.rows).row row in
    let follows = h.rows row is_row in
    or_from (is_there R.thread past) _ (and_right (was_there R.thread past) _ (ap not (sym follows.gone ∙ left)))
    (open_any events past tables row h is_row ∙ any_none (λ (p : Present). is_some (slot_of R p.slot)) tables.present.items (λ p. none_at R.slots p.slot off))

served_at : (events : List EventDef) (past : Past) (tables : Tables) (thread : ℕ) (given : Option ℕ) → TablesFollow events past tables → get nat_cmp tables.threads thread ≡ given → PlaceFollows past (told_of tables.rows) thread given
    → was_there thread past ≡ true → (IsGone thread past → ⊥) → Served (λ r. ((told_of tables.rows).row r).thread) thread
served_at events past tables thread None h is follows came stays = absurd (false≢true (sym follows ∙ came))
served_at events past tables thread (Some row) h is follows came stays =
    elim follows.1 [
      | inl same ↦ record { row = row; is_row = tables.given thread row is; own_is = same }
      | inr gone ↦ absurd (stays gone)
    ]

-- A thread that came and is not gone has a row.
pub served : (events : List EventDef) (past : Past) (tables : Tables) (thread : ℕ) → TablesFollow events past tables → was_there thread past ≡ true → (IsGone thread past → ⊥) → Served (λ r. ((told_of tables.rows).row r).thread) thread
served events past tables thread h came stays = served_at events past tables thread (get nat_cmp tables.threads thread) h refl (h.places thread) came stays

gone_untaken : (thread : ℕ) (past : Past) → IsGone thread past → takes_row thread past ≡ false
gone_untaken thread past gone =
    or_from (is_there thread past) _ (and_right (was_there thread past) _ (ap not gone.gone)) (any_none (λ s. is_open s thread past) (present past) gone.closed)

-- No row is free, so all are taken.
pub all_taken : (events : List EventDef) (past : Past) (tables : Tables) → TablesFollow events past tables
    → ((r : ℕ) → IsRow THREADS r → ((told_of tables.rows).row r).left ≡ true → All IsNone ((told_of tables.rows).row r).slots → ⊥) → THREADS ≤ length (rows past)
all_taken events past tables h none =
    none_free past (λ r. ((told_of tables.rows).row r).thread) (get nat_cmp tables.threads) h.place_of (λ r at. (h.rows r at).came) (λ r at. row_taken events past tables r h at (none r at))

-- No row is free exactly where all are taken.
pub full_found : (events : List EventDef) (past : Past) (tables : Tables) (found : Option ℕ) (full : Bool) → TablesFollow events past tables
    → IfSome found (λ row. IsRow THREADS row) → IfSome found (λ row. ((told_of tables.rows).row row).left ≡ true) → IfSome found (λ row. All IsNone ((told_of tables.rows).row row).slots)
    → IfNone found ((r : ℕ) → IsRow THREADS r → ((told_of tables.rows).row r).left ≡ true → All IsNone ((told_of tables.rows).row r).slots → ⊥)
    → is_some found ≡ not full → full ≡ nat_le THREADS (length (rows past))
full_found events past tables None true h is_row left off none is =
    sym (le-leb THREADS (length (rows past)) (all_taken events past tables h none))
full_found events past tables None false h is_row left off none is = absurd (false≢true is)
full_found events past tables (Some row) false h is_row left off none is =
    sym (le_false THREADS (length (rows past)) (some_free events past (λ r. ((told_of tables.rows).row r).thread) (get nat_cmp tables.threads) row h.lawful h.place_of
    (λ t came takes. served events past tables t h came (λ gone. false≢true (sym (gone_untaken t past gone) ∙ takes))) is_row (row_untaken events past tables row h is_row left off)))
full_found events past tables (Some row) true h is_row left off none is = absurd (false≢true (sym is))
