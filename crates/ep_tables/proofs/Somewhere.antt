-- Whether a session is open on some thread.
use Rattle.std.proofs.Common.{◌≡◌, ℕ, zero, suc, ◌↔◌, Bool, true, false, inl, inr, List, [], ◌∷◌, Option, Some, None, IsTrue, refl, ap, sym, ◌∙◌, arith}
use Rattle.std.specs.Prelude.{◌⊎◌, ◌||◌, not, is_some, option_map, nat_le}
use Rattle.std.specs.List.{list_any}
use Rattle.std.proofs.lemmas.Bool.{leb-true, leb-false, false≢true, false_from_ne_true}
use Rattle.ep_defs.specs.declared.limits.TheConstants.{THREADS}
use Rattle.ep_defs.specs.declared.event.EventDef.{EventDef}
use Rattle.ep_model.specs.History.{Past, opened, is_open}
use Rattle.ep_model.specs.Lawful.{is_open_somewhere}
use Rattle.ep_model.proofs.Sessions.{open_somewhere}
use Rattle.ep_model.proofs.Lists.{same_bools, none_is}
use Rattle.ep_slot.specs.Hand.{hand_of}
use Rattle.ep_row.specs.Row.{slot_of, opening_of}
use Rattle.ep_stream.specs.Rows.{IsRow}
use Rattle.ep_rows.specs.declared.rows.Rows.{Rows}
use Rattle.ep_rows.specs.declared.opened.Open.{Open}
use Rattle.ep_rows.specs.Told.{open_at}
use Rattle.ep_rows.specs.Rows.{told_of}
use Rattle.ep_rows.specs.Outside.{none_outside}
use Rattle.ep_tables.specs.declared.tables.Present.{Present}
use Rattle.ep_tables.specs.declared.tables.Tables.{Tables}
use Rattle.ep_tables.specs.Tables.{TablesFollow}
use Rattle.ep_tables.proofs.Pasts.{open_there}
use Rattle.ep_tables.proofs.Found.{SessionFound}
use Rattle.ep_tables.proofs.Slots.{served}

some_map : {A B C : Type 0} (f : A → B) (g : A → C) (o : Option A) → is_some (option_map f o) ≡ is_some (option_map g o)
some_map f g None = refl
some_map f g (Some x) = refl

none_mapped : {A B : Type 0} (f : A → B) (o : Option A) → option_map f o ≡ None → o ≡ None
none_mapped f None is = refl
none_mapped f (Some x) is = cc

-- A row and its slots say alike whether a session is open.
pub cell_on : (set : Rows) (r s : ℕ) → is_some (slot_of ((told_of set).row r) s) ≡ is_some ((told_of set).slot r s)
cell_on set r s = ap is_some (set.known r s).on ∙ some_map (λ (o : Open). opening_of o.slot) (λ (o : Open). o.slot) (open_at set.columns.items r s)

row_or : (r : ℕ) → IsRow THREADS r ⊎ (IsRow THREADS r → ⊥)
row_or zero = inr (λ at. absurd (omega (arith, at.0)))
row_or (suc n) =
    elim (nat_le (suc n) THREADS) as (λ v. nat_le (suc n) THREADS ≡ v → IsRow THREADS (suc n) ⊎ (IsRow THREADS (suc n) → ⊥)) [
      | true ↦ λ is. let most = leb-true (suc n) THREADS is in inl (omega arith, most)
      | false ↦ λ is. let high = leb-false (suc n) THREADS is in inr (λ at. absurd (omega (arith, high, at.1)))
    ] refl

-- One that passes a test.
record Passing (p : ℕ → Bool) : Type 0 where
  item : ℕ
  passes : p item ≡ true

some_passing : (p : ℕ → Bool) (xs : List ℕ) → list_any p xs ≡ true → Passing p
some_passing p [] is = absurd (false≢true is)
some_passing p (x ∷ xs) is =
    elim (p x) as (λ v. p x ≡ v → (v || list_any p xs) ≡ true → Passing p) [
      | true ↦ λ here _. record { item = x; passes = here }
      | false ↦ λ _ h. some_passing p xs h
    ] refl is

pub somewhere_found : (events : List EventDef) (past : Past) (tables : Tables) (session : ℕ) (present : Present) (nowhere : Bool) → TablesFollow events past tables → SessionFound events past tables session present
    → (IsTrue nowhere ↔ ((r : ℕ) → (told_of tables.rows).slot r present.slot ≡ None)) → not nowhere ≡ is_open_somewhere session past
somewhere_found events past tables session present nowhere h s is =
    let told = told_of tables.rows in
    let on : (r : ℕ) → IsRow THREADS r → is_some (told.slot r present.slot) ≡ is_open session (told.row r).thread past = λ r at.
    sym (cell_on tables.rows r present.slot) ∙ (s.follows.rows r at).on ∙ ap (λ n. is_open n (told.row r).thread past) s.number in
    let off : is_open_somewhere session past ≡ false → (r : ℕ) → told.slot r present.slot ≡ None = λ none r.
    elim (row_or r) [
      | inl at ↦ none_is (told.slot r present.slot) (false_from_ne_true (is_some (told.slot r present.slot)) (λ here. false≢true (sym none ∙ open_somewhere session (told.row r).thread past (sym (on r at) ∙ here))))
      | inr not ↦ none_mapped hand_of (told.slot r present.slot) (none_outside tables.rows r present.slot not)
    ] in
    same_bools (not nowhere) (is_open_somewhere session past)
    (λ some. elim (is_open_somewhere session past) as (λ v. is_open_somewhere session past ≡ v → v ≡ true) [
      | true ↦ λ _. refl
      | false ↦ λ none. absurd (false≢true (sym (ap not (is.1 (off none))) ∙ some))
    ] refl)
    (λ some. elim nowhere as (λ v. nowhere ≡ v → not v ≡ true) [
      | false ↦ λ _. refl
      | true ↦ λ none.
          let w = some_passing (λ t. is_open session t past) (opened session past) some in
          let there = open_there events session w.item past h.lawful w.passes in
          let row = served events past tables w.item h there (λ gone. false≢true (sym (gone.closed session) ∙ w.passes)) in
          absurd (false≢true (sym (ap is_some (is.0 none row.row)) ∙ on row.row row.is_row ∙ ap (λ t. is_open session t past) row.own_is ∙ w.passes))
    ] refl)
