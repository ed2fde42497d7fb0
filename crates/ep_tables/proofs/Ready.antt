-- What a step that can be made finds of its thread's row and its session, as the session's calls ask for it.
use Rattle.std.proofs.Common.{◌≡◌, ◌<◌, ℕ, false, Option, None, Some, refl, ap, sym, ◌∙◌, subst}
use Rattle.std.specs.Prelude.{is_some, option_map, slice_index_or, IsSome}
use Rattle.std.specs.BTreeMap.{get}
use Rattle.std.specs.Ordering.{nat_cmp}
use Rattle.std.proofs.lemmas.Bool.{false≢true}
use Rattle.std.proofs.lemmas.Option.{same_Some}
use Rattle.ep_defs.specs.declared.limits.TheConstants.{SESSION_THREADS}
use Rattle.ep_model.proofs.Lists.{none_is}
use Rattle.ep_row.specs.Row.{RowState, slot_of}
use Rattle.ep_slot.specs.Hand.{hand_of}
use Rattle.ep_stream.specs.Session.{hand_on, opened_count, WasOpened}
use Rattle.ep_rows.specs.declared.rows.Rows.{Rows}
use Rattle.ep_rows.specs.Rows.{told_of, expected_in}
use Rattle.ep_tables.specs.declared.tables.Present.{Present}
use Rattle.ep_tables.specs.declared.tables.Tables.{Tables}
use Rattle.ep_tables.specs.declared.judged.Judged.TheVariants as judged
use Rattle.ep_tables.specs.declared.judged.OnBoth.{OnBoth}
use Rattle.ep_tables.specs.Can.{HasRow, CanOpenOn, IsOn, HasEmptyHand}
use Rattle.ep_tables.specs.Judged.{IsReady}
use Rattle.ep_tables.specs.Made.{StandsAt}
use Rattle.ep_tables.specs.Tables.{row_of}
use Rattle.ep_tables.specs.Tied.{IsTied, AreTied}
use Rattle.ep_tables.proofs.Somewhere.{cell_on}
use Rattle.ep_tables.proofs.Turning.{stands_at, one_of, holds_at}

-- What holds of the row of a thread holds of the one that was found.
own_holds : (tables : Tables) (thread row : ℕ) (Holds : RowState → Type 0) → HasRow tables thread Holds → row_of tables thread ≡ Some row → Holds ((told_of tables.rows).row row)
own_holds tables thread row Holds can own = subst (λ (r : ℕ). Holds ((told_of tables.rows).row r)) (same_Some can.row row (sym can.own ∙ own)) can.holds

mapped : {A B : Type 0} (f : A → B) (o : Option A) → is_some (option_map f o) ≡ is_some o
mapped f None = refl
mapped f (Some x) = refl

hand_is : (rows : Rows) (was : Present) (row : ℕ) → IsTied rows was → is_some (hand_on was.session row) ≡ is_some (slot_of ((told_of rows).row row) was.slot)
hand_is rows was row tied =
    ap is_some (sym (tied.rows_are.hands row)) ∙ ap (λ (s : ℕ). is_some (expected_in rows row s)) tied.slot
    ∙ mapped hand_of ((told_of rows).slot row was.slot) ∙ sym (cell_on rows row was.slot)

-- A session that is open on a row has a hand of it.
hand_there : (rows : Rows) (was : Present) (row : ℕ) → IsTied rows was → IsOn was ((told_of rows).row row) → IsSome (hand_on was.session row)
hand_there rows was row tied on = hand_is rows was row tied ∙ on

-- One that can be opened on a row has none, has room for one more, and was never opened on the row's thread.
pub hand_off : (rows : Rows) (was : Present) (thread row : ℕ) → IsTied rows was → CanOpenOn thread was ((told_of rows).row row) → hand_on was.session row ≡ None
hand_off rows was thread row tied can = none_is (hand_on was.session row) (hand_is rows was row tied ∙ ap is_some can.off)

pub few_opened : (rows : Rows) (was : Present) (thread row : ℕ) → IsTied rows was → CanOpenOn thread was ((told_of rows).row row) → opened_count was.session < SESSION_THREADS
few_opened rows was thread row tied can = subst (λ (n : ℕ). n < SESSION_THREADS) (sym tied.count) can.few

pub never_opened : (rows : Rows) (was : Present) (thread row other : ℕ) → IsTied rows was → CanOpenOn thread was ((told_of rows).row row) → other ≡ thread → WasOpened was.session other → ⊥
never_opened rows was thread row other tied can same opened =
    let never = ap (λ (t : ℕ). is_some (get nat_cmp was.opened t)) same ∙ ap is_some can.never in
    false≢true (sym never ∙ tied.ever other opened)

-- ---- what a session's call on a thread's row finds

-- The session that takes what the row has pending: it has a hand of the row, and nothing in hand.
pub record Taking (tables : Tables) (both : OnBoth) (was : Present) : Type 0 where
  pub stands : StandsAt both.of.session tables both.of.place was
  pub tied : IsTied tables.rows was
  pub hand : IsSome (hand_on was.session both.on.row)
  pub empty : HasEmptyHand was

pub stealing : (tables : Tables) (both : OnBoth) (was : Present) → IsReady tables (judged.Steal both) → AreTied tables → was ≡ slice_index_or tables.present.items both.of.place was → Taking tables both was
stealing tables both was ready tied reads =
    let stands = stands_at tables both.of.session both.of.place was ready.there.of reads in
    let knows = one_of (IsTied tables.rows) tables.present.items both.of.place was tied.sessions stands.there in
    let can = holds_at tables both.of.session both.of.place was (λ (p : Present). HasRow tables both.on.thread (IsOn p) × HasEmptyHand p) ready.can stands in
    record {
      stands = stands;
      tied = knows;
      hand = hand_there tables.rows was both.on.row knows (own_holds tables both.on.thread both.on.row (IsOn was) can.0 ready.there.on.own);
      empty = can.1;
    }

pub closing : (tables : Tables) (both : OnBoth) (was : Present) → IsReady tables (judged.Close both) → AreTied tables → was ≡ slice_index_or tables.present.items both.of.place was → Taking tables both was
closing tables both was ready tied reads =
    let stands = stands_at tables both.of.session both.of.place was ready.there.of reads in
    let knows = one_of (IsTied tables.rows) tables.present.items both.of.place was tied.sessions stands.there in
    let can = holds_at tables both.of.session both.of.place was (λ (p : Present). HasRow tables both.on.thread (λ (row : RowState). IsOn p row × (row.in_write ≡ false)) × HasEmptyHand p) ready.can stands in
    let on = own_holds tables both.on.thread both.on.row (λ (row : RowState). IsOn was row × (row.in_write ≡ false)) can.0 ready.there.on.own in
    record { stands = stands; tied = knows; hand = hand_there tables.rows was both.on.row knows on.0; empty = can.1 }

-- The session that is opened on the row's thread.
pub record Opening (tables : Tables) (both : OnBoth) (was : Present) : Type 0 where
  pub stands : StandsAt both.of.session tables both.of.place was
  pub tied : IsTied tables.rows was
  pub can : CanOpenOn both.on.thread was ((told_of tables.rows).row both.on.row)

pub opening : (tables : Tables) (both : OnBoth) (was : Present) → IsReady tables (judged.Open both) → AreTied tables → was ≡ slice_index_or tables.present.items both.of.place was → Opening tables both was
opening tables both was ready tied reads =
    let stands = stands_at tables both.of.session both.of.place was ready.there.of reads in
    let can = holds_at tables both.of.session both.of.place was (λ (p : Present). HasRow tables both.on.thread (CanOpenOn both.on.thread p)) ready.can stands in
    record {
      stands = stands;
      tied = one_of (IsTied tables.rows) tables.present.items both.of.place was tied.sessions stands.there;
      can = own_holds tables both.on.thread both.on.row (CanOpenOn both.on.thread was) can ready.there.on.own;
    }
