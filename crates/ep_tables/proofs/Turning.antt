-- A step of one session changes that session at its place, and nothing else but rows.
use Rattle.std.proofs.Common.{◌≡◌, ℕ, zero, suc, ◌<◌, true, false, List, [], ◌∷◌, Option, None, Some, inl, inr, length, refl, ap, sym, ◌∙◌, subst, arith}
use Rattle.std.specs.Prelude.{◌==◌, if◌then◌else◌, is_some, slice_get, slice_set, slice_index_or, position}
use Rattle.std.specs.BTreeMap.{get}
use Rattle.std.specs.Ordering.{nat_cmp}
use Rattle.std.specs.List.{AllByRecursion}
use Rattle.std.proofs.lemmas.Bool.{eqb-true}
use Rattle.std.proofs.lemmas.Option.{slice_get_read, none-some, same_Some}
use Rattle.std.proofs.lemmas.List.Quantifiers.{position-Some}
use Rattle.ep_defs.specs.declared.session.Config.{Config}
use Rattle.ep_defs.specs.declared.session.Marks.{Marks}
use Rattle.ep_stream.specs.declared.session.Seat.{Seat}
use Rattle.ep_stream.specs.Rows.{KeepsSlots}
use Rattle.ep_stream.specs.Steps.{ToldRows, GivesBack}
use Rattle.ep_stream.specs.Sweep.{TellsGive}
use Rattle.ep_slot.specs.Hand.{HandState}
use Rattle.ep_stream.specs.Named.{with_marks}
use Rattle.ep_stream.specs.Session.{rest_of, hand_on, opened_count, fault_of, AreRowsOf, SameHands, SetsHand}
use Rattle.ep_rows.specs.declared.rows.Rows.{Rows}
use Rattle.ep_rows.specs.Rows.{told_of, definitions_of, configured_in, expected_in, out_in}
use Rattle.ep_tables.specs.declared.tables.Present.{Present}
use Rattle.ep_tables.specs.declared.tables.Tables.{Tables}
use Rattle.ep_tables.specs.Can.{HasPlace}
use Rattle.ep_tables.specs.Tables.{own_row}
use Rattle.ep_tables.specs.Made.{StandsAt, ChangesOne}
use Rattle.ep_tables.specs.Tied.{IsTied, AreTied}
use Rattle.ep_tables.proofs.Ties.{turn_tied, keeps_others}
use Rattle.ep_tables.proofs.Opened.{turn_now, hands_set, marks_set, of_hands, of_marks}

-- What is read at the place that was found is the session there.
pub stands_at : (tables : Tables) (session place : ℕ) (read : Present) → position (λ (p : Present). p.number == session) tables.present.items ≡ Some place → read ≡ slice_index_or tables.present.items place read → StandsAt session tables place read
stands_at tables session place read found reads =
    let at = position-Some (λ (p : Present). p.number == session) tables.present.items place read found in
    record { first = found; there = slice_get_read tables.present.items (length tables.present.items) place read refl at.0 reads }

-- What holds of all sessions holds of the one at a place.
pub one_of : (P : Present → Type 0) (ps : List Present) (place : ℕ) (p : Present) → AllByRecursion P ps → slice_get ps place ≡ Some p → P p
one_of P [] place p all is = absurd (none-some p is)
one_of P (q ∷ ps) zero p all is = subst P (same_Some q p is) all.0
one_of P (q ∷ ps) (suc place) p all is = one_of P ps place p all.1 is

-- The session at a place makes a step.
pub turn_made : (session place : ℕ) (Changes : Present → Present → ToldRows → ToldRows → Type 0) (old new : Tables) (was now : Present)
    → StandsAt session old place was → new.present.items ≡ slice_set old.present.items place now → now.number ≡ was.number → now.slot ≡ was.slot
    → (rest_of now.session).seat ≡ (rest_of was.session).seat → (rest_of now.session).config ≡ (rest_of was.session).config
    → Changes was now (told_of old.rows) (told_of new.rows)
    → new.events ≡ old.events → definitions_of new.rows ≡ definitions_of old.rows → new.threads ≡ old.threads → new.last_thread ≡ old.last_thread
    → new.table ≡ old.table → new.last_session ≡ old.last_session → new.begins ≡ old.begins → ChangesOne session Changes old new
turn_made session place Changes old new was now stands sessions number slot seat config changes events known threads last_thread table last_session begins =
    record {
      place = place;
      was = was;
      now = now;
      stands = stands;
      sessions = sessions;
      number = number;
      slot = slot;
      seat = seat;
      config = config;
      changes = changes;
      events = record { events = events; known = known };
      threads = record { threads = threads; last_thread = last_thread };
      slots = record { table = table; last_session = last_session };
      begins = begins;
    }

-- What was in hand is given back, where something was.
pub give_told : (slot seat in_hand : ℕ) (old new : Rows) → seat ≡ slot → (in_hand ≡ 0 → new ≡ old) → (0 < in_hand → GivesBack seat in_hand (told_of old) (told_of new))
    → TellsGive slot in_hand (Some (told_of old)) (Some (told_of new))
give_told slot seat zero old new same none some = ap (λ (r : Rows). Some (told_of r)) (none refl)
give_told slot seat (suc chunks) old new same none some = subst (λ (s : ℕ). GivesBack s (suc chunks) (told_of old) (told_of new)) same (some (omega arith))

-- ---- sessions and rows still know of each other

-- The session at a place makes a step, which leaves the slots of the others.
pub session_tied : (old new : Tables) (session place : ℕ) (was now : Present) → StandsAt session old place was → new.present.items ≡ slice_set old.present.items place now → now.slot ≡ was.slot
    → new.events.items ≡ old.events.items → new.table ≡ old.table → definitions_of new.rows ≡ definitions_of old.rows
    → KeepsSlots expected_in configured_in out_in (rest_of was.session).seat.slot old.rows new.rows → (IsTied old.rows was → IsTied new.rows now) → AreTied old → AreTied new
session_tied old new session place was now stands sessions slot events table known keeps ties h =
    let tied = one_of (IsTied old.rows) old.present.items place was h.sessions stands.there in
    turn_tied old new place was now stands.there sessions slot events table known
    (keeps_others old.rows new.rows was.slot (subst (λ (s : ℕ). KeepsSlots expected_in configured_in out_in s old.rows new.rows) tied.slot keeps)) (ties tied) h

-- A session whose hands and marks stay.
pub kept_now : (old new : Rows) (was now : Present) → now.number ≡ was.number → now.slot ≡ was.slot → now.opened ≡ was.opened → (rest_of now.session).seat ≡ (rest_of was.session).seat
    → opened_count now.session ≡ opened_count was.session → AreRowsOf expected_in configured_in out_in new now.session → fault_of now.session ≡ None
    → SameHands was.session now.session → (rest_of now.session).marks ≡ (rest_of was.session).marks → IsTied old was → IsTied new now
kept_now old new was now number slot opened seat count rows_are sound hands marks h =
    turn_now old new was now number slot opened seat count rows_are sound
    (λ r hand is. h.ever hand.thread (inl (r, hand, sym (hands r) ∙ is, refl)))
    (λ place mark is. h.ever mark.thread (inr (place, mark, ap (λ (ms : List Marks). slice_get ms place) (sym marks) ∙ is, refl)))
    h

-- The rows of a session are those of another with the same hands and configuration, and as much in hand.
pub rows_with : (rows : Rows) (was now : Present) → (rest_of now.session).seat ≡ (rest_of was.session).seat → (rest_of now.session).config ≡ (rest_of was.session).config
    → (rest_of now.session).in_hand ≡ (rest_of was.session).in_hand → SameHands was.session now.session → AreRowsOf expected_in configured_in out_in rows was.session → AreRowsOf expected_in configured_in out_in rows now.session
rows_with rows was now seat config in_hand hands h =
    let slot : (rest_of now.session).seat.slot ≡ (rest_of was.session).seat.slot = ap (λ (s : Seat). s.slot) seat in
    record {
      hands = λ row. ap (expected_in rows row) slot ∙ h.hands row ∙ sym (hands row);
      configs = λ row hand is. ap (configured_in rows row) slot ∙ h.configs row hand (sym (hands row) ∙ is) ∙ ap (λ (c : Config). Some c) (sym config);
      chunks = ap (out_in rows) slot ∙ h.chunks ∙ sym in_hand;
    }

-- Rows that stay leave all slots.
pub keeps_same : (rows : Rows) (slot : ℕ) → KeepsSlots expected_in configured_in out_in slot rows rows
keeps_same rows slot = record { hands = λ r s _. refl; configs = λ r s _. refl; chunks = λ s _. refl }

-- What was asked of a session's place holds of the session that stands there.
pub holds_at : (tables : Tables) (session place : ℕ) (was : Present) (Holds : Present → Type 0) → HasPlace tables session Holds → StandsAt session tables place was → Holds was
holds_at tables session place was Holds can stands =
    let at : can.place ≡ place = same_Some can.place place (sym can.first ∙ stands.first) in
    let there : can.present ≡ was = same_Some can.present was (sym can.there ∙ ap (slice_get tables.present.items) at ∙ stands.there) in
    subst Holds there can.holds

-- A session whose hand of a row is another of the same thread, and whose marks stay.
pub hand_now : (old new : Rows) (was now : Present) (row : ℕ) (hand next : HandState) → now.number ≡ was.number → now.slot ≡ was.slot → now.opened ≡ was.opened → (rest_of now.session).seat ≡ (rest_of was.session).seat
    → opened_count now.session ≡ opened_count was.session → AreRowsOf expected_in configured_in out_in new now.session → fault_of now.session ≡ None
    → SetsHand row (Some next) was.session now.session → hand_on was.session row ≡ Some hand → next.thread ≡ hand.thread → (rest_of now.session).marks ≡ (rest_of was.session).marks → IsTied old was → IsTied new now
hand_now old new was now row hand next number slot opened seat count rows_are sound sets held same marks h =
    let Known : ℕ → Type 0 = λ t. is_some (get nat_cmp was.opened t) ≡ true in
    turn_now old new was now number slot opened seat count rows_are sound
    (hands_set was.session now.session row (Some next) Known sets
    (λ x is. subst (λ (y : HandState). Known y.thread) (same_Some next x is) (subst Known (sym same) (h.ever hand.thread (inl (row, hand, held, refl)))))
    (of_hands was.session Known h.ever))
    (λ place mark is. h.ever mark.thread (inr (place, mark, ap (λ (ms : List Marks). slice_get ms place) (sym marks) ∙ is, refl)))
    h

-- A session that was closed on a row, with the marks of that row's thread.
pub closed_now : (old new : Rows) (was now : Present) (row : ℕ) (hand : HandState) (mark : Marks) → now.number ≡ was.number → now.slot ≡ was.slot → now.opened ≡ was.opened → (rest_of now.session).seat ≡ (rest_of was.session).seat
    → opened_count now.session ≡ opened_count was.session → AreRowsOf expected_in configured_in out_in new now.session → fault_of now.session ≡ None
    → SetsHand row None was.session now.session → hand_on was.session row ≡ Some hand → mark.thread ≡ hand.thread → (rest_of now.session).marks ≡ with_marks mark (rest_of was.session).marks → IsTied old was → IsTied new now
closed_now old new was now row hand mark number slot opened seat count rows_are sound sets held same marks h =
    let Known : ℕ → Type 0 = λ t. is_some (get nat_cmp was.opened t) ≡ true in
    turn_now old new was now number slot opened seat count rows_are sound
    (hands_set was.session now.session row None Known sets (λ x is. absurd (none-some x is)) (of_hands was.session Known h.ever))
    (λ place m is.
    marks_set mark (rest_of was.session).marks Known (subst Known (sym same) (h.ever hand.thread (inl (row, hand, held, refl)))) (of_marks was.session Known h.ever) place m
    (ap (λ (ms : List Marks). slice_get ms place) (sym marks) ∙ is))
    h

-- A row of a thread's own serves that thread.
pub own_thread : (told : ToldRows) (thread row : ℕ) (given : Option ℕ) → own_row told thread given ≡ Some row → (told.row row).thread ≡ thread
own_thread told thread row None is = absurd (cc)
own_thread told thread row (Some r) is =
    elim ((told.row r).thread == thread) as (λ v. ((told.row r).thread == thread) ≡ v → (if v then Some r else None) ≡ Some row → (told.row row).thread ≡ thread) [
      | true ↦ λ same e. subst (λ (n : ℕ). (told.row n).thread ≡ thread) (same_Some r row e) (eqb-true (told.row r).thread thread same)
      | false ↦ λ _ e. absurd (cc)
    ]
    refl is
