-- What holds of a session's stream after each call.
use Rattle.std.proofs.Common.{◌≡◌, ◌∙◌, ◌⊎◌, inl, inr, ℕ, ◌+◌, ◌-◌, ◌<◌, ◌≤◌, true, false, List, [], ◌∷◌, Option, None, Some, length, sym, ap, subst, arith}
use Rattle.std.specs.Prelude.{Bool, ◌==◌, ◌&&◌, if◌then◌else◌, nat_lt, Result}
use Rattle.std.specs.List.{AllByRecursion}
use Rattle.std.specs.Option.{option_map_or}
use Rattle.std.proofs.lemmas.Bool.{and_parts, eqb-true, ltb-true, or_cases}
use Rattle.ep_defs.specs.declared.limits.TheConstants.{SESSION_THREADS}
use Rattle.ep_defs.specs.declared.event.EventDef.{EventDef}
use Rattle.ep_defs.specs.declared.session.Config.{Config}
use Rattle.ep_defs.specs.declared.session.Marks.{Marks}
use Rattle.ep_defs.specs.declared.session.Write.{Write}
use Rattle.ep_model.specs.History.{insert_ascending}
use Rattle.ep_chunk.specs.Record.{Record}
use Rattle.ep_slot.specs.Hand.{HandState}
use Rattle.nt_write.specs.declared.fault.Fault.{Fault}
use Rattle.pt_io.specs.declared.sink.Sink.{Ghosts as Sink}
use Rattle.ep_guarded.specs.Tied.{thread_of}
use Rattle.ep_stream.specs.declared.session.Seat.{Seat}
use Rattle.ep_stream.specs.declared.session.Session.{Session}
use Rattle.ep_stream.specs.Named.{insert_by, with_marks}
use Rattle.ep_stream.specs.Rows.{CountsRefused, KeepsSlots, StillAttaches}
use Rattle.ep_stream.specs.Session.{AreRowsOf, Attached, Detached, Rest, SameHands, hand_on, opened_count, rest_of, writer_of}
use Rattle.ep_stream.specs.Sweep.{Swept, Taking}
use Rattle.ep_stream.specs.Telling.{IsFaulty}
use Rattle.ep_live.specs.RowSet.{LiveRowsState, configured_in, expected_in, life_at, out_in, tests_hand_in}
use Rattle.ep_live_laws.specs.Calls.{OpensOn, TellsMore, TellsSame}
use Rattle.ep_live_laws.specs.Tracing.{IsOneOf, Watch}
use Rattle.ep_live_laws.proofs.Accounts.{one-here, one-more}
use Rattle.pt_stream.specs.declared.place.Place.{Place}
use Rattle.pt_stream.specs.Setting.{Setting, watch_of}
use Rattle.pt_stream.specs.State.{place_at, stays_early, with_place}
use Rattle.pt_stream.specs.End.{IsFromFirst}
use Rattle.pt_stream.specs.Kept.{HasTold, IsEarlyOn, IsFirstHand, IsKept}
use Rattle.pt_stream.proofs.Lives.{first-of, home-row, later-above}
use Rattle.pt_stream.proofs.Places.{by-row, place-other}
use Rattle.pt_stream.proofs.Served.{fresh-thread, opened_place, served-opened, served-same}
use Rattle.pt_stream.proofs.Hands.{hand-shut, next-closed, places-closed, places-opened, places-same, places-swept, set-here, set-other, shut_place, swept-hand}
use Rattle.pt_stream.proofs.Told.{told-more, told-same}
use Rattle.pt_stream.proofs.Rows.{can_attach, its-after, its-moved, spent-after, spent-same}

-- ---- an early session

stands-first : (stands : Option ℕ) → option_map_or (λ index. index == 0) stands false ≡ true → stands ≡ Some 0
stands-first None is = cc
stands-first (Some index) is = ap Some (eqb-true index 0 is)

-- An opening that leaves it early was one on a row where it was opened before, or in the first life before the first write.
early-cases : (stands : Option ℕ) (place : Place) (life : ℕ) → stays_early stands place life ≡ true → (0 < place.next) ⊎ ((life ≡ 0) × (stands ≡ Some 0))
early-cases stands place life is =
    elim (or_cases (nat_lt 0 place.next) ((life == 0) && option_map_or (λ index. index == 0) stands false) is) [
      | inl before ↦ inl (ltb-true 0 place.next before)
      | inr first ↦
          let all = and_parts (life == 0) (option_map_or (λ index. index == 0) stands false) first in
          inr (eqb-true life 0 all.0, stands-first stands all.1)
    ]

first-hand : (rows row life : ℕ) (place : Place) (stands : Option ℕ) (hand : HandState) → place.next ≤ life → hand.thread ≡ thread_of rows (row - 1) life
    → ((index : ℕ) → stands ≡ Some index → hand.from ≡ index) → (0 < place.next) ⊎ ((life ≡ 0) × (stands ≡ Some 0)) → IsFirstHand rows (Some hand)
first-hand rows row life place stands hand later thread from (inl before) low =
    let above = later-above rows (row - 1) life (omega (arith, later, before)) in
    absurd (omega (arith, above, low, thread))
first-hand rows row life place stands hand later thread from (inr first) low = from 0 first.1

-- It has the first thread of the row that was opened.
has-first : (rows row life : ℕ) (place : Place) (stands : Option ℕ) (opened : List ℕ) → 0 < row → (0 < place.next → IsOneOf opened row) → (0 < place.next) ⊎ ((life ≡ 0) × (stands ≡ Some 0))
    → IsOneOf (insert_ascending (thread_of rows (row - 1) life) opened) row
has-first rows row life place stands opened some before (inl was) = one-more (thread_of rows (row - 1) life) row opened (before was)
has-first rows row life place stands opened some before (inr first) =
    let own : thread_of rows (row - 1) life ≡ row = ap (λ (l : ℕ). thread_of rows (row - 1) l) first.0 ∙ first-of rows row some in
    subst (λ (t : ℕ). IsOneOf (insert_ascending (thread_of rows (row - 1) life) opened) t) own (one-here (thread_of rows (row - 1) life) opened)

early-opened : {S : Type 0} (rows row life : ℕ) (places : List Place) (opened : List ℕ) (stands : Option ℕ) (old new : Session S) (hand : HandState) → 0 < row → row ≤ rows → length places ≡ rows → (place_at places row).next ≤ life
    → hand.thread ≡ thread_of rows (row - 1) life → ((index : ℕ) → stands ≡ Some index → hand.from ≡ index)
    → ((r : ℕ) → hand_on new r ≡ (if r == row then Some hand else hand_on old r)) → (rest_of new).marks ≡ (rest_of old).marks
    → stays_early stands (place_at places row) life ≡ true → IsEarlyOn rows places opened old
    → IsEarlyOn rows (with_place row (opened_place life) places) (insert_ascending (thread_of rows (row - 1) life) opened) new
early-opened rows row life places opened stands old new hand some within count later thread from sets marks stays e =
    let cases = early-cases stands (place_at places row) life stays in
    record {
      first = λ r there up.
          by-row (IsOneOf (insert_ascending (thread_of rows (row - 1) life) opened) r) r row
          (λ is. subst (λ (x : ℕ). IsOneOf (insert_ascending (thread_of rows (row - 1) life) opened) x) (sym is) (has-first rows row life (place_at places row) stands opened some (e.first row some) cases))
          (λ not. one-more (thread_of rows (row - 1) life) r opened (e.first r there (subst (λ (p : Place). 0 < p.next) (place-other places row r (opened_place life) some there not) up)));
      hands = λ r.
          by-row (IsFirstHand rows (hand_on new r)) r row
          (λ is. subst (IsFirstHand rows) (sym (set-here row (Some hand) (hand_on old) (hand_on new) sets r is)) (first-hand rows row life (place_at places row) stands hand later thread from cases))
          (λ not. subst (IsFirstHand rows) (sym (set-other row (Some hand) (hand_on old) (hand_on new) sets r not)) (e.hands r));
      marks = subst (AllByRecursion (IsFromFirst rows)) (sym marks) e.marks;
    }

-- What holds of all marks, and of those of one thread more, holds of all of them.
pub marks-more : (Q : Marks → Type 0) (mark : Marks) (marks : List Marks) → Q mark → AllByRecursion Q marks → AllByRecursion Q (with_marks mark marks)
marks-more Q mark [] here all = (here, tt)
marks-more Q mark (m ∷ marks) here all =
    elim (nat_lt mark.thread m.thread) as (λ v. AllByRecursion Q (if v then mark ∷ m ∷ marks else m ∷ insert_by (λ x. x.thread) mark marks)) [
      | true ↦ (here, all)
      | false ↦ (all.0, marks-more Q mark marks here all.1)
    ]

early-closed : {S : Type 0} (rows row : ℕ) (places : List Place) (opened : List ℕ) (old new : Session S) (hand : HandState) (mark : Marks) → 0 < row → row ≤ rows → length places ≡ rows
    → hand_on old row ≡ Some hand → mark.thread ≡ hand.thread → mark.from ≡ hand.from
    → ((r : ℕ) → hand_on new r ≡ (if r == row then None else hand_on old r)) → (rest_of new).marks ≡ with_marks mark (rest_of old).marks
    → IsEarlyOn rows places opened old → IsEarlyOn rows (with_place row (shut_place (place_at places row)) places) opened new
early-closed rows row places opened old new hand mark some within count was thread from sets marks e =
    let own : IsFirstHand rows (Some hand) = subst (IsFirstHand rows) was (e.hands row) in
    record {
      first = λ r there up. e.first r there (subst (λ (n : ℕ). 0 < n) (next-closed rows row places some within count r there) up);
      hands = λ r.
          by-row (IsFirstHand rows (hand_on new r)) r row
          (λ is. subst (IsFirstHand rows) (sym (set-here row None (hand_on old) (hand_on new) sets r is)) tt)
          (λ not. subst (IsFirstHand rows) (sym (set-other row None (hand_on old) (hand_on new) sets r not)) (e.hands r));
      marks = subst (AllByRecursion (IsFromFirst rows)) (sym marks)
          (marks-more (IsFromFirst rows) mark (rest_of old).marks (λ low. from ∙ own (subst (λ (t : ℕ). t ≤ rows) thread low)) e.marks);
    }

early-same : {S : Type 0} (rows : ℕ) (places : List Place) (opened : List ℕ) (old new : Session S) → ((row : ℕ) → IsFirstHand rows (hand_on old row) → IsFirstHand rows (hand_on new row)) → (rest_of new).marks ≡ (rest_of old).marks
    → IsEarlyOn rows places opened old → IsEarlyOn rows places opened new
early-same rows places opened old new hands marks e =
    record { first = e.first; hands = λ r. hands r (e.hands r); marks = subst (AllByRecursion (IsFromFirst rows)) (sym marks) e.marks }

-- ---- tests

-- A session that was closed on a row passed a weaker test too.
pub detached-weaker : {S : Type 0} (Tested : ℕ → ℕ → ℕ → Write → Type 0) (Strict Marked : Marks → Type 0) (Told : List Record → ℕ → ℕ → Marks → Type 0) (Wrote : List Record → Type 0) (events : List EventDef) (row : ℕ) (old new : Session S)
    → ((marks : Marks) → Strict marks → Marked marks) → Detached Tested Strict Told Wrote events row old new → Detached Tested Marked Told Wrote events row old new
detached-weaker Tested Strict Marked Told Wrote events row old new weaker d =
    record {
      hand = d.hand;
      records = d.records;
      last = d.last;
      chunks = d.chunks;
      marks = d.marks;
      was = d.was;
      batched = d.batched;
      marked = d.marked;
      tested_marks = weaker d.marks d.tested_marks;
      told = d.told;
      writes = d.writes;
      hands = d.hands;
      rest = d.rest;
    }

-- ---- all of it

module _ {S : Type 0} (side : Sink S) (rows : ℕ) (events : List EventDef) (writes : ℕ → List Write) (setting : Setting) where
  -- What was told of a session is told of it with the configuration that it has.
  told-as : (id : ℕ) (opened : List ℕ) (session : Session S) (config now : Config) → now ≡ config
      → HasTold side (watch_of rows events writes setting config id) (setting.faults id) opened session → HasTold side (watch_of rows events writes setting now id) (setting.faults id) opened session
  told-as id opened session config now is told =
      subst (λ (c : Config). HasTold side (watch_of rows events writes setting c id) (setting.faults id) opened session) (sym is) told

  -- The rows expect another life of a row, or lend the threads' halves or have them back.
  pub kept-moved : (openings : ℕ) (set : LiveRowsState) (session : Session S) (seat : Seat) (places : List Place) (early : Bool) (stands ends : Option ℕ) (lives : List ℕ)
      → IsKept side rows events writes setting set session openings seat places early → IsKept side rows events writes setting (record set { stands = stands; lives = lives; ends = ends }) session openings seat places early
  kept-moved openings set session seat places early stands ends lives k =
      record {
        seat_is = k.seat_is;
        count = k.count;
        few = k.few;
        rows_are = its-moved rows set session stands ends lives k.rows_are;
        empty = k.empty;
        places_are = k.places_are;
        opened = k.opened;
        served = k.served;
        early_is = k.early_is;
        told = k.told;
      }

  -- The session was opened on a row.
  pub kept-opened : (row life openings : ℕ) (old_set new_set : LiveRowsState) (old new : Session S) (seat : Seat) (places : List Place) (early : Bool) (stands : Option ℕ)
      → 0 < row → row ≤ rows → life < setting.lives → openings < SESSION_THREADS → (place_at places row).next ≤ life → (place_at places row).is_open ≡ false
      → life_at old_set row ≡ life → old_set.stands ≡ stands
      → ((watch : Watch) (opened : List ℕ) (thread : ℕ) → OpensOn watch opened thread old new → TellsSame side watch opened (insert_ascending thread opened) old new)
      → Attached (tests_hand_in rows old_set row) row old new → opened_count new ≡ opened_count old + 1 → writer_of new ≡ writer_of old
      → AreRowsOf expected_in configured_in out_in new_set new → Some new_set.seat.dry ≡ Some old_set.seat.dry → length new_set.halves ≡ length old_set.halves
      → StillAttaches (can_attach old_set) (can_attach new_set) → KeepsSlots expected_in configured_in out_in (rest_of old).seat.slot old_set new_set
      → IsKept side rows events writes setting old_set old openings seat places early
      → IsKept side rows events writes setting new_set new (openings + 1) seat (with_place row (opened_place life) places) (early && stays_early stands (place_at places row) life)
  kept-opened row life openings old_set new_set old new seat places early stands some within few room later off life_is stands_are law a counted writer own dry long still slots k =
      let thread = thread_of rows (row - 1) life in
      let watch = watch_of rows events writes setting (rest_of old).config seat.id in
      let thread_is : a.hand.thread ≡ thread_of rows (row - 1) life = a.tested.0 ∙ ap (λ (l : ℕ). thread_of rows (row - 1) l) life_is in
      let home = home-row rows row life some within in
      let shut = hand-shut rows row (place_at places row) (hand_on old row) (k.places_are.hands_are row some) off in
      let weaker : Attached (λ hand. hand.thread ≡ thread_of rows (row - 1) life) row old new =
      record { hand = a.hand; fresh = a.fresh; tested = thread_is; hands = a.hands; rest = a.rest }
      in
      let opens : OpensOn watch k.opened thread old new =
      record {
        fresh = fresh-thread rows row life places k.opened some within later k.served;
        shut = ap (hand_on old) home ∙ shut;
        attached = subst (λ (r : ℕ). Attached (λ hand. hand.thread ≡ thread_of rows (row - 1) life) r old new) (sym home) weaker;
        writer = writer;
      }
      in
      let told = told-same side watch (setting.faults seat.id) k.opened (insert_ascending thread k.opened) old new (law watch k.opened thread opens) writer k.told in
      let marks = ap (λ (r : Rest). r.marks) a.rest in
      let config = ap (λ (r : Rest). r.config) a.rest in
      record {
        seat_is = ap (λ (r : Rest). r.seat) a.rest ∙ k.seat_is;
        count = counted ∙ ap (λ (n : ℕ). n + 1) k.count;
        few = omega (arith, room);
        rows_are = its-after rows old_set new_set old new k.rows_are still (ap (λ (r : Rest). r.seat) a.rest) config own long slots
            (spent-same old_set new_set (rest_of old).marks (rest_of new).marks dry marks k.rows_are.spent);
        empty = ap (λ (r : Rest). r.in_hand) a.rest ∙ k.empty;
        places_are = places-opened rows setting.lives row life places (hand_on old) (hand_on new) a.hand some within few thread_is a.hands k.places_are;
        opened = insert_ascending thread k.opened;
        served = served-opened rows row life places k.opened some within k.places_are.count later told.tracing.traces.keeps.ascending k.served;
        early_is = λ is.
            let all = and_parts early (stays_early stands (place_at places row) life) is in
            early-opened rows row life places k.opened stands old new a.hand some within k.places_are.count later thread_is (λ index at. a.tested.1 index (stands_are ∙ at)) a.hands marks all.1 (k.early_is all.0);
        told = told-as seat.id (insert_ascending thread k.opened) new (rest_of old).config (rest_of new).config config told;
      }

  -- The session has the hands and the writer that it had, and what else it was.
  pub kept-same : (openings : ℕ) (old_set new_set : LiveRowsState) (old new : Session S) (seat : Seat) (places : List Place) (early : Bool)
      → ((watch : Watch) (opened : List ℕ) → TellsSame side watch opened opened old new)
      → SameHands old new → rest_of new ≡ rest_of old → opened_count new ≡ opened_count old → writer_of new ≡ writer_of old
      → AreRowsOf expected_in configured_in out_in new_set new → Some new_set.seat.dry ≡ Some old_set.seat.dry → length new_set.halves ≡ length old_set.halves
      → StillAttaches (can_attach old_set) (can_attach new_set) → KeepsSlots expected_in configured_in out_in (rest_of old).seat.slot old_set new_set
      → IsKept side rows events writes setting old_set old openings seat places early → IsKept side rows events writes setting new_set new openings seat places early
  kept-same openings old_set new_set old new seat places early law hands rest counted writer own dry long still slots k =
      let watch = watch_of rows events writes setting (rest_of old).config seat.id in
      let marks = ap (λ (r : Rest). r.marks) rest in
      let config = ap (λ (r : Rest). r.config) rest in
      record {
        seat_is = ap (λ (r : Rest). r.seat) rest ∙ k.seat_is;
        count = counted ∙ k.count;
        few = k.few;
        rows_are = its-after rows old_set new_set old new k.rows_are still (ap (λ (r : Rest). r.seat) rest) config own long slots
            (spent-same old_set new_set (rest_of old).marks (rest_of new).marks dry marks k.rows_are.spent);
        empty = ap (λ (r : Rest). r.in_hand) rest ∙ k.empty;
        places_are = places-same rows setting.lives places (hand_on old) (hand_on new) hands k.places_are;
        opened = k.opened;
        served = k.served;
        early_is = λ is. early-same rows places k.opened old new (λ row h. subst (IsFirstHand rows) (sym (hands row)) h) marks (k.early_is is);
        told = told-as seat.id k.opened new (rest_of old).config (rest_of new).config config (told-same side watch (setting.faults seat.id) k.opened k.opened old new (law watch k.opened) writer k.told);
      }

  -- The session was swept.
  pub kept-swept : (openings count : ℕ) (old_set new_set : LiveRowsState) (old new : Session S) (seat : Seat) (places : List Place) (early : Bool) (Tested : ℕ → ℕ → ℕ → Write → Type 0) (Told Wrote : List Taking → Type 0) (given : List EventDef) (result : Result ℕ Fault)
      → TellsMore side (watch_of rows events writes setting (rest_of old).config seat.id) old new
      → Swept Tested Told Wrote given count old new result → IsFaulty side.write_faults (writer_of old) (writer_of new) result → opened_count new ≡ opened_count old
      → AreRowsOf expected_in configured_in out_in new_set new → Some new_set.seat.dry ≡ Some old_set.seat.dry → length new_set.halves ≡ length old_set.halves
      → StillAttaches (can_attach old_set) (can_attach new_set) → KeepsSlots expected_in configured_in out_in (rest_of old).seat.slot old_set new_set
      → IsKept side rows events writes setting old_set old openings seat places early → IsKept side rows events writes setting new_set new openings seat places early
  kept-swept openings count old_set new_set old new seat places early Tested Told Wrote given result law s faulty counted own dry long still slots k =
      let watch = watch_of rows events writes setting (rest_of old).config seat.id in
      let marks = ap (λ (r : Rest). r.marks) s.rest in
      let config = ap (λ (r : Rest). r.config) s.rest in
      record {
        seat_is = ap (λ (r : Rest). r.seat) s.rest ∙ k.seat_is;
        count = counted ∙ k.count;
        few = k.few;
        rows_are = its-after rows old_set new_set old new k.rows_are still (ap (λ (r : Rest). r.seat) s.rest) config own long slots
            (spent-same old_set new_set (rest_of old).marks (rest_of new).marks dry marks k.rows_are.spent);
        empty = ap (λ (r : Rest). r.in_hand) s.rest;
        places_are = places-swept rows setting.lives places (hand_on old) (hand_on new) s.takings s.were s.hands k.places_are;
        opened = k.opened;
        served = k.served;
        early_is = λ is.
            early-same rows places k.opened old new
            (λ row h. subst (IsFirstHand rows) (sym (s.hands row)) (swept-hand (IsFirstHand rows) (λ hand records last chunks x. x) row (hand_on old) (hand_on old) s.takings s.were h h))
            marks (k.early_is is);
        told = told-as seat.id k.opened new (rest_of old).config (rest_of new).config config (told-more side watch (setting.faults seat.id) k.opened old new result law faulty k.told);
      }

  -- The session was closed on a row, and gave back what it took there.
  pub kept-closed : {A : Type 0} (row openings : ℕ) (old_set mid_set new_set : LiveRowsState) (old mid new : Session S) (seat : Seat) (places : List Place) (early : Bool)
      (Tested : ℕ → ℕ → ℕ → Write → Type 0) (TestedMarks : Marks → Type 0) (Told : List Record → ℕ → ℕ → Marks → Type 0) (Wrote : List Record → Type 0) (given : List EventDef) (result : Result A Fault)
      → 0 < row → row ≤ rows
      → TellsMore side (watch_of rows events writes setting (rest_of old).config seat.id) old mid
      → ((watch : Watch) (opened : List ℕ) → TellsSame side watch opened opened mid new)
      → Detached Tested TestedMarks Told Wrote given row old mid → IsFaulty side.write_faults (writer_of old) (writer_of mid) result → opened_count mid ≡ opened_count old
      → AreRowsOf expected_in configured_in out_in mid_set mid → (CountsRefused (Some old_set.seat.dry) (rest_of old).marks → CountsRefused (Some mid_set.seat.dry) (rest_of mid).marks) → length mid_set.halves ≡ length old_set.halves
      → StillAttaches (can_attach old_set) (can_attach mid_set) → KeepsSlots expected_in configured_in out_in (rest_of old).seat.slot old_set mid_set
      → SameHands mid new → rest_of new ≡ record (rest_of mid) { in_hand = 0 } → opened_count new ≡ opened_count mid → writer_of new ≡ writer_of mid
      → AreRowsOf expected_in configured_in out_in new_set new → Some new_set.seat.dry ≡ Some mid_set.seat.dry → length new_set.halves ≡ length mid_set.halves
      → StillAttaches (can_attach mid_set) (can_attach new_set) → KeepsSlots expected_in configured_in out_in (rest_of mid).seat.slot mid_set new_set
      → IsKept side rows events writes setting old_set old openings seat places early → IsKept side rows events writes setting new_set new openings seat (with_place row (shut_place (place_at places row)) places) early
  kept-closed row openings old_set mid_set new_set old mid new seat places early Tested TestedMarks Told Wrote given result some within law give d faulty counted own refused long still slots hands rest counted_new writer own_new dry long_new still_new slots_new k =
      let watch = watch_of rows events writes setting (rest_of old).config seat.id in
      let seat_of = ap (λ (r : Rest). r.seat) d.rest in
      let config = ap (λ (r : Rest). r.config) d.rest in
      let middle = its-after rows old_set mid_set old mid k.rows_are still seat_of config own long slots (spent-after old_set mid_set (rest_of old).marks (rest_of mid).marks refused k.rows_are.spent) in
      let marks = ap (λ (r : Rest). r.marks) rest in
      let sets : (r : ℕ) → hand_on new r ≡ (if r == row then None else hand_on old r) = λ r. hands r ∙ d.hands r in
      record {
        seat_is = ap (λ (r : Rest). r.seat) rest ∙ seat_of ∙ k.seat_is;
        count = counted_new ∙ counted ∙ k.count;
        few = k.few;
        rows_are = its-after rows mid_set new_set mid new middle still_new (ap (λ (r : Rest). r.seat) rest) (ap (λ (r : Rest). r.config) rest) own_new long_new slots_new
            (spent-same mid_set new_set (rest_of mid).marks (rest_of new).marks dry marks middle.spent);
        empty = ap (λ (r : Rest). r.in_hand) rest;
        places_are = places-closed rows setting.lives row places (hand_on old) (hand_on new) some within sets k.places_are;
        opened = k.opened;
        served = served-same rows places (with_place row (shut_place (place_at places row)) places) k.opened (next-closed rows row places some within k.places_are.count) k.served;
        early_is = λ is.
            early-closed rows row places k.opened old new d.hand d.marks some within k.places_are.count d.was d.marked.thread d.marked.from sets
            (marks ∙ ap (λ (r : Rest). r.marks) d.rest) (k.early_is is);
        told = told-as seat.id k.opened new (rest_of old).config (rest_of new).config (ap (λ (r : Rest). r.config) rest ∙ config)
            (told-same side watch (setting.faults seat.id) k.opened k.opened mid new (give watch k.opened) writer (told-more side watch (setting.faults seat.id) k.opened old mid result law faulty k.told));
      }
