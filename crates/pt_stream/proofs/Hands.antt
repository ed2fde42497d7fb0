-- What a session's hands are after a call, by the places of its rows.
use Rattle.std.proofs.Common.{◌≡◌, ◌≢◌, ◌∙◌, ℕ, suc, ◌+◌, ◌-◌, ◌<◌, ◌≤◌, false, List, [], ◌∷◌, Option, None, Some, length, refl, sym, ap, subst, arith}
use Rattle.std.specs.Prelude.{◌==◌, if◌then◌else◌, replicate}
use Rattle.std.specs.List.{All}
use Rattle.std.proofs.lemmas.Bool.{true≢false, eq-eqb, ne_eqb}
use Rattle.std.proofs.lemmas.List.{length-replicate, length-set}
use Rattle.ep_slot.specs.Hand.{HandState}
use Rattle.ep_stream.specs.Rows.{hand_after}
use Rattle.ep_stream.specs.Sweep.{Taking, with_taking, hands_after}
use Rattle.ep_guarded.specs.Tied.{thread_of}
use Rattle.pt_stream.specs.declared.place.Place.{Place}
use Rattle.pt_stream.specs.State.{no_place, place_at, with_place}
use Rattle.pt_stream.specs.Kept.{ArePlaces, IsHandOf}
use Rattle.pt_stream.proofs.Places.{by-row, place-here, place-none, place-other}
use Rattle.pt_stream.proofs.Served.{opened_place}

-- ---- one row

pub set-here : (row : ℕ) (hand : Option HandState) (old new : ℕ → Option HandState) → ((r : ℕ) → new r ≡ (if r == row then hand else old r)) → (r : ℕ) → r ≡ row → new r ≡ hand
set-here row hand old new sets r is = sets r ∙ ap (λ v. if v then hand else old r) (eq-eqb r row is)

pub set-other : (row : ℕ) (hand : Option HandState) (old new : ℕ → Option HandState) → ((r : ℕ) → new r ≡ (if r == row then hand else old r)) → (r : ℕ) → r ≢ row → new r ≡ old r
set-other row hand old new sets r not = sets r ∙ ap (λ v. if v then hand else old r) (ne_eqb r row not)

-- A row where the session is open has a hand, and another has none.
pub hand-shut : (rows row : ℕ) (place : Place) (hand : Option HandState) → IsHandOf rows row place hand → place.is_open ≡ false → hand ≡ None
hand-shut rows row place None h off = refl
hand-shut rows row place (Some hand) h off = absurd (true≢false (sym h.0 ∙ off))

along : (rows row : ℕ) (place now : Place) (hand after : Option HandState) → now ≡ place → after ≡ hand → IsHandOf rows row place hand → IsHandOf rows row now after
along rows row place now hand after place_is hand_is h =
    subst (λ (p : Place). IsHandOf rows row p after) (sym place_is) (subst (IsHandOf rows row place) (sym hand_is) h)

-- ---- the calls

-- It is open nowhere.
pub places-none : (rows lives : ℕ) (hands : ℕ → Option HandState) → ((row : ℕ) → hands row ≡ None) → ArePlaces rows lives (replicate rows no_place) hands
places-none rows lives hands none =
    record {
      count = length-replicate rows no_place;
      few = λ row some. subst (λ (p : Place). p.next ≤ lives) (sym (place-none rows row)) (omega arith);
      hands_are = λ row some. along rows row no_place _ None (hands row) (place-none rows row) (none row) refl;
    }

pub places-opened : (rows lives row life : ℕ) (places : List Place) (old new : ℕ → Option HandState) (hand : HandState) → 0 < row → row ≤ rows → life < lives → hand.thread ≡ thread_of rows (row - 1) life
    → ((r : ℕ) → new r ≡ (if r == row then Some hand else old r)) → ArePlaces rows lives places old → ArePlaces rows lives (with_place row (opened_place life) places) new
places-opened rows lives row life places old new hand some within few thread sets a =
    record {
      count = length-set places (row - 1) (opened_place life) ∙ a.count;
      few = λ r there.
          by-row ((place_at (with_place row (opened_place life) places) r).next ≤ lives) r row
          (λ is. subst (λ (p : Place). p.next ≤ lives) (sym (now r is)) (omega (arith, few)))
          (λ not. subst (λ (p : Place). p.next ≤ lives) (sym (place-other places row r (opened_place life) some there not)) (a.few r there));
      hands_are = λ r there.
          by-row (IsHandOf rows r (place_at (with_place row (opened_place life) places) r) (new r)) r row
          (λ is. along rows r (opened_place life) _ (Some hand) (new r) (now r is) (set-here row (Some hand) old new sets r is) (own r is))
          (λ not. along rows r (place_at places r) _ (old r) (new r) (place-other places row r (opened_place life) some there not) (set-other row (Some hand) old new sets r not) (a.hands_are r there));
    }
  where
    now : (r : ℕ) → r ≡ row → place_at (with_place row (opened_place life) places) r ≡ opened_place life
    now r is =
        let long = a.count in
        ap (place_at (with_place row (opened_place life) places)) is ∙ place-here places row (opened_place life) some (omega (arith, within, long))

    back : life + 1 - 1 ≡ life
    back = omega arith

    own : (r : ℕ) → r ≡ row → IsHandOf rows r (opened_place life) (Some hand)
    own r is = (refl, omega arith, thread ∙ ap (λ (x : ℕ). thread_of rows (x - 1) life) (sym is) ∙ ap (λ (l : ℕ). thread_of rows (r - 1) l) (sym back))

-- A place on which the session is closed.
abbrev pub shut_place : Place → Place
shut_place place = record place { is_open = false }

pub next-closed : (rows row : ℕ) (places : List Place) → 0 < row → row ≤ rows → length places ≡ rows → (r : ℕ) → 0 < r → (place_at (with_place row (shut_place (place_at places row)) places) r).next ≡ (place_at places r).next
next-closed rows row places some within count r there =
    by-row ((place_at (with_place row (shut_place (place_at places row)) places) r).next ≡ (place_at places r).next) r row
    (λ is.
    let here = place-here places row (shut_place (place_at places row)) some (omega (arith, within, count)) in
    ap (λ (x : ℕ). (place_at (with_place row (shut_place (place_at places row)) places) x).next) is ∙ ap (λ (p : Place). p.next) here ∙ ap (λ (x : ℕ). (place_at places x).next) (sym is))
    (λ not. ap (λ (p : Place). p.next) (place-other places row r (shut_place (place_at places row)) some there not))

pub places-closed : (rows lives row : ℕ) (places : List Place) (old new : ℕ → Option HandState) → 0 < row → row ≤ rows
    → ((r : ℕ) → new r ≡ (if r == row then None else old r)) → ArePlaces rows lives places old → ArePlaces rows lives (with_place row (shut_place (place_at places row)) places) new
places-closed rows lives row places old new some within sets a =
    record {
      count = length-set places (row - 1) (shut_place (place_at places row)) ∙ a.count;
      few = λ r there. subst (λ (n : ℕ). n ≤ lives) (sym (next-closed rows row places some within a.count r there)) (a.few r there);
      hands_are = λ r there.
          by-row (IsHandOf rows r (place_at (with_place row (shut_place (place_at places row)) places) r) (new r)) r row
          (λ is. along rows r (shut_place (place_at places row)) _ None (new r) (now r is) (set-here row None old new sets r is) refl)
          (λ not. along rows r (place_at places r) _ (old r) (new r) (place-other places row r (shut_place (place_at places row)) some there not) (set-other row None old new sets r not) (a.hands_are r there));
    }
  where
    now : (r : ℕ) → r ≡ row → place_at (with_place row (shut_place (place_at places row)) places) r ≡ shut_place (place_at places row)
    now r is =
        let long = a.count in
        ap (place_at (with_place row (shut_place (place_at places row)) places)) is ∙ place-here places row (shut_place (place_at places row)) some (omega (arith, within, long))

pub places-same : (rows lives : ℕ) (places : List Place) (old new : ℕ → Option HandState) → ((r : ℕ) → new r ≡ old r) → ArePlaces rows lives places old → ArePlaces rows lives places new
places-same rows lives places old new same a =
    record { count = a.count; few = a.few; hands_are = λ r there. along rows r (place_at places r) _ (old r) (new r) refl (same r) (a.hands_are r there) }

-- ---- a sweep

-- What holds of hands whatever was taken with them holds of a row's hand after a sweep.
pub swept-hand : (Q : Option HandState → Type 0) → ((hand : HandState) (records last chunks : ℕ) → Q (Some hand) → Q (Some (hand_after hand records last chunks)))
    → (row : ℕ) (first now : ℕ → Option HandState) (takings : List Taking) → All (λ t. first t.row ≡ Some t.hand) takings → Q (first row) → Q (now row) → Q (hands_after now takings row)
swept-hand Q more row first now [] were old is = is
swept-hand Q more row first now (t ∷ takings) were old is =
    swept-hand Q more row first (with_taking now t) takings (λ k d small. were (suc k) d (omega (arith, small))) old
    (by-row (Q (with_taking now t row)) row t.row
    (λ here. subst Q (sym (set-here t.row (Some after) now (with_taking now t) (λ r. refl) row here)) (more t.hand (length t.records) t.last t.chunks (subst Q (ap first here ∙ were 0 t (omega arith)) old)))
    (λ not. subst Q (sym (set-other t.row (Some after) now (with_taking now t) (λ r. refl) row not)) is))
  where
    after : HandState
    after = hand_after t.hand (length t.records) t.last t.chunks

pub places-swept : (rows lives : ℕ) (places : List Place) (old new : ℕ → Option HandState) (takings : List Taking) → All (λ t. old t.row ≡ Some t.hand) takings
    → ((row : ℕ) → new row ≡ hands_after old takings row) → ArePlaces rows lives places old → ArePlaces rows lives places new
places-swept rows lives places old new takings were now a =
    record {
      count = a.count;
      few = a.few;
      hands_are = λ r there.
          subst (IsHandOf rows r (place_at places r)) (sym (now r))
          (swept-hand (IsHandOf rows r (place_at places r)) (λ hand records last chunks h. h) r old old takings were (a.hands_are r there) (a.hands_are r there));
    }
