-- What a session over a run's rows comes to.
use Rattle.std.proofs.Common.{◌≡◌, ◌≢◌, ◌∙◌, ℕ, zero, suc, ◌-◌, ◌<◌, ◌≤◌, ⊎_elim, false, List, Option, None, refl, sym, ap, subst, arith}
use Rattle.std.specs.Prelude.{Bool, map}
use Rattle.std.specs.List.{AllByRecursion}
use Rattle.std.proofs.lemmas.Bool.{cases_eq, cases_lt}
use Rattle.std.proofs.lemmas.List.{get_or_past}
use Rattle.ep_defs.specs.declared.event.EventDef.{EventDef}
use Rattle.ep_defs.specs.declared.session.Marks.{Marks}
use Rattle.ep_defs.specs.declared.session.Write.{Write}
use Rattle.pt_io.specs.declared.sink.Sink.{Ghosts as Sink}
use Rattle.ep_stream.specs.declared.session.Fate.{Fate}
use Rattle.ep_stream.specs.declared.session.Fate.TheVariants as fate
use Rattle.ep_stream.specs.declared.session.Session.{Session}
use Rattle.ep_stream.specs.declared.session.Seat.{Seat}
use Rattle.ep_stream.specs.declared.session.SessionEnd.{SessionEnd}
use Rattle.ep_stream.specs.Session.{Ended, hand_on, rest_of, sink_of}
use Rattle.ep_live.specs.RowSet.{LiveRowsState, expected_in, out_in}
use Rattle.ep_live_laws.specs.Calls.{EndsOver, IsOutcome}
use Rattle.ep_live_laws.specs.Tracing.{IsOneOf, Watch, is_fault}
use Rattle.pt_stream.specs.declared.place.Place.{Place}
use Rattle.pt_stream.specs.Setting.{Setting, watch_of}
use Rattle.pt_stream.specs.State.{no_place, place_at}
use Rattle.pt_stream.specs.End.{AreEarly, AreServed, HasEnded, IsFromFirst}
use Rattle.pt_stream.specs.Kept.{AreItsRows, ArePlaces, IsEarlyOn, IsKept}
use Rattle.pt_stream.proofs.Hands.{hand-shut}
use Rattle.pt_stream.proofs.Told.{ends-risen, ends-sound, handed-fate}

-- A session that is open on no row has no hand.
pub no-hands : {S : Type 0} (rows lives : ℕ) (places : List Place) (session : Session S) → ((row : ℕ) → 0 < row → row ≤ rows → (place_at places row).is_open ≡ false) → ArePlaces rows lives places (hand_on session) → (row : ℕ) → hand_on session row ≡ None
no-hands rows lives places session shut a zero = refl
no-hands rows lives places session shut a (suc place) =
    hand-shut rows (suc place) (place_at places (suc place)) (hand_on session (suc place)) (a.hands_are (suc place) (omega arith))
    (⊎_elim
    (λ (past : rows < suc place). ap (λ (p : Place). p.is_open) (get_or_past places (suc place - 1) no_place (let long = a.count in omega (arith, long, past))))
    (λ (within : suc place ≤ rows). shut (suc place) (omega arith) within)
    (cases_lt rows (suc place)))

-- Its rows expect none, and nothing is out.
pub none-expected : {S : Type 0} (rows : ℕ) (set : LiveRowsState) (session : Session S) → AreItsRows rows set session → ((row : ℕ) → hand_on session row ≡ None) → (row slot : ℕ) → expected_in set row slot ≡ None
none-expected rows set session its none row slot =
    ⊎_elim
    (λ (is : slot ≡ (rest_of session).seat.slot). ap (λ (s : ℕ). expected_in set row s) is ∙ its.own.hands row ∙ none row)
    (λ (not : slot ≢ (rest_of session).seat.slot). its.no_hands row slot not)
    (cases_eq slot (rest_of session).seat.slot)

pub none-out : {S : Type 0} (rows : ℕ) (set : LiveRowsState) (session : Session S) → AreItsRows rows set session → (rest_of session).in_hand ≡ 0 → (slot : ℕ) → out_in set slot ≡ 0
none-out rows set session its empty slot =
    ⊎_elim
    (λ (is : slot ≡ (rest_of session).seat.slot). ap (λ (s : ℕ). out_in set s) is ∙ its.own.chunks ∙ empty)
    (λ (not : slot ≢ (rest_of session).seat.slot). its.none_out slot not)
    (cases_eq slot (rest_of session).seat.slot)

-- The threads of its marks are those on which it was opened.
pub served-threads : (rows : ℕ) (places : List Place) (opened threads : List ℕ) → threads ≡ opened → AreServed rows places opened → AreServed rows places threads
served-threads rows places opened threads is served = subst (AreServed rows places) (sym is) served

pub early-threads : {S : Type 0} (rows : ℕ) (places : List Place) (opened threads : List ℕ) (session : Session S) (marks : List Marks) → threads ≡ opened → (rest_of session).marks ≡ marks
    → IsEarlyOn rows places opened session → AreEarly rows places threads marks
early-threads rows places opened threads session marks is marks_are e =
    record {
      first = subst (λ (ts : List ℕ). (row : ℕ) → 0 < row → 0 < (place_at places row).next → IsOneOf ts row) (sym is) e.first;
      from = subst (AllByRecursion (IsFromFirst rows)) marks_are e.marks;
    }

-- ---- all of it

module _ {S : Type 0} (side : Sink S) (rows : ℕ) (events : List EventDef) (writes : ℕ → List Write) (setting : Setting) where
  pub has-ended : (set : LiveRowsState) (session : Session S) (openings : ℕ) (seat : Seat) (places : List Place) (early : Bool) (stands : Option ℕ) (given : List EventDef) (stamp : ℕ) (handed : Fate) (end : SessionEnd S)
      → given ≡ events → IsKept side rows events writes setting set session openings seat places early
      → ((row : ℕ) → 0 < row → row ≤ rows → (place_at places row).is_open ≡ false) → handed ≢ fate.LinkFault
      → ((watch : Watch) (opened : List ℕ) → EndsOver side watch opened handed session end.fate end.sink → IsOutcome side watch opened handed (rest_of session).marks end.fate end.sink)
      → end.id ≡ (rest_of session).seat.id → end.slot ≡ (rest_of session).seat.slot → end.conn ≡ (rest_of session).seat.conn → end.config ≡ (rest_of session).config → end.marks ≡ (rest_of session).marks
      → Ended side.tells_taken side.taken side.write_faults given stamp handed session end.fate end.sink → side.write_faults (sink_of session) ≤ side.write_faults end.sink
      → side.read_side end.sink ≡ side.read_side (sink_of session)
      → HasEnded side (watch_of rows events writes setting (rest_of session).config seat.id) rows setting.lives (setting.faults seat.id)
      (record { id = seat.id; slot = seat.slot; conn = seat.conn; config = (rest_of session).config; gave = side.read_side (sink_of session); stands = stands; places = places; marks = (rest_of session).marks; early = early })
      handed end
  has-ended set session openings seat places early stands given stamp handed end given_is k shut not law id slot conn config marks ended later gave =
      let watch = watch_of rows events writes setting (rest_of session).config seat.id in
      let none = no-hands rows setting.lives places session shut k.places_are in
      let out = law watch k.opened (record { told = k.told.told; given = given; stamp = stamp; events = given_is; tracing = k.told.tracing; shut = none; ended = ended }) in
      let threads = out.marks_are.threads in
      record {
        id_is = id ∙ ap (λ (s : Seat). s.id) k.seat_is;
        slot_is = slot ∙ ap (λ (s : Seat). s.slot) k.seat_is;
        conn_is = conn ∙ ap (λ (s : Seat). s.conn) k.seat_is;
        config_is = config;
        marks_are = marks;
        gave_is = gave;
        count = k.places_are.count;
        few = k.places_are.few;
        served = served-threads rows places k.opened (map (λ mark. mark.thread) (rest_of session).marks) threads k.served;
        early = λ is. early-threads rows places k.opened (map (λ mark. mark.thread) (rest_of session).marks) session (rest_of session).marks threads refl (k.early_is is);
        outcome = subst (λ (ts : List ℕ). IsOutcome side watch ts handed (rest_of session).marks end.fate end.sink) (sym threads) out;
        fate_is = λ sound. ended.fate_is ∙ handed-fate ended.answer handed (subst (λ (f : Fate). is_fault f ≡ false) ended.fate_is sound);
        link_fault = ends-risen side.tells_taken side.taken side.write_faults (setting.faults seat.id) given stamp session handed end.fate end.sink ended later k.told.says not;
        wrote = ends-sound side.tells_taken side.taken side.write_faults (setting.faults seat.id) given stamp session handed end.fate end.sink ended k.told.says;
      }
