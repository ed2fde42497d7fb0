-- Which slots are free after each call.
use Rattle.std.proofs.Common.{◌≡◌, ℕ, zero, suc, ◌∷◌, Bool, true, false, Option, Some, None, List, map, set, slice_get, get_or, replicate, if◌then◌else◌, refl, ap, sym, ◌∙◌}
use Rattle.std.specs.Prelude.{position, option_map}
use Rattle.std.proofs.Math.Seq.{map-set_same}
use Rattle.std.proofs.lemmas.List.{map-set}
use Rattle.std.proofs.lemmas.Option.{slice_get-map, get_or_from_slice_get}
use Rattle.ep_table.specs.declared.table.Accepted.TheVariants as accepted
use Rattle.ep_table.specs.declared.limits.TheConstants.{SLOTS}
use Rattle.ep_table.specs.declared.table.Seat.{Seat}
use Rattle.ep_table.specs.declared.table.StopAnswer.{StopAnswer}
use Rattle.ep_table.specs.declared.table.StopAnswer.TheVariants as answer
use Rattle.ep_table.specs.Sessions.{Sessions, no_sessions, is_free, is_live_as, accepted_by, after_accept, after_stop, after_free}
use Rattle.ep_journal.specs.declared.session.Fate.{Fate}
use Rattle.ep_journal.specs.declared.session.Fate.TheVariants as fate
use Rattle.ep_journal.specs.declared.session.Entry.{Entry}
use Rattle.ep_journal.specs.Items.{item}
use Rattle.ep_journal.specs.Recorded.{Recorded, after_accepting, stopped_as, answer_to, after_stopping, looked_at, ending, ticket_of, after_looking, goes_on, slot_of, after_failing, after_end}
use Rattle.ep_journal.specs.Kept.{is_on, seat_of, IsKept}
use Rattle.ep_journal.proofs.Methods.{free-at, live-at}
use Rattle.ep_journal.proofs.Steps.{seat-on}
use Rattle.ep_registry.specs.declared.hold.Hold.{Hold}
use Rattle.ep_registry.specs.Held.{hold_at}
use Rattle.ep_registry.proofs.Tied.{held-entry}

-- Which slots are free.
abbrev pub free_in : Sessions → List Bool
free_in table = map is_free table.seats

free-place : (seats : List (Option Seat)) (slot : ℕ) (o : Option Seat) → slice_get seats slot ≡ Some o → slice_get (map is_free seats) slot ≡ Some (is_free o)
free-place seats slot o h = slice_get-map is_free seats slot ∙ ap (option_map is_free) h

-- ---- a session is accepted

pub seat-free : (r : Recorded) (slot id : ℕ) → accepted_by r.table ≡ accepted.Seat slot id → slice_get (free_in r.table) slot ≡ Some true
seat-free r slot id h = by_place (position is_free r.table.seats) refl
  where
    by_place : (o : Option ℕ) → position is_free r.table.seats ≡ o → slice_get (free_in r.table) slot ≡ Some true
    by_place None p = absurd (let full : accepted_by r.table ≡ accepted.Full = rw p refl in let q : accepted.Full ≡ accepted.Seat slot id = sym full ∙ h in cc)
    by_place (Some s) p =
        let seat : accepted_by r.table ≡ accepted.Seat s r.table.next = rw p refl in
        let a : accepted.Seat s r.table.next ≡ accepted.Seat slot id = sym seat ∙ h in
        let same : s ≡ slot = cc in
        rw (← same) (free-place r.table.seats s None (free-at r.table.seats s p))

seated-free : (r : Recorded) (slot id : ℕ) → accepted_by r.table ≡ accepted.Seat slot id → free_in (after_accept r.table) ≡ set (free_in r.table) slot false
seated-free r slot id h = by_place (position is_free r.table.seats) refl
  where
    by_place : (o : Option ℕ) → position is_free r.table.seats ≡ o → free_in (after_accept r.table) ≡ set (free_in r.table) slot false
    by_place None p = absurd (let full : accepted_by r.table ≡ accepted.Full = rw p refl in let q : accepted.Full ≡ accepted.Seat slot id = sym full ∙ h in cc)
    by_place (Some s) p =
        let seat : accepted_by r.table ≡ accepted.Seat s r.table.next = rw p refl in
        let a : accepted.Seat s r.table.next ≡ accepted.Seat slot id = sym seat ∙ h in
        let same : s ≡ slot = cc in
        rw (← same, p) (map-set is_free r.table.seats s (Some (record { id = r.table.next; live = true })))

pub accepted-free : (r : Recorded) (slot id : ℕ) → accepted_by r.table ≡ accepted.Seat slot id → free_in (after_accepting r).table ≡ set (free_in r.table) slot false
accepted-free r slot id h = rw h (seated-free r slot id h)

-- ---- a session is stopped

-- It keeps its slot.
stopped-free : (r : Recorded) (id : ℕ) → free_in (after_stop r.table id) ≡ free_in r.table
stopped-free r id = by_place (position (is_live_as id) r.table.seats) refl
  where
    by_place : (o : Option ℕ) → position (is_live_as id) r.table.seats ≡ o → free_in (after_stop r.table id) ≡ free_in r.table
    by_place None p = rw p refl
    by_place (Some slot) p =
        let there : get_or r.table.seats slot None ≡ Some (record { id = id; live = true }) =
        get_or_from_slice_get r.table.seats slot (Some (record { id = id; live = true })) None (live-at r id slot p) in
        rw p (map-set_same is_free r.table.seats slot (Some (record { id = id; live = false })) None (sym (ap is_free there)))

stopped-as-free : (r : Recorded) (a : StopAnswer) → free_in (stopped_as r a).table ≡ free_in r.table
stopped-as-free r (answer.Ticket ticket) = stopped-free r ticket.id
stopped-as-free r (answer.NotLive id) = refl

pub stopping-free : (r : Recorded) (id : ℕ) → free_in (after_stopping r id).table ≡ free_in r.table
stopping-free r id = stopped-as-free r (answer_to r id)

-- ---- a role looks at its session

pick-free : (b : Bool) (x y : Recorded) (z : List Bool) → free_in x.table ≡ z → free_in y.table ≡ z → free_in (if b then x else y).table ≡ z
pick-free true x y z p q = p
pick-free false x y z p q = q

looked-at-free : (r : Recorded) (id : ℕ) (o : Option ℕ) → free_in (looked_at r id o).table ≡ free_in r.table
looked-at-free r id (Some conn) = refl
looked-at-free r id None =
    pick-free r.ended (record r { table = after_stop r.table id; sessions = ending r id fate.ProgramEnd }) r (free_in r.table) (stopped-free r id) refl

pub looked-free : (r : Recorded) (id : ℕ) → free_in (after_looking r id).table ≡ free_in r.table
looked-free r id = looked-at-free r id (ticket_of (item r.sessions id))

-- ---- a slot is freed

-- The slot of a session that goes on is not free.
pub on-held : (r : Recorded) (id : ℕ) (e : Entry) → IsKept r → item r.sessions id ≡ Some e → is_on e ≡ true → slice_get (free_in r.table) e.slot ≡ Some false
on-held r id e k there on = free-place r.table.seats e.slot (seat_of id e) ((k.known id e there).seat on) ∙ ap (λ o. let q : Option Bool = Some (is_free o) in q) (seat-on id e on)

pub freed-free : (table : Sessions) (slot : ℕ) → free_in (after_free table slot) ≡ set (free_in table) slot true
freed-free table slot = map-set is_free table.seats slot None

pub hold-held : (r : Recorded) (hold : Hold) → IsKept r → hold_at r.sessions hold.id ≡ Some hold → goes_on hold.stage ≡ true → slice_get (free_in r.table) hold.slot ≡ Some false
hold-held r hold k known on =
    let e = held-entry r.sessions hold.id hold known in
    let goes : is_on e.0 ≡ true = ap (λ (h : Hold). goes_on h.stage) (sym e.2) ∙ on in
    ap (λ (h : Hold). slice_get (free_in r.table) h.slot) e.2 ∙ on-held r hold.id e.0 k e.1 goes

-- The slot of a session that is over is free.
slot-freed : (r : Recorded) (hold : Hold) → hold_at r.sessions hold.id ≡ Some hold → free_in (after_free r.table (slot_of (item r.sessions hold.id))) ≡ set (free_in r.table) hold.slot true
slot-freed r hold known =
    let e = held-entry r.sessions hold.id hold known in
    let slot : slot_of (item r.sessions hold.id) ≡ hold.slot = ap slot_of e.1 ∙ ap (λ (h : Hold). h.slot) (sym e.2) in
    rw slot (freed-free r.table hold.slot)

pub failed-free : (r : Recorded) (hold : Hold) → hold_at r.sessions hold.id ≡ Some hold → free_in (after_failing r hold.id).table ≡ set (free_in r.table) hold.slot true
failed-free r hold known = slot-freed r hold known

pub ended-free : (r : Recorded) (hold : Hold) (x : Fate) → hold_at r.sessions hold.id ≡ Some hold → free_in (after_end r hold.id x).table ≡ set (free_in r.table) hold.slot true
ended-free r hold x known = slot-freed r hold known

-- ---- the start

none-free : (n : ℕ) → map is_free (replicate {A = Option Seat} n None) ≡ replicate n true
none-free zero = refl
none-free (suc n) = ap (λ (bs : List Bool). true ∷ bs) (none-free n)

pub all-free : map is_free no_sessions.seats ≡ replicate SLOTS true
all-free = none-free SLOTS
