-- What each call makes of what is kept.
use Rattle.std.proofs.Common.{◌≡◌, ◌≢◌, ℕ, zero, suc, ◌+◌, ◌-◌, ◌<◌, ◌≤◌, Bool, true, false, ◌||◌, not, Option, Some, None, is_some, List, [], ◌∷◌, ◌++◌, length, get_or, set, slice_get, eqb, nat_lt, position, replicate, refl, ap, sym, ◌∙◌, arith, ◌⊎◌, inl, inr, cond, count_by, subst, length-append}
use Rattle.std.proofs.lemmas.Grind.{common_steps}
use Rattle.std.proofs.lemmas.List.{length-set}
use Rattle.std.proofs.lemmas.List.Sums.{sum_by-append}
use Rattle.std.proofs.lemmas.List.Quantifiers.{position-Some}
use Rattle.std.proofs.lemmas.Option.{same_Some, slice_get_within, slice_get-get_or, get_or_from_slice_get}
use Rattle.std.proofs.lemmas.Bool.{and_parts, eqb-true, or_right}
use Rattle.std.proofs.Math.Bool.{and-false}
use Rattle.ep_table.specs.declared.limits.TheConstants.{SLOTS}
use Rattle.ep_table.specs.declared.table.Seat.{Seat}
use Rattle.ep_table.specs.Sessions.{Sessions, held_count, is_free, is_live_as, after_accept, after_stop, accepted_by, stop_answer, is_held}
use Rattle.ep_table.specs.declared.table.Accepted.TheVariants as accepted
use Rattle.ep_table.specs.declared.table.StopAnswer.TheVariants as answer
use Rattle.ep_table.specs.declared.table.StopTicket.{StopTicket}
use Rattle.ep_table.proofs.Places.{position-None, counts_one, get-set}
use Rattle.ep_journal.specs.declared.limits.TheConstants.{CONNECTIONS}
use Rattle.ep_journal.specs.declared.decision.Decision.{Decision}
use Rattle.ep_journal.specs.declared.decision.Decision.TheVariants as decision
use Rattle.ep_journal.specs.declared.session.Fate.{Fate}
use Rattle.ep_journal.specs.declared.session.Fate.TheVariants as fate
use Rattle.ep_journal.specs.declared.session.Entry.{Entry}
use Rattle.ep_journal.specs.declared.session.Stage.{Stage}
use Rattle.ep_journal.specs.declared.session.Stage.TheVariants as stage
use Rattle.ep_journal.specs.Items.{item, with_item, passes}
use Rattle.ep_journal.specs.Recorded.{Recorded, nothing_recorded, goes_on, is_serving, is_failed, can_stop, may_end, is_ending_as, is_same, begun, stopped, staged, with_rows, gone_at}
use Rattle.ep_journal.specs.Kept.{is_on, is_session, is_in, accepts, stops, is_last, is_borne, is_asked_by, is_earlier, is_stopped_by, was_not_live, is_below, is_fit, is_fitting, seat_of, IsSession, IsKept}
use Rattle.ep_journal.proofs.Items.{get-snoc-is, item-at, item-within, item-set, item-set-is, item-last, passes-set, passes-snoc}
use Rattle.ep_journal.proofs.Borne.{borne-set}
use Rattle.ep_journal.proofs.Steps.{Moves, moved, decided-kept, begun-kept, seat-on}

-- ---- the start

pub nothing-kept : IsKept nothing_recorded
nothing-kept = record {
  places = refl;
  next_id = refl;
  few = omega arith;
  room = omega arith;
  borne = λ place d at. cc;
  rising = λ id later e f at. absurd (nobody id e at);
  known = λ id e at. none id e at;
  seated = λ slot seat at. free slot seat at;
  held = refl;
}
  where
    nobody : (id : ℕ) (e : Entry) → item [] id ≡ Some e → ⊥
    nobody zero e at = cc
    nobody (suc k) e at = cc

    none : (id : ℕ) (e : Entry) → item [] id ≡ Some e → IsSession nothing_recorded.table.seats [] false id e
    none zero e at = cc
    none (suc k) e at = cc

    all_free : (n slot : ℕ) (seat : Seat) → slice_get (replicate n None) slot ≡ Some (Some seat) → ⊥
    all_free zero slot seat at = cc
    all_free (suc n) zero seat at = cc
    all_free (suc n) (suc slot) seat at = all_free n slot seat at

    free : (slot : ℕ) (seat : Seat) → slice_get nothing_recorded.table.seats slot ≡ Some (Some seat) → passes (is_in slot) (item [] seat.id) ≡ true
    free slot seat at = absurd (all_free SLOTS slot seat at)

-- ---- one session's changes

-- A change that keeps who asked for it, its slot, its ticket, and that it is a session, and since when it could be stopped no more.
pub record Grows (r : Recorded) (e f : Entry) : Type 0 where
  pub conn : f.conn ≡ e.conn
  pub session : is_session f ≡ is_session e
  pub ticket : (conn : ℕ) → is_stopped_by conn e ≡ true → is_stopped_by conn f ≡ true
  pub gone : (conn : ℕ) → conn ≤ length r.decisions + 1 → is_below conn e.gone ≡ true → is_below conn f.gone ≡ true

grown-borne : (r : Recorded) (id : ℕ) (e f : Entry) (conn : ℕ) (d : Decision) → item r.sessions id ≡ Some e → Grows r e f → conn ≤ length r.decisions + 1 →
    is_borne r.sessions conn d ≡ true → is_borne (with_item r.sessions id f) conn d ≡ true
grown-borne r id e f conn d there g l h =
    borne-set r.sessions id e f conn d there (λ t. rw (g.conn, g.session) t) (rw (g.conn, g.session) refl) (g.ticket conn)
    (λ t. not_live (nat_lt conn e.conn) refl t) h
  where
    not_live : (b : Bool) → nat_lt conn e.conn ≡ b → was_not_live conn e ≡ true → was_not_live conn f ≡ true
    not_live true b t = rw (g.conn, b) refl
    not_live false b t = let u : is_below conn e.gone ≡ true = rw b at t in let v : is_below conn f.gone ≡ true = g.gone conn l u in rw (g.conn, b, v) refl

old-borne : (r : Recorded) (id : ℕ) (e f : Entry) → IsKept r → item r.sessions id ≡ Some e → Grows r e f → (place : ℕ) (d : Decision) →
    slice_get r.decisions place ≡ Some d → is_borne (with_item r.sessions id f) (place + 1) d ≡ true
old-borne r id e f k there g place d at =
    grown-borne r id e f (place + 1) d there g (let l : place < length r.decisions = slice_get_within r.decisions place d at in omega arith) (k.borne place d at)

-- ---- a slot keeps what it holds

pub set-same : {A : Type 0} (xs : List A) (i : ℕ) (x : A) → slice_get xs i ≡ Some x → set xs i x ≡ xs
set-same {A} [] i x e = cc
set-same {A} (y ∷ xs) zero x e = grind (arith, common_steps)
set-same {A} (y ∷ xs) (suc i) x e = ap (λ (ys : List A). y ∷ ys) (set-same xs i x e)

-- ---- a session is opened

pub serving-on : (t : Stage) → is_serving t ≡ true → goes_on t ≡ true
serving-on stage.Serving h = refl
serving-on (stage.Ending x) h = cc
serving-on (stage.Over x) h = cc
serving-on stage.Failed h = cc

pub opened-kept : (r : Recorded) (id : ℕ) (e : Entry) (early : Bool) → IsKept r → item r.sessions id ≡ Some e → is_serving e.stage ≡ true →
    IsKept (record r { sessions = with_item r.sessions id (with_rows early e) })
opened-kept r id e early k there serves =
    let s = k.known id e there in
    let on : is_on e ≡ true = serving-on e.stage serves in
    let f : Entry = with_rows early e in
    let same : set r.table.seats e.slot (seat_of id f) ≡ r.table.seats = set-same r.table.seats e.slot (seat_of id e) (s.seat on) in
    subst (λ (seats : List (Option Seat)). IsKept (record { table = record { seats = seats; next = r.table.next }; decisions = r.decisions; sessions = with_item r.sessions id f; ended = r.ended })) same
    (moved r id e f r.decisions k
    (record {
      there = there;
      on = on;
      conn = refl;
      place = refl;
      longer = omega arith;
      room = k.room;
      accepted = λ n conn d h. h;
      tickets = λ n conn h. h;
      borne = old-borne r id e f k there (record { conn = refl; session = refl; ticket = λ conn h. h; gone = λ conn l h. h });
      own = record { first = s.first; last = s.last; asked = s.asked; later = s.later; stopped = s.stopped; fate = s.fate; gone = s.gone; past = s.past; seat = λ o. rw same (s.seat o) };
    }))

-- ---- a session goes to another stage

on-session : (t : Stage) → goes_on t ≡ true → not (is_failed t) ≡ true
on-session stage.Serving h = refl
on-session (stage.Ending x) h = refl
on-session (stage.Over x) h = cc
on-session stage.Failed h = cc

gone-some : (count : ℕ) (g : Option ℕ) → is_some (gone_at count g) ≡ true
gone-some count None = refl
gone-some count (Some n) = refl

gone-below : (count conn : ℕ) (g : Option ℕ) → is_below conn g ≡ true → is_below conn (gone_at count g) ≡ true
gone-below count conn None h = cc
gone-below count conn (Some n) h = h

gone-past : (count n most : ℕ) (g : Option ℕ) → count ≤ most → ((m : ℕ) → g ≡ Some m → m ≤ most) → gone_at count g ≡ Some n → n ≤ most
gone-past count n most None c p h = let e : count ≡ n = grind (arith, common_steps) in omega arith
gone-past count n most (Some m) c p h = p n h

-- A session that goes on ends, or is found to end.
pub staged-moves : (r : Recorded) (id : ℕ) (e : Entry) (to : Stage) → IsKept r → item r.sessions id ≡ Some e → is_on e ≡ true →
    not (is_failed to) ≡ true → is_serving to ≡ false → is_fitting r.ended e.ticket to ≡ true → Moves r id e (staged to (length r.decisions) e) r.decisions
staged-moves r id e to k there on some out fits =
    let s = k.known id e there in
    let f : Entry = staged to (length r.decisions) e in
    let was : is_session e ≡ true = on-session e.stage on in
    record {
      there = there;
      on = on;
      conn = refl;
      place = refl;
      longer = omega arith;
      room = k.room;
      accepted = λ n conn d h. h;
      tickets = λ n conn h. h;
      borne =
          old-borne r id e f k there
          (record { conn = refl; session = some ∙ sym was; ticket = λ conn h. h; gone = λ conn l h. gone-below (length r.decisions) conn e.gone h });
      own = record {
        first = s.first;
        last = s.last;
        asked = λ h. s.asked was;
        later = s.later;
        stopped = s.stopped;
        fate = fits;
        gone = gone-some (length r.decisions) e.gone ∙ sym (rw out refl);
        past = λ n h. gone-past (length r.decisions) n (length r.decisions) e.gone (omega arith) s.past h;
        seat = λ o. get-set r.table.seats e.slot (seat_of id f) (slice_get_within r.table.seats e.slot (seat_of id e) (s.seat on));
      };
    }

-- ---- a session ends

-- A session that may end goes on until then.
pub may-on : (x : Fate) (t : Stage) → may_end x t ≡ true → goes_on t ≡ true
may-on (fate.Requested c) stage.Serving h = cc
may-on (fate.Requested c) (stage.Ending y) h = refl
may-on (fate.Requested c) (stage.Over y) h = cc
may-on (fate.Requested c) stage.Failed h = cc
may-on fate.ProgramEnd stage.Serving h = cc
may-on fate.ProgramEnd (stage.Ending y) h = refl
may-on fate.ProgramEnd (stage.Over y) h = cc
may-on fate.ProgramEnd stage.Failed h = cc
may-on fate.LinkFault t h = h
may-on fate.TooLong t h = h
may-on fate.OutOfMemory t h = h

same-fit : (ended : Bool) (ticket : Option ℕ) (x y : Fate) → is_same x y ≡ true → is_fit ended ticket y ≡ true → is_fit ended ticket x ≡ true
same-fit ended ticket (fate.Requested c) (fate.Requested d) h g = let e : c ≡ d = grind arith in rw e g
same-fit ended ticket (fate.Requested c) fate.ProgramEnd h g = cc
same-fit ended ticket (fate.Requested c) fate.LinkFault h g = cc
same-fit ended ticket (fate.Requested c) fate.TooLong h g = cc
same-fit ended ticket (fate.Requested c) fate.OutOfMemory h g = cc
same-fit ended ticket fate.ProgramEnd (fate.Requested d) h g = cc
same-fit ended ticket fate.ProgramEnd fate.ProgramEnd h g = g
same-fit ended ticket fate.ProgramEnd fate.LinkFault h g = cc
same-fit ended ticket fate.ProgramEnd fate.TooLong h g = cc
same-fit ended ticket fate.ProgramEnd fate.OutOfMemory h g = cc
same-fit ended ticket fate.LinkFault y h g = refl
same-fit ended ticket fate.TooLong y h g = refl
same-fit ended ticket fate.OutOfMemory y h g = refl

ending-fit : (ended : Bool) (ticket : Option ℕ) (x : Fate) (t : Stage) → is_ending_as x t ≡ true → is_fitting ended ticket t ≡ true → is_fit ended ticket x ≡ true
ending-fit ended ticket x stage.Serving h g = cc
ending-fit ended ticket x (stage.Ending y) h g = same-fit ended ticket x y h g
ending-fit ended ticket x (stage.Over y) h g = cc
ending-fit ended ticket x stage.Failed h g = cc

end-fit : (ended : Bool) (ticket : Option ℕ) (x : Fate) (t : Stage) → may_end x t ≡ true → is_fitting ended ticket t ≡ true → is_fit ended ticket x ≡ true
end-fit ended ticket (fate.Requested c) t h g = ending-fit ended ticket (fate.Requested c) t h g
end-fit ended ticket fate.ProgramEnd t h g = ending-fit ended ticket fate.ProgramEnd t h g
end-fit ended ticket fate.LinkFault t h g = refl
end-fit ended ticket fate.TooLong t h g = refl
end-fit ended ticket fate.OutOfMemory t h g = refl

pub over-kept : (r : Recorded) (id : ℕ) (e : Entry) (x : Fate) → IsKept r → item r.sessions id ≡ Some e → may_end x e.stage ≡ true →
    IsKept (record {
      table = record { seats = set r.table.seats e.slot None; next = r.table.next };
      decisions = r.decisions;
      sessions = with_item r.sessions id (staged (stage.Over x) (length r.decisions) e);
      ended = r.ended;
    })
over-kept r id e x k there may =
    moved r id e (staged (stage.Over x) (length r.decisions) e) r.decisions k
    (staged-moves r id e (stage.Over x) k there (may-on x e.stage may) refl refl (end-fit r.ended e.ticket x e.stage may (k.known id e there).fate))

-- The slot of a session that goes on is held.
pub slot-held : (r : Recorded) (id : ℕ) (e : Entry) → IsKept r → item r.sessions id ≡ Some e → is_on e ≡ true → is_held r.table e.slot ≡ true
slot-held r id e k there on = let s = (k.known id e there).seat on in rw (s, seat-on id e on) refl

pub may-held : (r : Recorded) (id : ℕ) (e : Entry) (x : Fate) → IsKept r → item r.sessions id ≡ Some e → may_end x e.stage ≡ true → is_held r.table e.slot ≡ true
may-held r id e x k there may = slot-held r id e k there (may-on x e.stage may)

-- ---- a role looks at its session

pub requested-kept : (r : Recorded) (id conn : ℕ) (e : Entry) → IsKept r → item r.sessions id ≡ Some e → is_serving e.stage ≡ true → e.ticket ≡ Some conn →
    IsKept (record r { sessions = with_item r.sessions id (staged (stage.Ending (fate.Requested conn)) (length r.decisions) e) })
requested-kept r id conn e k there serves ticket =
    let s = k.known id e there in
    let on : is_on e ≡ true = serving-on e.stage serves in
    let f : Entry = staged (stage.Ending (fate.Requested conn)) (length r.decisions) e in
    let no : can_stop e ≡ false = rw (serves, ticket) refl in
    let seat : seat_of id f ≡ seat_of id e = sym (seat-on id e on ∙ rw no refl) in
    let same : set r.table.seats e.slot (seat_of id f) ≡ r.table.seats = rw seat (set-same r.table.seats e.slot (seat_of id e) (s.seat on)) in
    let fits : is_fitting r.ended e.ticket (stage.Ending (fate.Requested conn)) ≡ true = rw ticket (grind arith) in
    subst (λ (seats : List (Option Seat)). IsKept (record { table = record { seats = seats; next = r.table.next }; decisions = r.decisions; sessions = with_item r.sessions id f; ended = r.ended })) same
    (moved r id e f r.decisions k (staged-moves r id e (stage.Ending (fate.Requested conn)) k there on refl refl fits))

-- ---- who is live

abbrev live_in : Option (Option Seat) → Bool
live_in None = false
live_in (Some None) = false
live_in (Some (Some seat)) = seat.live

-- A live session that is found holds its slot.
live-seat : (id : ℕ) (o : Option Seat) → is_live_as id o ≡ true → o ≡ Some (record { id = id; live = true })
live-seat id None h = cc
live-seat id (Some seat) h =
    let b = and_parts seat.live (eqb seat.id id) h in
    let i : seat.id ≡ id = eqb-true seat.id id b.1 in
    ap (λ (s : Seat). let q : Option Seat = Some s in q) (ap2 seat.live seat.id b.0 i)
  where
    ap2 : (live : Bool) (n : ℕ) → live ≡ true → n ≡ id → (let a : Seat = record { id = n; live = live } in a) ≡ record { id = id; live = true }
    ap2 live n l m = rw (l, m) refl

pub live-at : (r : Recorded) (id slot : ℕ) → position (is_live_as id) r.table.seats ≡ Some slot → slice_get r.table.seats slot ≡ Some (Some (record { id = id; live = true }))
live-at r id slot h =
    let found = position-Some (is_live_as id) r.table.seats slot None h in
    slice_get-get_or r.table.seats slot None found.0 ∙ ap Some (live-seat id (get_or r.table.seats slot None) found.1)

pub live-known : (r : Recorded) (id slot : ℕ) → IsKept r → position (is_live_as id) r.table.seats ≡ Some slot → passes (is_in slot) (item r.sessions id) ≡ true
live-known r id slot k h = k.seated slot (record { id = id; live = true }) (live-at r id slot h)

-- What passes is there.
pub passes-within : {A : Type 0} (p : A → Bool) (xs : List A) (n : ℕ) → passes p (item xs n) ≡ true → (0 < n) × (n ≤ length xs)
passes-within {A} p xs n h = by_case (item xs n) refl
  where
    by_case : (o : Option A) → item xs n ≡ o → (0 < n) × (n ≤ length xs)
    by_case None e = let f : passes p (item xs n) ≡ false = rw e refl in absurd (let g : true ≡ false = sym h ∙ f in cc)
    by_case (Some x) e = item-within xs n x e

pub passes-is : {A : Type 0} (p : A → Bool) (xs : List A) (n : ℕ) (x : A) → passes p (item xs n) ≡ true → item xs n ≡ Some x → p x ≡ true
passes-is p xs n x h e = rw e at h

pub live-facts : (r : Recorded) (id slot : ℕ) (e : Entry) → IsKept r → position (is_live_as id) r.table.seats ≡ Some slot → item r.sessions id ≡ Some e →
    (e.slot ≡ slot) × (can_stop e ≡ true)
live-facts r id slot e k h there =
    let b = and_parts (eqb e.slot slot) (is_on e) (passes-is (is_in slot) r.sessions id e (live-known r id slot k h) there) in
    let same : e.slot ≡ slot = eqb-true e.slot slot b.0 in
    let seat = (k.known id e there).seat b.1 ∙ ap Some (seat-on id e b.1) in
    let live = live-at r id slot h in (same, sym (ap live_in seat) ∙ ap (λ n. live_in (slice_get r.table.seats n)) same ∙ ap live_in live)

-- A session that can be stopped is found.
pub can-find : (r : Recorded) (id : ℕ) (e : Entry) → IsKept r → item r.sessions id ≡ Some e → can_stop e ≡ true → position (is_live_as id) r.table.seats ≢ None
can-find r id e k there can none =
    let b = and_parts (is_serving e.stage) (not (is_some e.ticket)) can in
    let on : is_on e ≡ true = serving-on e.stage b.0 in
    let seat : slice_get r.table.seats e.slot ≡ Some (seat_of id e) = (k.known id e there).seat on in
    let l = slice_get_within r.table.seats e.slot (seat_of id e) seat in
    let g : get_or r.table.seats e.slot None ≡ Some (record { id = id; live = true }) =
    get_or_from_slice_get r.table.seats e.slot (seat_of id e) None seat ∙ seat-on id e on ∙ rw can refl in
    let i : eqb id id ≡ true = grind arith in
    let live : is_live_as id (get_or r.table.seats e.slot None) ≡ true = rw (g, i) refl in
    let zero_of = position-None (is_live_as id) r.table.seats none in
    let some = counts_one (is_live_as id) r.table.seats e.slot None l live in
    absurd (omega (arith, zero_of, some))

-- ---- a session is stopped

can-fits : (ended : Bool) (conn : ℕ) (t : Stage) → is_serving t ≡ true → is_fitting ended (Some conn) t ≡ true
can-fits ended conn stage.Serving h = refl
can-fits ended conn (stage.Ending x) h = cc
can-fits ended conn (stage.Over x) h = cc
can-fits ended conn stage.Failed h = cc

not-some : (o : Option ℕ) → not (is_some o) ≡ true → o ≡ None
not-some None h = refl
not-some (Some x) h = cc

pub stopped-kept : (r : Recorded) (id slot : ℕ) (e : Entry) → IsKept r → length r.decisions < CONNECTIONS → position (is_live_as id) r.table.seats ≡ Some slot →
    item r.sessions id ≡ Some e →
    IsKept (record {
      table = record { seats = set r.table.seats slot (Some (record { id = id; live = false })); next = r.table.next };
      decisions = r.decisions ++ decision.Ticket id ∷ [];
      sessions = with_item r.sessions id (stopped (length r.decisions + 1) (length r.decisions) e);
      ended = r.ended;
    })
stopped-kept r id slot e k room h there =
    let facts = live-facts r id slot e k h there in
    let b = and_parts (is_serving e.stage) (not (is_some e.ticket)) facts.1 in
    let s = k.known id e there in
    let on : is_on e ≡ true = serving-on e.stage b.0 in
    let none : e.ticket ≡ None = not-some e.ticket b.1 in
    let f : Entry = stopped (length r.decisions + 1) (length r.decisions) e in
    let d : List Decision = r.decisions ++ decision.Ticket id ∷ [] in
    let seat : seat_of id f ≡ Some (record { id = id; live = false }) = seat-on id f on ∙ rw (and-false (is_serving e.stage)) refl in
    let same : set r.table.seats e.slot (seat_of id f) ≡ set r.table.seats slot (Some (record { id = id; live = false })) = rw (facts.0, seat) refl in
    let longer = length-append r.decisions (decision.Ticket id ∷ []) in
    let last : item d (length r.decisions + 1) ≡ Some (decision.Ticket id) = item-last r.decisions (length r.decisions + 1) (decision.Ticket id) refl in
    let itself : eqb id id ≡ true = grind arith in
    let number : eqb (length r.decisions + 1) (length r.decisions + 1) ≡ true = grind arith in
    let grows : Grows r e f = record {
      conn = refl;
      session = refl;
      ticket = λ conn t. let u : false ≡ true = sym (rw none refl) ∙ t in cc;
      gone = λ conn l t. gone-below (length r.decisions) conn e.gone t;
    } in
    subst (λ (seats : List (Option Seat)). IsKept (record { table = record { seats = seats; next = r.table.next }; decisions = d; sessions = with_item r.sessions id f; ended = r.ended })) same
    (moved r id e f d k
    (record {
      there = there;
      on = on;
      conn = refl;
      place = refl;
      longer = omega (arith, longer);
      room = omega (arith, longer);
      accepted = λ n conn _ t. passes-snoc (accepts n) r.decisions conn (decision.Ticket id) t;
      tickets = λ n conn t. passes-snoc (stops n) r.decisions conn (decision.Ticket id) t;
      borne =
          λ place x at.
          elim (get-snoc-is r.decisions place x (decision.Ticket id) at) [
            | inl t ↦ rw (t.0, t.1) (rw (item-set r.sessions id e f there) number)
            | inr t ↦ old-borne r id e f k there grows place x t
          ];
      own = record {
        first = s.first;
        last = let l : e.conn ≤ length r.decisions = s.last in omega (arith, longer);
        asked = λ t. passes-snoc (accepts id) r.decisions e.conn (decision.Ticket id) (s.asked t);
        later = λ conn t. let l : e.conn ≤ length r.decisions = s.last in let n : length r.decisions + 1 ≡ conn = same_Some (length r.decisions + 1) conn t in omega arith;
        stopped = λ conn t. let n : length r.decisions + 1 ≡ conn = same_Some (length r.decisions + 1) conn t in rw (sym n) (rw last itself);
        fate = can-fits r.ended (length r.decisions + 1) e.stage b.0;
        gone = gone-some (length r.decisions) e.gone ∙ sym (rw (and-false (is_serving e.stage)) refl);
        past =
            λ n t.
            let p : (m : ℕ) → e.gone ≡ Some m → m ≤ length d = λ m q. let l : m ≤ length r.decisions = s.past m q in omega (arith, longer) in
            gone-past (length r.decisions) n (length d) e.gone (omega (arith, longer)) p t;
        seat = λ o. get-set r.table.seats e.slot (seat_of id f) (slice_get_within r.table.seats e.slot (seat_of id e) (s.seat on));
      };
    }))

-- ---- a stop is refused

-- Nobody that is not found can be stopped.
pub refused-borne : (r : Recorded) (id : ℕ) → IsKept r → position (is_live_as id) r.table.seats ≡ None → is_borne r.sessions (length r.decisions + 1) (decision.Refused id) ≡ true
refused-borne r id k none = by_case (item r.sessions id) refl
  where
    gone-is : (e : Entry) (g : Option ℕ) → e.gone ≡ g → is_some e.gone ≡ true → ((n : ℕ) → e.gone ≡ Some n → n ≤ length r.decisions) → was_not_live (length r.decisions + 1) e ≡ true
    gone-is e None h t p = let u : is_some e.gone ≡ false = rw h refl in absurd (let g : true ≡ false = sym t ∙ u in cc)
    gone-is e (Some n) h t p =
        let l : n ≤ length r.decisions = p n h in
        let b : nat_lt n (length r.decisions + 1) ≡ true = grind arith in
        let w : is_below (length r.decisions + 1) e.gone ≡ true = rw h b in
        or_right (nat_lt (length r.decisions + 1) e.conn) (is_below (length r.decisions + 1) e.gone) w

    by_can : (e : Entry) (b : Bool) → item r.sessions id ≡ Some e → can_stop e ≡ b → was_not_live (length r.decisions + 1) e ≡ true
    by_can e true there can = absurd (can-find r id e k there can none)
    by_can e false there can = let s = k.known id e there in gone-is e e.gone refl (s.gone ∙ rw can refl) s.past

    by_case : (o : Option Entry) → item r.sessions id ≡ o → is_borne r.sessions (length r.decisions + 1) (decision.Refused id) ≡ true
    by_case None e = rw e refl
    by_case (Some x) e = rw e (by_can x (can_stop x) e refl)

-- ---- the program's end is found

pub program-kept : (r : Recorded) (id : ℕ) (e : Entry) → IsKept r → item r.sessions id ≡ Some e → is_serving e.stage ≡ true → e.ticket ≡ None → r.ended ≡ true →
    IsKept (record r { table = after_stop r.table id; sessions = with_item r.sessions id (staged (stage.Ending fate.ProgramEnd) (length r.decisions) e) })
program-kept r id e k there serves ticket ended = by_place (position (is_live_as id) r.table.seats) refl
  where
    can : can_stop e ≡ true
    can = rw (serves, ticket) refl

    on : is_on e ≡ true
    on = serving-on e.stage serves

    f : Entry
    f = staged (stage.Ending fate.ProgramEnd) (length r.decisions) e

    fits : is_fitting r.ended e.ticket (stage.Ending fate.ProgramEnd) ≡ true
    fits = rw (ticket, ended) refl

    by_place : (o : Option ℕ) → position (is_live_as id) r.table.seats ≡ o → IsKept (record r { table = after_stop r.table id; sessions = with_item r.sessions id f })
    by_place None h = absurd (can-find r id e k there can h)
    by_place (Some slot) h =
        let facts = live-facts r id slot e k h there in
        let same : record { seats = set r.table.seats e.slot (seat_of id f); next = r.table.next } ≡ after_stop r.table id = rw (h, facts.0) refl in
        subst (λ (table : Sessions). IsKept (record { table = table; decisions = r.decisions; sessions = with_item r.sessions id f; ended = r.ended })) same
        (moved r id e f r.decisions k (staged-moves r id e (stage.Ending fate.ProgramEnd) k there on refl refl fits))

-- ---- answers of the table

-- A place that is found free is free.
pub free-at : (seats : List (Option Seat)) (slot : ℕ) → position is_free seats ≡ Some slot → slice_get seats slot ≡ Some None
free-at seats slot h =
    let found = position-Some is_free seats slot None h in
    slice_get-get_or seats slot None found.0 ∙ ap Some (nothing (get_or seats slot None) found.1)
  where
    nothing : (o : Option Seat) → is_free o ≡ true → o ≡ None
    nothing None f = refl
    nothing (Some seat) f = cc

pub accept-seat : (r : Recorded) (slot id : ℕ) → IsKept r → length r.decisions < CONNECTIONS → accepted_by r.table ≡ accepted.Seat slot id →
    IsKept (record {
      table = after_accept r.table;
      decisions = r.decisions ++ decision.Accepted id ∷ [];
      sessions = r.sessions ++ begun (length r.decisions + 1) slot ∷ [];
      ended = r.ended;
    })
accept-seat r slot id k room h = by_place (position is_free r.table.seats) refl
  where
    by_place : (o : Option ℕ) → position is_free r.table.seats ≡ o →
        IsKept (record {
          table = after_accept r.table;
          decisions = r.decisions ++ decision.Accepted id ∷ [];
          sessions = r.sessions ++ begun (length r.decisions + 1) slot ∷ [];
          ended = r.ended;
        })
    by_place None p = let full : accepted_by r.table ≡ accepted.Full = rw p refl in cc
    by_place (Some s) p =
        let seat : accepted_by r.table ≡ accepted.Seat s r.table.next = rw p refl in
        let a : accepted.Seat s r.table.next ≡ accepted.Seat slot id = sym seat ∙ h in
        let same-slot : s ≡ slot = cc in
        let same-id : r.table.next ≡ id = cc in
        rw p (rw (← same-slot, ← same-id) (begun-kept r s k room (free-at r.table.seats s p)))

pub count-first : (p : Entry → Bool) (x : Entry) (xs : List Entry) → count_by p (x ∷ xs) ≡ cond (p x) 1 0 + count_by p xs
count-first p x xs = sum_by-append (λ z. cond (p z) 1 0) (x ∷ []) xs ∙ omega arith

-- As many pass the wider test.
count-wider : (p q : Entry → Bool) (xs : List Entry) → ((place : ℕ) (x : Entry) → slice_get xs place ≡ Some x → p x ≡ true → q x ≡ true) → count_by p xs ≤ count_by q xs
count-wider p q [] h = omega arith
count-wider p q (x ∷ xs) h =
    let more : count_by p xs ≤ count_by q xs = count-wider p q xs (λ place y at. h (suc place) y at) in
    let one-more : cond (p x) 1 0 ≤ cond (q x) 1 0 = by_test (p x) refl in
    omega (arith, more, one-more, count-first p x xs, count-first q x xs)
  where
    by_test : (b : Bool) → p x ≡ b → cond (p x) 1 0 ≤ cond (q x) 1 0
    by_test true t = let u : q x ≡ true = h 0 x refl t in rw (t, u) (omega arith)
    by_test false t = rw t (omega arith)

pub full-borne : (r : Recorded) → IsKept r → held_count r.table ≡ SLOTS → is_borne r.sessions (length r.decisions + 1) decision.Full ≡ true
full-borne r k full =
    let wider : count_by is_on r.sessions ≤ count_by (is_earlier (length r.decisions + 1)) r.sessions =
    count-wider is_on (is_earlier (length r.decisions + 1)) r.sessions earlier in
    let h : held_count r.table ≡ count_by is_on r.sessions = k.held in
    let least : SLOTS ≤ count_by (is_earlier (length r.decisions + 1)) r.sessions = omega (arith, full, h, wider) in
    grind arith
  where
    earlier : (place : ℕ) (e : Entry) → slice_get r.sessions place ≡ Some e → is_on e ≡ true → is_earlier (length r.decisions + 1) e ≡ true
    earlier place e at on =
        let s = k.known (place + 1) e (item-at r.sessions place ∙ at) in
        let l : e.conn ≤ length r.decisions = s.last in
        let b : nat_lt e.conn (length r.decisions + 1) ≡ true = grind arith in
        rw (b, on-session e.stage on) refl

pub accept-full : (r : Recorded) → IsKept r → length r.decisions < CONNECTIONS → held_count r.table ≡ SLOTS → accepted_by r.table ≡ accepted.Full →
    IsKept (record { table = after_accept r.table; decisions = r.decisions ++ decision.Full ∷ []; sessions = r.sessions; ended = r.ended })
accept-full r k room full h = by_place (position is_free r.table.seats) refl
  where
    by_place : (o : Option ℕ) → position is_free r.table.seats ≡ o →
        IsKept (record { table = after_accept r.table; decisions = r.decisions ++ decision.Full ∷ []; sessions = r.sessions; ended = r.ended })
    by_place (Some s) p = let seat : accepted_by r.table ≡ accepted.Seat s r.table.next = rw p refl in cc
    by_place None p = rw p (decided-kept r decision.Full k room (full-borne r k full))

pub ticket-found : (r : Recorded) (id conn : ℕ) (ticket : StopTicket) → stop_answer r.table id conn ≡ answer.Ticket ticket → (slot : ℕ) × (position (is_live_as id) r.table.seats ≡ Some slot)
ticket-found r id conn ticket h = by_place (position (is_live_as id) r.table.seats) refl
  where
    by_place : (o : Option ℕ) → position (is_live_as id) r.table.seats ≡ o → (slot : ℕ) × (position (is_live_as id) r.table.seats ≡ Some slot)
    by_place None p = absurd (let n : stop_answer r.table id conn ≡ answer.NotLive id = rw p refl in cc)
    by_place (Some slot) p = (slot, p)

pub ticket-known : (r : Recorded) (id conn : ℕ) (ticket : StopTicket) → IsKept r → stop_answer r.table id conn ≡ answer.Ticket ticket → (0 < id) × (id ≤ length r.sessions)
ticket-known r id conn ticket k h =
    let f = ticket-found r id conn ticket h in passes-within (is_in f.0) r.sessions id (live-known r id f.0 k f.1)

pub stop-ticket : (r : Recorded) (id conn : ℕ) (ticket : StopTicket) (e : Entry) → IsKept r → length r.decisions < CONNECTIONS → stop_answer r.table id conn ≡ answer.Ticket ticket →
    item r.sessions id ≡ Some e →
    IsKept (record {
      table = after_stop r.table id;
      decisions = r.decisions ++ decision.Ticket id ∷ [];
      sessions = with_item r.sessions id (stopped (length r.decisions + 1) (length r.decisions) e);
      ended = r.ended;
    })
stop-ticket r id conn ticket e k room h there =
    let f = ticket-found r id conn ticket h in rw f.1 (stopped-kept r id f.0 e k room f.1 there)

pub stop-refused : (r : Recorded) (id conn n : ℕ) → IsKept r → length r.decisions < CONNECTIONS → stop_answer r.table id conn ≡ answer.NotLive n →
    IsKept (record { table = after_stop r.table id; decisions = r.decisions ++ decision.Refused id ∷ []; sessions = r.sessions; ended = r.ended })
stop-refused r id conn n k room h = by_place (position (is_live_as id) r.table.seats) refl
  where
    by_place : (o : Option ℕ) → position (is_live_as id) r.table.seats ≡ o →
        IsKept (record { table = after_stop r.table id; decisions = r.decisions ++ decision.Refused id ∷ []; sessions = r.sessions; ended = r.ended })
    by_place (Some slot) p = let t : stop_answer r.table id conn ≡ answer.Ticket (record { id = id; slot = slot; conn = conn }) = rw p refl in cc
    by_place None p = rw p (decided-kept r (decision.Refused id) k room (refused-borne r id k p))

-- ---- all writers have ended

ended-fit : (ended : Bool) (ticket : Option ℕ) (x : Fate) → is_fit ended ticket x ≡ true → is_fit true ticket x ≡ true
ended-fit ended ticket (fate.Requested c) h = h
ended-fit true ticket fate.ProgramEnd h = h
ended-fit false ticket fate.ProgramEnd h = cc
ended-fit ended ticket fate.LinkFault h = h
ended-fit ended ticket fate.TooLong h = h
ended-fit ended ticket fate.OutOfMemory h = h

ended-fitting : (ended : Bool) (ticket : Option ℕ) (t : Stage) → is_fitting ended ticket t ≡ true → is_fitting true ticket t ≡ true
ended-fitting ended ticket stage.Serving h = h
ended-fitting ended ticket (stage.Ending x) h = ended-fit ended ticket x h
ended-fitting ended ticket (stage.Over x) h = ended-fit ended ticket x h
ended-fitting ended ticket stage.Failed h = h

pub ended-kept : (r : Recorded) → IsKept r → IsKept (record r { ended = true })
ended-kept r k = record {
  places = k.places;
  next_id = k.next_id;
  few = k.few;
  room = k.room;
  borne = k.borne;
  rising = k.rising;
  known =
      λ id e at.
      let s = k.known id e at in
      record {
        first = s.first;
        last = s.last;
        asked = s.asked;
        later = s.later;
        stopped = s.stopped;
        fate = ended-fitting r.ended e.ticket e.stage s.fate;
        gone = s.gone;
        past = s.past;
        seat = s.seat;
      };
  seated = k.seated;
  held = k.held;
}

-- ---- a start fails

accepts-one : (n m : ℕ) (d : Decision) → accepts n d ≡ true → accepts m d ≡ true → n ≡ m
accepts-one n m decision.Nothing h g = cc
accepts-one n m (decision.Accepted x) h g = sym (eqb-true x n h) ∙ eqb-true x m g
accepts-one n m decision.Full h g = cc
accepts-one n m (decision.Ticket x) h g = cc
accepts-one n m (decision.Refused x) h g = cc

accepts-no : (n m : ℕ) (d : Decision) → accepts n d ≡ true → stops m d ≡ false
accepts-no n m decision.Nothing h = cc
accepts-no n m (decision.Accepted x) h = refl
accepts-no n m decision.Full h = cc
accepts-no n m (decision.Ticket x) h = cc
accepts-no n m (decision.Refused x) h = cc

-- The session of a decision that accepts was asked for by its connection.
asked-of : (sessions : List Entry) (conn n : ℕ) (d : Decision) → accepts n d ≡ true → is_borne sessions conn d ≡ true → passes (is_asked_by conn) (item sessions n) ≡ true
asked-of sessions conn n decision.Nothing h b = cc
asked-of sessions conn n (decision.Accepted x) h b = ap (λ m. passes (is_asked_by conn) (item sessions m)) (sym (eqb-true x n h)) ∙ b
asked-of sessions conn n decision.Full h b = cc
asked-of sessions conn n (decision.Ticket x) h b = cc
asked-of sessions conn n (decision.Refused x) h b = cc

place-before : (n : ℕ) → 0 < n → (place : ℕ) × (n ≡ place + 1)
place-before zero h = absurd (omega arith)
place-before (suc k) h = (k, omega arith)

pub failed-kept : (r : Recorded) (id : ℕ) (e : Entry) (d : Decision) → IsKept r → item r.sessions id ≡ Some e → is_serving e.stage ≡ true →
    item r.decisions (length r.decisions) ≡ Some d → accepts id d ≡ true →
    IsKept (record {
      table = record { seats = set r.table.seats e.slot None; next = r.table.next };
      decisions = with_item r.decisions (length r.decisions) decision.Nothing;
      sessions = with_item r.sessions id (staged stage.Failed (length r.decisions) e);
      ended = r.ended;
    })
failed-kept r id e d k there serves last accepted = moved r id e f ds k (record {
  there = there;
  on = on;
  conn = refl;
  place = refl;
  longer = omega (arith, same-length);
  room = let m : length r.decisions ≤ CONNECTIONS = k.room in omega (arith, same-length);
  accepted = λ n conn other t. kept-accepted n conn other t;
  tickets = λ n conn t. passes-set (stops n) r.decisions (length r.decisions) conn d decision.Nothing last (λ h. let no : stops n d ≡ false = accepts-no id n d accepted in cc) t;
  borne = λ place x at. by_item place x (item-set-is r.decisions (length r.decisions) (place + 1) d decision.Nothing x last (item-at ds place ∙ at));
  own = record {
    first = s.first;
    last = let l : e.conn ≤ length r.decisions = s.last in omega (arith, same-length);
    asked = λ h. cc;
    later = s.later;
    stopped = λ conn h. let n : e.ticket ≡ None = no-ticket in absurd (let q : Some conn ≡ None = sym h ∙ n in cc);
    fate = rw no-ticket refl;
    gone = gone-some (length r.decisions) e.gone;
    past = λ n h. let p = gone-past (length r.decisions) n (length r.decisions) e.gone (omega arith) s.past h in omega (arith, same-length, p);
    seat = λ h. cc;
  };
})
  where
    s : IsSession r.table.seats r.decisions r.ended id e
    s = k.known id e there

    f : Entry
    f = staged stage.Failed (length r.decisions) e

    on : is_on e ≡ true
    on = serving-on e.stage serves

    ds : List Decision
    ds = with_item r.decisions (length r.decisions) decision.Nothing

    same-length : length ds ≡ length r.decisions
    same-length = length-set r.decisions (length r.decisions - 1) decision.Nothing

    conn-last : e.conn ≡ length r.decisions
    conn-last =
        let p = place-before (length r.decisions) (item-within r.decisions (length r.decisions) d last).0 in
        let at : slice_get r.decisions p.0 ≡ Some d = sym (item-at r.decisions p.0) ∙ ap (item r.decisions) (sym p.1) ∙ last in
        let c = asked-of r.sessions (p.0 + 1) id d accepted (k.borne p.0 d at) in
        let t = and_parts (eqb e.conn (p.0 + 1)) (is_session e) (passes-is (is_asked_by (p.0 + 1)) r.sessions id e c there) in
        eqb-true e.conn (p.0 + 1) t.0 ∙ sym p.1

    no-ticket : e.ticket ≡ None
    no-ticket = by_ticket e.ticket refl
      where
        by_ticket : (o : Option ℕ) → e.ticket ≡ o → e.ticket ≡ None
        by_ticket None h = h
        by_ticket (Some conn) h = absurd (
            let l : e.conn < conn = s.later conn h in
            let w = passes-within (stops id) r.decisions conn (s.stopped conn h) in
            let c : e.conn ≡ length r.decisions = conn-last in omega (arith, w.1))

    kept-accepted : (n conn : ℕ) → n ≢ id → passes (accepts n) (item r.decisions conn) ≡ true → passes (accepts n) (item ds conn) ≡ true
    kept-accepted n conn other t =
        passes-set (accepts n) r.decisions (length r.decisions) conn d decision.Nothing last (λ h. absurd (other (accepts-one n id d h accepted))) t

    by_item : (place : ℕ) (x : Decision) →
        ((place + 1 ≡ length r.decisions) × (x ≡ decision.Nothing)) ⊎ ((place + 1 ≢ length r.decisions) × (item r.decisions (place + 1) ≡ Some x)) →
        is_borne (with_item r.sessions id f) (place + 1) x ≡ true
    by_item place x (inl t) = rw t.1 refl
    by_item place x (inr t) =
        let within = item-within r.decisions (place + 1) x t.1 in
        let differs : length r.decisions ≢ place + 1 = λ q. t.0 (sym q) in
        let not-asked : eqb e.conn (place + 1) ≡ false = let c : e.conn ≡ length r.decisions = conn-last in rw c (grind arith) in
        let not-earlier : nat_lt e.conn (place + 1) ≡ false = let c : e.conn ≡ length r.decisions = conn-last in let w = within.1 in grind arith in
        borne-set r.sessions id e f (place + 1) x there
        (λ h. let q : false ≡ true = sym (rw not-asked refl) ∙ h in cc)
        (rw not-earlier refl)
        (λ h. h)
        (λ h. or-later (nat_lt (place + 1) e.conn) h)
        (k.borne place x (sym (item-at r.decisions place) ∙ t.1))
      where
        or-later : (b : Bool) → (b || is_below (place + 1) e.gone) ≡ true → (b || is_below (place + 1) (gone_at (length r.decisions) e.gone)) ≡ true
        or-later true h = refl
        or-later false h = gone-below (length r.decisions) (place + 1) e.gone h

pub failed-last : (r : Recorded) (id : ℕ) (e : Entry) → IsKept r → item r.sessions id ≡ Some e → is_serving e.stage ≡ true → is_last r.decisions id ≡ true →
    IsKept (record {
      table = record { seats = set r.table.seats e.slot None; next = r.table.next };
      decisions = with_item r.decisions (length r.decisions) decision.Nothing;
      sessions = with_item r.sessions id (staged stage.Failed (length r.decisions) e);
      ended = r.ended;
    })
failed-last r id e k there serves last = by_case (item r.decisions (length r.decisions)) refl
  where
    by_case : (o : Option Decision) → item r.decisions (length r.decisions) ≡ o →
        IsKept (record {
          table = record { seats = set r.table.seats e.slot None; next = r.table.next };
          decisions = with_item r.decisions (length r.decisions) decision.Nothing;
          sessions = with_item r.sessions id (staged stage.Failed (length r.decisions) e);
          ended = r.ended;
        })
    by_case None h = absurd (let f : is_last r.decisions id ≡ false = rw h refl in let q : true ≡ false = sym last ∙ f in cc)
    by_case (Some d) h = failed-kept r id e d k there serves h (passes-is (accepts id) r.decisions (length r.decisions) d last h)
