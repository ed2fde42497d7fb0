-- What is left of the sessions after each call, and who waits.
use Rattle.std.proofs.Common.{◌≡◌, ◌≢◌, ℕ, zero, suc, ◌+◌, ◌<◌, ◌≤◌, Bool, true, false, Option, Some, None, List, [], ◌∷◌, ◌++◌, length, set, slice_get, replicate, eqb, if◌then◌else◌, refl, ap, sym, ◌∙◌, arith, ◌⊎◌, inl, inr, count_by}
use Rattle.std.proofs.lemmas.Bool.Decides.{eqb_tells}
use Rattle.std.proofs.lemmas.Option.{same_Some, slice_get_past, slice_get_within}
use Rattle.std.proofs.lemmas.List.{set-set}
use Rattle.ep_table.proofs.Places.{get-set}
use Rattle.ep_registry.specs.Registered.{Registered}
use Rattle.ep_table.specs.Sessions.{accepted_by, after_stop}
use Rattle.ep_table.specs.declared.table.Accepted.{Accepted}
use Rattle.ep_table.specs.declared.table.Accepted.TheVariants as accepted
use Rattle.ep_table.specs.declared.table.StopAnswer.{StopAnswer}
use Rattle.ep_table.specs.declared.table.StopAnswer.TheVariants as answer
use Rattle.ep_journal.specs.declared.limits.TheConstants.{CONNECTIONS}
use Rattle.ep_journal.specs.declared.session.Fate.{Fate}
use Rattle.ep_journal.specs.declared.session.Fate.TheVariants as fate
use Rattle.ep_journal.specs.declared.session.Entry.{Entry}
use Rattle.ep_journal.specs.declared.session.Stage.{Stage}
use Rattle.ep_journal.specs.declared.session.Stage.TheVariants as stage
use Rattle.ep_journal.specs.Items.{item, with_item}
use Rattle.ep_journal.specs.Recorded.{Recorded, goes_on, begun, staged, stopped, with_rows, changed_at, changed, accepted_as, after_accepting, stopped_as, answer_to, after_stopping, after_failing, after_end, after_opening, looked_at, ending, ticket_of, after_looking}
use Rattle.ep_journal.specs.Kept.{is_on, IsKept}
use Rattle.ep_journal.proofs.Items.{get-snoc-is, item-set, item-set-other, item-last}
use Rattle.ep_journal.proofs.Steps.{one-seat}
use Rattle.ep_registry.specs.declared.hold.Hold.{Hold}
use Rattle.ep_registry.specs.Held.{hold_of, hold_at, has_ended, over_as, AreOver, NoneWaits}
use Rattle.ep_registry.proofs.Tied.{held-entry, item-snoc-other}
use Rattle.ep_registry.proofs.Leaves.{one-there}

-- ---- one session changes

on-not-over : (t : Stage) → goes_on t ≡ true → has_ended t ≡ false
on-not-over stage.Serving h = refl
on-not-over (stage.Ending x) h = refl
on-not-over (stage.Over x) h = cc
on-not-over stage.Failed h = cc

not-over : (id : ℕ) (e : Entry) → has_ended e.stage ≡ false → over_as id (Some e) ≡ None
not-over id e h = rw h refl

over-same : (over : List (Option Hold)) (sessions : List Entry) (id : ℕ) (e f : Entry) → AreOver over sessions → item sessions id ≡ Some e →
    over_as id (Some f) ≡ over_as id (Some e) → AreOver over (with_item sessions id f)
over-same over sessions id e f h there same n first last = by_test (eqb_tells n id)
  where
    by_test : ((eqb n id ≡ true) × (n ≡ id)) ⊎ ((eqb n id ≡ false) × (n ≢ id)) → item over n ≡ Some (over_as n (item (with_item sessions id f) n))
    by_test (inl t) =
        let was : item over n ≡ Some (over_as n (item sessions n)) = h n first last in
        let now : over_as id (item (with_item sessions id f) id) ≡ over_as id (item sessions id) = rw (item-set sessions id e f there, there) same in
        was ∙ ap (λ (o : Option Hold). let q : Option (Option Hold) = Some o in q) (ap (λ m. over_as m (item sessions m)) t.1 ∙ sym now ∙ ap (λ m. over_as m (item (with_item sessions id f) m)) (sym t.1))
    by_test (inr t) = h n first last ∙ ap (λ (o : Option Entry). let q : Option (Option Hold) = Some (over_as n o) in q) (sym (item-set-other sessions id n e f there t.1))

changed-over : (over : List (Option Hold)) (sessions : List Entry) (id : ℕ) (change : Entry → Entry) (o : Option Entry) → AreOver over sessions → item sessions id ≡ o →
    ((e : Entry) → o ≡ Some e → over_as id (Some (change e)) ≡ over_as id (Some e)) → AreOver over (changed_at change sessions id o)
changed-over over sessions id change None h there same = h
changed-over over sessions id change (Some e) h there same = over-same over sessions id e (change e) h there (same e refl)

-- ---- a session begins

item-none : {A : Type 0} (xs : List A) → item xs (length xs + 1) ≡ None
item-none xs = let e : length xs + 1 ≡ suc (length xs) = omega arith in rw e (slice_get_past xs (length xs) (omega arith))

begun-over : (over : List (Option Hold)) (sessions : List Entry) (f : Entry) → AreOver over sessions → has_ended f.stage ≡ false → AreOver over (sessions ++ f ∷ [])
begun-over over sessions f h off n first last = by_test (eqb_tells n (length sessions + 1))
  where
    by_test : ((eqb n (length sessions + 1) ≡ true) × (n ≡ length sessions + 1)) ⊎ ((eqb n (length sessions + 1) ≡ false) × (n ≢ length sessions + 1)) →
        item over n ≡ Some (over_as n (item (sessions ++ f ∷ []) n))
    by_test (inl t) =
        let before : item sessions n ≡ None = ap (item sessions) t.1 ∙ item-none sessions in
        let after : item (sessions ++ f ∷ []) n ≡ Some f = item-last sessions n f t.1 in
        let was : item over n ≡ Some None = h n first last ∙ rw before refl in
        was ∙ rw (after, off) refl
    by_test (inr t) = h n first last ∙ ap (λ (o : Option Entry). let q : Option (Option Hold) = Some (over_as n o) in q) (sym (item-snoc-other sessions n f t.1))

accepted-as-over : (over : List (Option Hold)) (r : Recorded) (a : Accepted) → AreOver over r.sessions → AreOver over (accepted_as r a).sessions
accepted-as-over over r (accepted.Seat slot id) h = begun-over over r.sessions (begun (length r.decisions + 1) slot) h refl
accepted-as-over over r accepted.Full h = h

pub accepted-over : (over : List (Option Hold)) (r : Recorded) → AreOver over r.sessions → AreOver over (after_accepting r).sessions
accepted-over over r h = accepted-as-over over r (accepted_by r.table) h

-- ---- a session is stopped, opened, looked at

stopped-as-over : (over : List (Option Hold)) (r : Recorded) (a : StopAnswer) → AreOver over r.sessions → AreOver over (stopped_as r a).sessions
stopped-as-over over r (answer.Ticket ticket) h =
    changed-over over r.sessions ticket.id (stopped ticket.conn (length r.decisions)) (item r.sessions ticket.id) h refl (λ e q. refl)
stopped-as-over over r (answer.NotLive id) h = h

pub stopped-over : (over : List (Option Hold)) (r : Recorded) (id : ℕ) → AreOver over r.sessions → AreOver over (after_stopping r id).sessions
stopped-over over r id h = stopped-as-over over r (answer_to r id) h

-- The session that whoever has it knows goes on.
held-on : (sessions : List Entry) (hold : Hold) → hold_at sessions hold.id ≡ Some hold → goes_on hold.stage ≡ true →
    (e : Entry) × (item sessions hold.id ≡ Some e) × (goes_on e.stage ≡ true) × (hold ≡ hold_of hold.id e)
held-on sessions hold h on =
    let e = held-entry sessions hold.id hold h in (e.0, e.1, ap (λ (k : Hold). goes_on k.stage) (sym e.2) ∙ on, e.2)

-- A session that goes on before and after a change has nothing left.
kept-on : (id : ℕ) (e f : Entry) → goes_on e.stage ≡ true → has_ended f.stage ≡ false → over_as id (Some f) ≡ over_as id (Some e)
kept-on id e f on off = not-over id f off ∙ sym (not-over id e (on-not-over e.stage on))

-- A change after which the session has not ended.
pub held-over : (over : List (Option Hold)) (sessions : List Entry) (hold : Hold) (change : Entry → Entry) → AreOver over sessions → hold_at sessions hold.id ≡ Some hold
    → goes_on hold.stage ≡ true → ((e : Entry) → goes_on e.stage ≡ true → has_ended (change e).stage ≡ false) → AreOver over (changed sessions hold.id change)
held-over over sessions hold change h known on off =
    let e = held-on sessions hold known on in
    changed-over over sessions hold.id change (item sessions hold.id) h refl
    (λ x q. let same : x ≡ e.0 = same_Some x e.0 (sym q ∙ e.1) in
    let goes : goes_on x.stage ≡ true = ap (λ (y : Entry). goes_on y.stage) same ∙ e.2 in kept-on hold.id x (change x) goes (off x goes))

pub opened-over : (over : List (Option Hold)) (r : Recorded) (hold : Hold) (early : Bool) → AreOver over r.sessions → hold_at r.sessions hold.id ≡ Some hold
    → goes_on hold.stage ≡ true → AreOver over (after_opening r hold.id early).sessions
opened-over over r hold early h known on = held-over over r.sessions hold (with_rows early) h known on (λ e goes. on-not-over e.stage goes)

pub failed-over : (over : List (Option Hold)) (r : Recorded) (hold : Hold) → AreOver over r.sessions → hold_at r.sessions hold.id ≡ Some hold
    → goes_on hold.stage ≡ true → AreOver over (after_failing r hold.id).sessions
failed-over over r hold h known on = held-over over r.sessions hold (staged stage.Failed (length r.decisions)) h known on (λ e goes. refl)

pick-over : (over : List (Option Hold)) (b : Bool) (x y : Recorded) → AreOver over x.sessions → AreOver over y.sessions → AreOver over (if b then x else y).sessions
pick-over over true x y p q = p
pick-over over false x y p q = q

looked-at-over : (over : List (Option Hold)) (r : Recorded) (hold : Hold) (o : Option ℕ) → AreOver over r.sessions → hold_at r.sessions hold.id ≡ Some hold
    → goes_on hold.stage ≡ true → AreOver over (looked_at r hold.id o).sessions
looked-at-over over r hold (Some conn) h known on = held-over over r.sessions hold (staged (stage.Ending (fate.Requested conn)) (length r.decisions)) h known on (λ e goes. refl)
looked-at-over over r hold None h known on =
    pick-over over r.ended (record r { table = after_stop r.table hold.id; sessions = ending r hold.id fate.ProgramEnd }) r
    (held-over over r.sessions hold (staged (stage.Ending fate.ProgramEnd) (length r.decisions)) h known on (λ e goes. refl)) h

pub looked-over : (over : List (Option Hold)) (r : Recorded) (hold : Hold) → AreOver over r.sessions → hold_at r.sessions hold.id ≡ Some hold
    → goes_on hold.stage ≡ true → AreOver over (after_looking r hold.id).sessions
looked-over over r hold h known on = looked-at-over over r hold (ticket_of (item r.sessions hold.id)) h known on

-- ---- a session ends

over-put : (over : List (Option Hold)) (sessions : List Entry) (id : ℕ) (e f : Entry) → AreOver over sessions → 0 < id → id ≤ CONNECTIONS → item sessions id ≡ Some e →
    has_ended f.stage ≡ true → AreOver (with_item over id (Some (hold_of id f))) (with_item sessions id f)
over-put over sessions id e f h first last there ended n first' last' = by_test (eqb_tells n id)
  where
    was : item over id ≡ Some (over_as id (item sessions id))
    was = h id first last

    by_test : ((eqb n id ≡ true) × (n ≡ id)) ⊎ ((eqb n id ≡ false) × (n ≢ id)) →
        item (with_item over id (Some (hold_of id f))) n ≡ Some (over_as n (item (with_item sessions id f) n))
    by_test (inl t) = rw t.1 (item-set over id (over_as id (item sessions id)) (Some (hold_of id f)) was ∙ rw (item-set sessions id e f there, ended) refl)
    by_test (inr t) =
        item-set-other over id n (over_as id (item sessions id)) (Some (hold_of id f)) was t.1 ∙ h n first' last'
        ∙ ap (λ (o : Option Entry). let q : Option (Option Hold) = Some (over_as n o) in q) (sym (item-set-other sessions id n e f there t.1))

pub ended-over : (over : List (Option Hold)) (r : Recorded) (hold : Hold) (x : Fate) → AreOver over r.sessions → 0 < hold.id → hold.id ≤ CONNECTIONS →
    hold_at r.sessions hold.id ≡ Some hold → AreOver (with_item over hold.id (Some (record hold { stage = stage.Over x }))) (after_end r hold.id x).sessions
ended-over over r hold x h first last known =
    let e = held-entry r.sessions hold.id hold known in
    let f : Entry = staged (stage.Over x) (length r.decisions) e.0 in
    let same : (let k : Hold = record hold { stage = stage.Over x } in k) ≡ hold_of hold.id f = ap (λ (k : Hold). let m : Hold = record k { stage = stage.Over x } in m) e.2 in
    rw (e.1, same) (over-put over r.sessions hold.id e.0 f h first last e.1 refl)

-- ---- the start

get-none : (n k : ℕ) → k < n → slice_get (replicate {A = Option Hold} n None) k ≡ Some None
get-none zero k l = absurd (omega arith)
get-none (suc n) zero l = refl
get-none (suc n) (suc k) l = get-none n k (omega arith)

pub none-over : AreOver (replicate CONNECTIONS None) []
none-over zero first last = absurd (omega arith)
none-over (suc k) first last = get-none CONNECTIONS k (omega arith)

-- ---- who has a session has it alone

-- Two that go on in one slot are one.
pub one-session : (r : Recorded) (a b : Hold) → IsKept r → hold_at r.sessions a.id ≡ Some a → hold_at r.sessions b.id ≡ Some b → goes_on a.stage ≡ true → goes_on b.stage ≡ true →
    a.slot ≡ b.slot → a.id ≡ b.id
one-session r a b k h g on on' same =
    let e = held-on r.sessions a h on in
    let f = held-on r.sessions b g on' in
    let s : e.0.slot ≡ f.0.slot = ap (λ (x : Hold). x.slot) (sym e.3) ∙ same ∙ ap (λ (x : Hold). x.slot) f.3 in
    one-seat r.table.seats a.id b.id e.0 f.0 e.2 f.2 ((k.known a.id e.0 e.1).seat e.2) ((k.known b.id f.0 f.1).seat f.2) s

-- Where none goes on, nobody has one.
pub nobody-has : (sessions : List Entry) (hold : Hold) → count_by is_on sessions ≡ 0 → hold_at sessions hold.id ≡ Some hold → goes_on hold.stage ≡ true → ⊥
nobody-has sessions hold none h on = let e = held-on sessions hold h on in by_id hold.id e.0 e.1 e.2
  where
    by_id : (id : ℕ) (e : Entry) → item sessions id ≡ Some e → goes_on e.stage ≡ true → ⊥
    by_id zero e there goes = cc
    by_id (suc k) e there goes = let off : is_on e ≡ false = one-there is_on sessions k e there none in let q : true ≡ false = sym goes ∙ off in cc

pub none-more : (xs : List (Option Hold)) (o : Option Hold) → NoneWaits xs → o ≡ None → NoneWaits (xs ++ o ∷ [])
none-more xs o none h place hold at =
    elim (get-snoc-is xs place (Some hold) o at) [ inl t ↦ absurd (let q : Some hold ≡ None = t.1 ∙ h in cc) | inr t ↦ none place hold t ]

-- Where what waited was taken nothing waits.
pub took-none : (xs ys : List (Option Hold)) (k j : ℕ) (o : Option Hold) → slice_get xs k ≡ Some o → ys ≡ set xs k None → j ≡ k → slice_get ys j ≡ Some None
took-none xs ys k j o at taken same = rw (taken, same) (get-set xs k None (slice_get_within xs k o at))

pub put-view : (r : Registered) (k j : ℕ) (o : Option Hold) (ws : List (Option Hold)) → j ≡ k → ws ≡ set (set r.waiting k None) j o →
    (let q : Registered = record r { waiting = ws } in q) ≡ record r { waiting = set r.waiting j o }
put-view r k j o ws same h =
    ap (λ (xs : List (Option Hold)). let q : Registered = record r { waiting = xs } in q) (h ∙ ap (λ n. set (set r.waiting n None) j o) (sym same) ∙ set-set r.waiting j None o)

-- ---- only the writers' end ends the program

accepted-as-ended : (r : Recorded) (a : Accepted) → (accepted_as r a).ended ≡ r.ended
accepted-as-ended r (accepted.Seat slot id) = refl
accepted-as-ended r accepted.Full = refl

pub accepted-ended : (r : Recorded) → (after_accepting r).ended ≡ r.ended
accepted-ended r = accepted-as-ended r (accepted_by r.table)

stopped-as-ended : (r : Recorded) (a : StopAnswer) → (stopped_as r a).ended ≡ r.ended
stopped-as-ended r (answer.Ticket ticket) = refl
stopped-as-ended r (answer.NotLive id) = refl

pub stopped-ended : (r : Recorded) (id : ℕ) → (after_stopping r id).ended ≡ r.ended
stopped-ended r id = stopped-as-ended r (answer_to r id)

pick-ended : (b : Bool) (x y : Recorded) (z : Bool) → x.ended ≡ z → y.ended ≡ z → (if b then x else y).ended ≡ z
pick-ended true x y z p q = p
pick-ended false x y z p q = q

looked-at-ended : (r : Recorded) (id : ℕ) (o : Option ℕ) → (looked_at r id o).ended ≡ r.ended
looked-at-ended r id (Some conn) = refl
looked-at-ended r id None = pick-ended r.ended (record r { table = after_stop r.table id; sessions = ending r id fate.ProgramEnd }) r r.ended refl refl

pub looked-ended : (r : Recorded) (id : ℕ) → (after_looking r id).ended ≡ r.ended
looked-ended r id = looked-at-ended r id (ticket_of (item r.sessions id))
