-- What each call leaves is tied.
use Rattle.std.proofs.Common.{◌≡◌, ℕ, zero, suc, ◌+◌, ◌-◌, ◌<◌, ◌≤◌, Bool, true, false, ◌&&◌, not, Option, Some, None, List, [], ◌∷◌, ◌++◌, length, replicate, set, slice_get, refl, ap, sym, ◌∙◌, arith, subst, cond, if◌then◌else◌, count_by}
use Rattle.std.specs.Prelude.{position}
use Rattle.std.proofs.lemmas.List.Quantifiers.{position-Some}
use Rattle.std.proofs.Math.Bool.{and-true}
use Rattle.std.proofs.lemmas.List.{length-set, length-replicate}
use Rattle.ep_table.proofs.Places.{get-set, get-set_other}
use Rattle.ep_tie.specs.Tied.{Tied}
use Rattle.ep_table.specs.Sessions.{Sessions, is_free, accepted_by, after_accept, after_stop, after_free}
use Rattle.ep_table.specs.declared.limits.TheConstants.{SLOTS}
use Rattle.ep_table.specs.declared.table.Accepted.TheVariants as accepted
use Rattle.ep_table.specs.declared.table.StopAnswer.{StopAnswer}
use Rattle.ep_table.specs.declared.table.StopAnswer.TheVariants as answer
use Rattle.ep_journal.specs.declared.limits.TheConstants.{CONNECTIONS}
use Rattle.ep_journal.specs.declared.decision.Decision.{Decision}
use Rattle.ep_journal.specs.declared.decision.Decision.TheVariants as decision
use Rattle.ep_journal.specs.declared.session.Entry.{Entry}
use Rattle.ep_journal.specs.declared.session.Fate.{Fate}
use Rattle.ep_journal.specs.declared.session.Fate.TheVariants as fate
use Rattle.ep_journal.specs.declared.session.Opened.{Opened}
use Rattle.ep_journal.specs.declared.session.Opened.TheVariants as opened
use Rattle.ep_journal.specs.declared.session.Stage.{Stage}
use Rattle.ep_journal.specs.declared.session.Stage.TheVariants as stage
use Rattle.ep_registry.specs.declared.hold.Hold.{Hold}
use Rattle.ep_registry.specs.declared.server.Mark.{Mark}
use Rattle.ep_registry.specs.declared.server.Mark.TheVariants as mark
use Rattle.ep_journal.specs.Items.{item, with_item}
use Rattle.ep_journal.specs.Recorded.{Recorded, nothing_recorded, is_serving, may_end, stopped, staged, opened_at, with_rows, changed_at, decided, after_accepting, stopped_as, answer_to, after_stopping, after_failing, after_end, after_opening, found, after_looking}
use Rattle.ep_journal.specs.Kept.{was_early, was_late, is_on, is_of, is_session, is_early, is_late, IsKept}
use Rattle.ep_registry.specs.Places.{numbered}
use Rattle.ep_registry.specs.Held.{hold_of, hold_at, stage_found}
use Rattle.ep_registry.specs.Registered.{Desk, IsTied, IsMarked, counted_if}
use Rattle.ep_journal.proofs.Items.{count-item}
use Rattle.ep_journal.proofs.Methods.{set-same, serving-on, may-on}
use Rattle.ep_registry.proofs.Tied.{held-entry, held-set, held-same, marked-keeps, told-tied, changed-tied, put-changes, begun-tied}

-- ---- the tie of the decisions

pub book-set : (book : List (Option (List Decision))) (x y : List Decision) → book ≡ Some x ∷ [] → set book 0 (Some y) ≡ Some y ∷ []
book-set book x y e = rw e refl

-- A registry whose server's half shows these decisions.
abbrev told : Desk → Recorded → Desk
told d r = record d { recorded = r; book = set d.book 0 (Some r.decisions) }

pub passed : (d : Desk) (x : Decision) → IsTied d → IsTied (told d (decided d.recorded x))
passed d x t = rw (book-set d.book d.recorded.decisions (d.recorded.decisions ++ x ∷ []) t.book) (told-tied d d.recorded.table (d.recorded.decisions ++ x ∷ []) d.recorded.ended t)

-- ---- a session is accepted

seat-of : (r : Recorded) (slot id : ℕ) → accepted_by r.table ≡ accepted.Seat slot id → id ≡ r.table.next
seat-of r slot id h = by_place (position is_free r.table.seats) refl
  where
    by_place : (o : Option ℕ) → position is_free r.table.seats ≡ o → id ≡ r.table.next
    by_place None p = let full : accepted_by r.table ≡ accepted.Full = rw p refl in cc
    by_place (Some s) p =
        let seat : accepted_by r.table ≡ accepted.Seat s r.table.next = rw p refl in
        let a : accepted.Seat s r.table.next ≡ accepted.Seat slot id = sym seat ∙ h in
        let same : r.table.next ≡ id = cc in sym same

pub next-id : (r : Recorded) (slot id : ℕ) → IsKept r → accepted_by r.table ≡ accepted.Seat slot id → id ≡ length r.sessions + 1
next-id r slot id k h = seat-of r slot id h ∙ k.next_id

pub session-room : (r : Recorded) → IsKept r → length r.decisions < CONNECTIONS → length r.sessions < CONNECTIONS
session-room r k room = let a : length r.sessions ≤ length r.decisions = k.few in omega (arith, a)

pub seated : (d : Desk) (slot id : ℕ) (spare : List (Tied (Option Hold))) → IsTied d → IsKept d.recorded → length d.recorded.decisions < CONNECTIONS → d.closed ≡ false →
    accepted_by d.recorded.table ≡ accepted.Seat slot id → spare ≡ numbered (CONNECTIONS - (length d.recorded.sessions + 1)) None →
    IsTied (record (told d (after_accepting d.recorded)) {
      holds = set d.holds (CONNECTIONS - id) (Some (Some (record { id = id; conn = length d.recorded.decisions + 1; slot = slot; stage = stage.Serving; opened = opened.No })));
      spare = spare;
    })
seated d slot id spare t k room unclosed h s =
    let n = next-id d.recorded slot id k h in
    rw (h, s, n, book-set d.book d.recorded.decisions (d.recorded.decisions ++ decision.Accepted (length d.recorded.sessions + 1) ∷ []) t.book)
    (begun-tied d (after_accept d.recorded.table) (d.recorded.decisions ++ decision.Accepted (length d.recorded.sessions + 1) ∷ []) d.recorded.ended (length d.recorded.decisions + 1) slot t
    (session-room d.recorded k room) unclosed)

-- ---- a session is stopped

changed-same : (d : Desk) (table : Sessions) (decisions : List Decision) (id conn count : ℕ) (o : Option Entry) → IsTied d → item d.recorded.sessions id ≡ o →
    IsTied (record d {
      recorded = record { table = table; decisions = decisions; sessions = changed_at (stopped conn count) d.recorded.sessions id o; ended = d.recorded.ended };
      book = Some decisions ∷ [];
    })
changed-same d table decisions id conn count None t there = told-tied d table decisions d.recorded.ended t
changed-same d table decisions id conn count (Some e) t there =
    changed-tied d table decisions d.recorded.ended id e (stopped conn count e) d.holds t
    (record { there = there; slot = refl; on = λ h. h; early = refl; late = refl; places = t.places; holds = held-same d.holds d.recorded.sessions id e (stopped conn count e) t.holds there refl })

stopped-tied : (d : Desk) (a : StopAnswer) → IsTied d → IsTied (told d (stopped_as d.recorded a))
stopped-tied d (answer.Ticket ticket) t =
    rw (book-set d.book d.recorded.decisions (d.recorded.decisions ++ decision.Ticket ticket.id ∷ []) t.book)
    (changed-same d (after_stop d.recorded.table ticket.id) (d.recorded.decisions ++ decision.Ticket ticket.id ∷ []) ticket.id ticket.conn (length d.recorded.decisions)
    (item d.recorded.sessions ticket.id) t refl)
stopped-tied d (answer.NotLive id) t = passed d (decision.Refused id) t

pub stopped-told : (d : Desk) (id : ℕ) → IsTied d → IsTied (told d (after_stopping d.recorded id))
stopped-told d id t = stopped-tied d (answer_to d.recorded id) t

-- ---- a session goes to another stage

-- Whoever has the session knows of another stage.
abbrev put : Desk → Hold → Desk
put d hold = record d { holds = set d.holds (CONNECTIONS - hold.id) (Some (Some hold)) }

one-stage : (hold : Hold) (id : ℕ) (e : Entry) (to : Stage) (count : ℕ) → hold ≡ hold_of id e → (let k : Hold = record hold { stage = to } in k) ≡ hold_of id (staged to count e)
one-stage hold id e to count h = ap (λ (k : Hold). let m : Hold = record k { stage = to } in m) h

failed-early : (e : Entry) (count : ℕ) → e.opened ≡ opened.No → is_early (staged stage.Failed count e) ≡ is_early e
failed-early e count h = rw h refl

failed-late : (e : Entry) (count : ℕ) → e.opened ≡ opened.No → is_late (staged stage.Failed count e) ≡ is_late e
failed-late e count h = rw h refl

pub failed-tied : (d : Desk) (hold : Hold) → IsTied d → hold.id ≤ CONNECTIONS → hold_at d.recorded.sessions hold.id ≡ Some hold → is_serving hold.stage ≡ true → hold.opened ≡ opened.No →
    IsTied (put (told d (after_failing d.recorded hold.id)) (record hold { stage = stage.Failed }))
failed-tied d hold t last h serves fresh =
    let e = held-entry d.recorded.sessions hold.id hold h in
    let f : Entry = staged stage.Failed (length d.recorded.decisions) e.0 in
    let decisions : List Decision = with_item d.recorded.decisions (length d.recorded.decisions) decision.Nothing in
    let same = one-stage hold hold.id e.0 stage.Failed (length d.recorded.decisions) e.2 in
    let was : e.0.opened ≡ opened.No = sym (ap (λ (k : Hold). k.opened) e.2) ∙ fresh in
    rw (book-set d.book d.recorded.decisions decisions t.book, same, e.1)
    (changed-tied d (after_free d.recorded.table e.0.slot) decisions d.recorded.ended hold.id e.0 f (set d.holds (CONNECTIONS - hold.id) (Some (Some (hold_of hold.id f)))) t
    (put-changes d hold.id e.0 f t last e.1 refl (λ q. absurd (let no : false ≡ true = q in cc)) (failed-early e.0 (length d.recorded.decisions) was) (failed-late e.0 (length d.recorded.decisions) was)))

over-early : (e : Entry) (to : Stage) (count : ℕ) → is_session (staged to count e) ≡ is_session e → is_early (staged to count e) ≡ is_early e
over-early e to count h = ap (λ b. was_early e.opened && b) h

over-late : (e : Entry) (to : Stage) (count : ℕ) → is_session (staged to count e) ≡ is_session e → is_late (staged to count e) ≡ is_late e
over-late e to count h = ap (λ b. was_late e.opened && b) h

on-session : (e : Entry) → is_on e ≡ true → is_session e ≡ true
on-session e h = by_stage e.stage refl
  where
    by_stage : (s : Stage) → e.stage ≡ s → is_session e ≡ true
    by_stage stage.Serving q = rw q refl
    by_stage (stage.Ending x) q = rw q refl
    by_stage (stage.Over x) q = rw q refl
    by_stage stage.Failed q = absurd (let no : is_on e ≡ false = rw q refl in let w : true ≡ false = sym h ∙ no in cc)

pub ended-tied : (d : Desk) (hold : Hold) (x : Fate) → IsTied d → hold.id ≤ CONNECTIONS → hold_at d.recorded.sessions hold.id ≡ Some hold → may_end x hold.stage ≡ true →
    IsTied (put (record d { recorded = after_end d.recorded hold.id x }) (record hold { stage = stage.Over x }))
ended-tied d hold x t last h may =
    let e = held-entry d.recorded.sessions hold.id hold h in
    let f : Entry = staged (stage.Over x) (length d.recorded.decisions) e.0 in
    let same = one-stage hold hold.id e.0 (stage.Over x) (length d.recorded.decisions) e.2 in
    let was : may_end x e.0.stage ≡ true = sym (ap (λ (k : Hold). may_end x k.stage) e.2) ∙ may in
    let some : is_session e.0 ≡ true = on-session e.0 (may-on x e.0.stage was) in
    rw (t.book, same, e.1)
    (changed-tied d (after_free d.recorded.table e.0.slot) d.recorded.decisions d.recorded.ended hold.id e.0 f (set d.holds (CONNECTIONS - hold.id) (Some (Some (hold_of hold.id f)))) t
    (put-changes d hold.id e.0 f t last e.1 refl (λ q. absurd (let no : false ≡ true = q in cc)) (over-early e.0 (stage.Over x) (length d.recorded.decisions) (sym some)) (over-late e.0 (stage.Over x) (length d.recorded.decisions) (sym some))))

-- ---- a role looks at its session

looked-as : (d : Desk) (hold : Hold) (e : Entry) (x : Fate) (table : Sessions) → IsTied d → hold.id ≤ CONNECTIONS → item d.recorded.sessions hold.id ≡ Some e → hold ≡ hold_of hold.id e →
    is_serving e.stage ≡ true →
    IsTied (put (record d { recorded = record d.recorded { table = table; sessions = with_item d.recorded.sessions hold.id (staged (stage.Ending x) (length d.recorded.decisions) e) } })
    (record hold { stage = stage.Ending x }))
looked-as d hold e x table t last there is serves =
    let f : Entry = staged (stage.Ending x) (length d.recorded.decisions) e in
    let same = one-stage hold hold.id e (stage.Ending x) (length d.recorded.decisions) is in
    let on : is_on e ≡ true = serving-on e.stage serves in
    rw (t.book, same)
    (changed-tied d table d.recorded.decisions d.recorded.ended hold.id e f (set d.holds (CONNECTIONS - hold.id) (Some (Some (hold_of hold.id f)))) t
    (put-changes d hold.id e f t last there refl (λ q. on) (over-early e (stage.Ending x) (length d.recorded.decisions) (sym (on-session e on))) (over-late e (stage.Ending x) (length d.recorded.decisions) (sym (on-session e on)))))

put-same : (d : Desk) (hold : Hold) → IsTied d → 0 < hold.id → hold.id ≤ CONNECTIONS → hold_at d.recorded.sessions hold.id ≡ Some hold → IsTied (put d hold)
put-same d hold t first last h =
    let at : slice_get d.holds (CONNECTIONS - hold.id) ≡ Some (Some (Some hold)) = t.holds hold.id first last ∙ ap (λ (k : Option Hold). let q : Option (Option (Option Hold)) = Some (Some k) in q) h in
    rw (set-same d.holds (CONNECTIONS - hold.id) (Some (Some hold)) at) t

pub looked-tied : (d : Desk) (hold : Hold) → IsTied d → 0 < hold.id → hold.id ≤ CONNECTIONS → hold_at d.recorded.sessions hold.id ≡ Some hold → is_serving hold.stage ≡ true →
    IsTied (put (record d { recorded = after_looking d.recorded hold.id }) (record hold { stage = stage_found hold.stage (found d.recorded hold.id) }))
looked-tied d hold t first last h serves = by_ticket e.0.ticket refl d.recorded.ended refl
  where
    e : (x : Entry) × (item d.recorded.sessions hold.id ≡ Some x) × (hold ≡ hold_of hold.id x)
    e = held-entry d.recorded.sessions hold.id hold h

    was : is_serving e.0.stage ≡ true
    was = sym (ap (λ (k : Hold). is_serving k.stage) e.2) ∙ serves

    by_ended : (b : Bool) →
        IsTied (put (record d {
          recorded =
              if b
              then record d.recorded {
                table = after_stop d.recorded.table hold.id;
                sessions = with_item d.recorded.sessions hold.id (staged (stage.Ending fate.ProgramEnd) (length d.recorded.decisions) e.0);
              }
              else d.recorded;
        }) (record hold { stage = stage_found hold.stage (if b then Some fate.ProgramEnd else None) }))
    by_ended true = looked-as d hold e.0 fate.ProgramEnd (after_stop d.recorded.table hold.id) t last e.1 e.2 was
    by_ended false = put-same d hold t first last h

    by_ticket : (o : Option ℕ) → e.0.ticket ≡ o → (ended : Bool) → d.recorded.ended ≡ ended →
        IsTied (put (record d { recorded = after_looking d.recorded hold.id }) (record hold { stage = stage_found hold.stage (found d.recorded hold.id) }))
    by_ticket (Some conn) o ended q = rw (e.1, o, e.1) (looked-as d hold e.0 (fate.Requested conn) d.recorded.table t last e.1 e.2 was)
    by_ticket None o ended q = rw (e.1, o, e.1) (by_ended d.recorded.ended)

-- ---- a session is opened

abbrev one-if : Bool → ℕ
one-if b = cond b 1 0

if-count : (b : Bool) → one-if b ≡ counted_if b
if-count true = refl
if-count false = refl

as-early : (early : Bool) → was_early (opened_at early) ≡ early
as-early true = refl
as-early false = refl

as-late : (early : Bool) → was_late (opened_at early) ≡ not early
as-late true = refl
as-late false = refl

pub opened-tied : (d : Desk) (hold : Hold) (early : Bool) → IsTied d → hold.id ≤ CONNECTIONS → hold_at d.recorded.sessions hold.id ≡ Some hold → is_serving hold.stage ≡ true →
    hold.opened ≡ opened.No →
    IsTied (record (put (record d { recorded = after_opening d.recorded hold.id early }) (record hold { opened = opened_at early })) {
      early = d.early + counted_if early;
      late = d.late + counted_if (not early);
      marks = set d.marks SLOTS (Some (mark.Server (d.early + counted_if early) (d.late + counted_if (not early)) d.closed));
    })
opened-tied d hold early t last h serves fresh = rw (e.1, same) (record {
  book = t.book;
  places = length-set d.holds (CONNECTIONS - hold.id) (Some (Some (hold_of hold.id f))) ∙ t.places;
  holds = held-set d.holds d.recorded.sessions hold.id e.0 f t.places last t.holds e.1;
  spare = t.spare ∙ ap (λ n. numbered (CONNECTIONS - n) None) (sym (length-set d.recorded.sessions (hold.id - 1) f));
  few = let n = length-set d.recorded.sessions (hold.id - 1) f in let l : length d.recorded.sessions ≤ CONNECTIONS = t.few in omega (arith, n, l);
  marks = length-set d.marks SLOTS shown ∙ t.marks;
  server = get-set d.marks SLOTS shown (let m : length d.marks ≡ SLOTS + 1 = t.marks in omega (arith, m));
  early =
      let c = count-item is_early d.recorded.sessions hold.id e.0 f e.1 in
      let b : d.early ≡ count_by is_early d.recorded.sessions = t.early in
      omega (arith, c, b, ap one-if (before was_early refl), ap one-if (after was_early), ap one-if (as-early early), if-count early);
  late =
      let c = count-item is_late d.recorded.sessions hold.id e.0 f e.1 in
      let b : d.late ≡ count_by is_late d.recorded.sessions = t.late in
      omega (arith, c, b, ap one-if (before was_late refl), ap one-if (after was_late), ap one-if (as-late early), if-count (not early));
  role =
      λ role l.
      let m : slice_get (set d.marks SLOTS shown) role ≡ slice_get d.marks role = get-set_other d.marks SLOTS role shown (λ q. absurd (omega (arith, q, l))) in
      rw m (marked-keeps d desk role (slice_get d.marks role) refl (λ q. q) (λ q n. none role n) (t.role role l));
  some = t.some;
})
  where
    e : (x : Entry) × (item d.recorded.sessions hold.id ≡ Some x) × (hold ≡ hold_of hold.id x)
    e = held-entry d.recorded.sessions hold.id hold h

    f : Entry
    f = with_rows early e.0

    shown : Option Mark
    shown = Some (mark.Server (d.early + counted_if early) (d.late + counted_if (not early)) d.closed)

    desk : Desk
    desk = record d {
      recorded = record d.recorded { sessions = with_item d.recorded.sessions hold.id f };
      holds = set d.holds (CONNECTIONS - hold.id) (Some (Some (hold_of hold.id f)));
      early = d.early + counted_if early;
      late = d.late + counted_if (not early);
      marks = set d.marks SLOTS shown;
    }

    same : (let k : Hold = record hold { opened = opened_at early } in k) ≡ hold_of hold.id f
    same = ap (λ (k : Hold). let m : Hold = record k { opened = opened_at early } in m) e.2

    was : is_serving e.0.stage ≡ true
    was = sym (ap (λ (k : Hold). is_serving k.stage) e.2) ∙ serves

    session : is_session e.0 ≡ true
    session = on-session e.0 (serving-on e.0.stage was)

    unopened : e.0.opened ≡ opened.No
    unopened = sym (ap (λ (k : Hold). k.opened) e.2) ∙ fresh

    -- It was not counted before.
    before : (is : Opened → Bool) → is opened.No ≡ false → (is e.0.opened && is_session e.0) ≡ false
    before is off = rw (unopened, off) refl

    -- It is counted as it was opened.
    after : (is : Opened → Bool) → (is (opened_at early) && is_session e.0) ≡ is (opened_at early)
    after is = rw session (and-true (is (opened_at early)))

    none : (role : ℕ) → count_by (is_of d.roles role) d.recorded.sessions ≡ 0 → count_by (is_of d.roles role) (with_item d.recorded.sessions hold.id f) ≡ 0
    none role n = let c = count-item (is_of d.roles role) d.recorded.sessions hold.id e.0 f e.1 in omega (arith, n, c)

-- ---- the server and the roles end

pub closed-tied : (d : Desk) → IsTied d → IsTied (record d { closed = true; marks = set d.marks SLOTS (Some (mark.Server d.early d.late true)) })
closed-tied d t = record {
  book = t.book;
  places = t.places;
  holds = t.holds;
  spare = t.spare;
  few = t.few;
  marks = length-set d.marks SLOTS shown ∙ t.marks;
  server = get-set d.marks SLOTS shown (let m : length d.marks ≡ SLOTS + 1 = t.marks in omega (arith, m));
  early = t.early;
  late = t.late;
  role =
      λ role l.
      let m : slice_get (set d.marks SLOTS shown) role ≡ slice_get d.marks role = get-set_other d.marks SLOTS role shown (λ q. absurd (omega (arith, q, l))) in
      rw m (marked-keeps d (record d { closed = true; marks = set d.marks SLOTS shown }) role (slice_get d.marks role) refl (λ q. refl) (λ q n. n) (t.role role l));
  some = t.some;
}
  where
    shown : Option Mark
    shown = Some (mark.Server d.early d.late true)

-- ---- the start

get-replicate : {A : Type 0} (n k : ℕ) (x : A) → k < n → slice_get (replicate n x) k ≡ Some x
get-replicate zero k x l = absurd (omega arith)
get-replicate (suc n) zero x l = refl
get-replicate (suc n) (suc k) x l = get-replicate n k x (omega arith)

none-at : (id : ℕ) → hold_at [] id ≡ None
none-at zero = refl
none-at (suc k) = refl

-- The marks at the start.
abbrev first_marks : ℕ → List (Option Mark)
first_marks roles = set (replicate (SLOTS + 1) (Some (mark.Role roles false))) SLOTS (Some (mark.Server 0 0 false))

pub start-tied : (d : Desk) → d.recorded ≡ nothing_recorded → d.book ≡ Some [] ∷ [] → d.holds ≡ replicate CONNECTIONS (Some None) → d.spare ≡ numbered CONNECTIONS None →
    d.marks ≡ first_marks d.roles → d.closed ≡ false → d.early ≡ 0 → d.late ≡ 0 → 0 < d.roles → IsTied d
start-tied d nothing book holds spare marks unclosed early late some = record {
  book = rw nothing book;
  places = rw holds (length-replicate {A = Option (Option Hold)} CONNECTIONS (Some None));
  holds = λ id first last. rw (nothing, none-at id, holds) (get-replicate {A = Option (Option Hold)} CONNECTIONS (CONNECTIONS - id) (Some None) (omega (arith, first, last)));
  spare = rw nothing spare;
  few = rw nothing (omega arith);
  marks = rw marks (length-set (replicate (SLOTS + 1) first) SLOTS server ∙ length-replicate {A = Option Mark} (SLOTS + 1) first);
  server = rw (marks, unclosed, early, late) (get-set (replicate (SLOTS + 1) first) SLOTS server (let n = length-replicate {A = Option Mark} (SLOTS + 1) first in omega (arith, n)));
  early = rw (nothing, early) refl;
  late = rw (nothing, late) refl;
  role =
      λ role l.
      let other : slice_get (set (replicate (SLOTS + 1) first) SLOTS server) role ≡ slice_get (replicate (SLOTS + 1) first) role =
      get-set_other (replicate (SLOTS + 1) first) SLOTS role server (λ q. absurd (omega (arith, q, l))) in
      let at : slice_get d.marks role ≡ Some first = ap (λ (m : List (Option Mark)). slice_get m role) marks ∙ other ∙ get-replicate (SLOTS + 1) role first (omega (arith, l)) in
      let own : IsMarked d role (Some first) = (refl, λ q. absurd (let no : false ≡ true = q in cc)) in
      subst (IsMarked d role) (sym at) own;
  some = some;
}
  where
    first : Option Mark
    first = Some (mark.Role d.roles false)

    server : Option Mark
    server = Some (mark.Server 0 0 false)

-- ---- what the calls ask

pub seat-within : (r : Recorded) (slot id : ℕ) → IsKept r → accepted_by r.table ≡ accepted.Seat slot id → slot < SLOTS
seat-within r slot id k h = by_place (position is_free r.table.seats) refl
  where
    by_place : (o : Option ℕ) → position is_free r.table.seats ≡ o → slot < SLOTS
    by_place None p = absurd (let full : accepted_by r.table ≡ accepted.Full = rw p refl in let q : accepted.Full ≡ accepted.Seat slot id = sym full ∙ h in cc)
    by_place (Some s) p =
        let seat : accepted_by r.table ≡ accepted.Seat s r.table.next = rw p refl in
        let a : accepted.Seat s r.table.next ≡ accepted.Seat slot id = sym seat ∙ h in
        let same : s ≡ slot = cc in
        let l : s < length r.table.seats = (position-Some is_free r.table.seats s None p).0 in
        let all : length r.table.seats ≡ SLOTS = k.places in omega (arith, same, l, all)

pub counted-small : (b : Bool) → counted_if b ≤ 1
counted-small true = omega arith
counted-small false = omega arith
