-- What is kept, when every slot is free.
use Rattle.std.proofs.Common.{◌≡◌, ℕ, zero, suc, ◌+◌, Bool, true, false, ◌&&◌, Option, Some, None, List, get_or, refl, ap, sym, ◌∙◌, arith, count_by}
use Rattle.std.proofs.lemmas.Option.{slice_get_within, get_or_from_slice_get}
use Rattle.std.proofs.lemmas.Bool.{eqb-true}
use Rattle.ep_table.specs.Sessions.{held_count}
use Rattle.ep_table.proofs.Places.{counts_one}
use Rattle.ep_journal.specs.declared.decision.Decision.{Decision}
use Rattle.ep_journal.specs.declared.decision.Decision.TheVariants as decision
use Rattle.ep_journal.specs.declared.session.Fate.TheVariants as fate
use Rattle.ep_journal.specs.declared.session.Entry.{Entry}
use Rattle.ep_journal.specs.declared.session.Stage.{Stage}
use Rattle.ep_journal.specs.declared.session.Stage.TheVariants as stage
use Rattle.ep_journal.specs.Items.{item, passes}
use Rattle.ep_journal.specs.Recorded.{Recorded, goes_on}
use Rattle.ep_journal.specs.Kept.{is_on, is_stopped_by, is_number, is_fit, is_fitting, accepts, stops, is_borne, IsKept}
use Rattle.ep_journal.specs.Told.{is_over_after, AreTold}

accepts-is : (n : ℕ) (d : Decision) → accepts n d ≡ true → d ≡ decision.Accepted n
accepts-is n decision.Nothing h = cc
accepts-is n (decision.Accepted x) h = ap decision.Accepted (eqb-true x n h)
accepts-is n decision.Full h = cc
accepts-is n (decision.Ticket x) h = cc
accepts-is n (decision.Refused x) h = cc

stops-is : (n : ℕ) (d : Decision) → stops n d ≡ true → d ≡ decision.Ticket n
stops-is n decision.Nothing h = cc
stops-is n (decision.Accepted x) h = cc
stops-is n decision.Full h = cc
stops-is n (decision.Ticket x) h = ap decision.Ticket (eqb-true x n h)
stops-is n (decision.Refused x) h = cc

-- What passes as one decision alone does is that decision.
passes-one : (p : Decision → Bool) (xs : List Decision) (n : ℕ) (d : Decision) → ((x : Decision) → p x ≡ true → x ≡ d) → passes p (item xs n) ≡ true → item xs n ≡ Some d
passes-one p xs n d one h = by_case (item xs n) refl
  where
    by_case : (o : Option Decision) → item xs n ≡ o → item xs n ≡ Some d
    by_case None e = absurd (let f : passes p (item xs n) ≡ false = rw e refl in let g : true ≡ false = sym h ∙ f in cc)
    by_case (Some x) e = let was : p x ≡ true = rw e at h in e ∙ ap Some (one x was)

-- The decision of a connection is borne out.
borne-at : (r : Recorded) (conn : ℕ) (d : Decision) → IsKept r → item r.decisions conn ≡ Some d → is_borne r.sessions conn d ≡ true
borne-at r zero d k e = cc
borne-at r (suc place) d k e =
    let p : suc place ≡ place + 1 = omega arith in
    rw p (k.borne place d e)

-- No session goes on where no slot is held.
none-on : (r : Recorded) (id : ℕ) (e : Entry) → IsKept r → held_count r.table ≡ 0 → item r.sessions id ≡ Some e → goes_on e.stage ≡ false
none-on r zero e k free there = cc
none-on r (suc place) e k free there = by_test (is_on e) refl
  where
    by_test : (b : Bool) → is_on e ≡ b → goes_on e.stage ≡ false
    by_test false h = h
    by_test true h =
        let g : get_or r.sessions place e ≡ e = get_or_from_slice_get r.sessions place e e there in
        let one = counts_one is_on r.sessions place e (slice_get_within r.sessions place e there) (rw g h) in
        let held : held_count r.table ≡ count_by is_on r.sessions = k.held in
        absurd (omega (arith, free, held, one))

-- A session with a ticket that has ended was ended by it, or by a fault.
over-after : (ended : Bool) (conn : ℕ) (ticket : Option ℕ) (t : Stage) → is_number conn ticket ≡ true → goes_on t ≡ false → is_fitting ended ticket t ≡ true → is_over_after conn t ≡ true
over-after ended conn None t h off fits = cc
over-after ended conn (Some n) stage.Serving h off fits = cc
over-after ended conn (Some n) (stage.Ending x) h off fits = cc
over-after ended conn (Some n) (stage.Over (fate.Requested other)) h off fits =
    let a : n ≡ conn = eqb-true n conn h in let b : n ≡ other = eqb-true n other fits in let c : other ≡ conn = omega arith in rw c (grind arith)
over-after true conn (Some n) (stage.Over fate.ProgramEnd) h off fits = cc
over-after false conn (Some n) (stage.Over fate.ProgramEnd) h off fits = cc
over-after ended conn (Some n) (stage.Over fate.LinkFault) h off fits = refl
over-after ended conn (Some n) (stage.Over fate.TooLong) h off fits = refl
over-after ended conn (Some n) (stage.Over fate.OutOfMemory) h off fits = refl
over-after ended conn (Some n) stage.Failed h off fits = cc

number-is : (conn : ℕ) (ticket : Option ℕ) → is_number conn ticket ≡ true → ticket ≡ Some conn
number-is conn None h = cc
number-is conn (Some n) h = ap Some (eqb-true n conn h)

program-is : (ended : Bool) (ticket : Option ℕ) → is_fit ended ticket fate.ProgramEnd ≡ true → (ticket ≡ None) × (ended ≡ true)
program-is true None h = (refl, refl)
program-is true (Some n) h = cc
program-is false ticket h = cc

pub all-told : (r : Recorded) → IsKept r → held_count r.table ≡ 0 → AreTold r.decisions r.sessions r.ended
all-told r k free = record {
  accepted = λ conn id at. borne-at r conn (decision.Accepted id) k at;
  asked = λ id e there some. passes-one (accepts id) r.decisions e.conn (decision.Accepted id) (accepts-is id) ((k.known id e there).asked some);
  rising = k.rising;
  full = λ conn at. let b : is_borne r.sessions conn decision.Full ≡ true = borne-at r conn decision.Full k at in grind arith;
  granted = λ conn id at. by_session conn id (item r.sessions id) refl (borne-at r conn (decision.Ticket id) k at);
  refused = λ conn id at. borne-at r conn (decision.Refused id) k at;
  requested =
      λ id conn e there over.
      let s = k.known id e there in
      let fits : is_number conn e.ticket ≡ true = rw over at s.fate in
      passes-one (stops id) r.decisions conn (decision.Ticket id) (stops-is id) (s.stopped conn (number-is conn e.ticket fits));
  program = λ id e there over. program-is r.ended e.ticket (rw over at (k.known id e there).fate);
  over = λ id e there. none-on r id e k free there;
}
  where
    by_session : (conn id : ℕ) (o : Option Entry) → item r.sessions id ≡ o → passes (is_stopped_by conn) (item r.sessions id) ≡ true →
        passes (λ e. is_stopped_by conn e && is_over_after conn e.stage) (item r.sessions id) ≡ true
    by_session conn id None there h = absurd (let f : passes (is_stopped_by conn) (item r.sessions id) ≡ false = rw there refl in let g : true ≡ false = sym h ∙ f in cc)
    by_session conn id (Some e) there h =
        let was : is_stopped_by conn e ≡ true = rw there at h in
        let after : is_over_after conn e.stage ≡ true = over-after r.ended conn e.ticket e.stage was (none-on r id e k free there) (k.known id e there).fate in
        rw (there, was, after) refl
