-- The sessions that are left, one after another.
use Rattle.std.proofs.Common.{◌≡◌, ℕ, zero, suc, ◌+◌, ◌<◌, ◌≤◌, Bool, true, false, List, [], ◌∷◌, ◌++◌, length, take, Option, None, Some, refl, ap, ◌∙◌, sym, subst, cond, arith}
use Rattle.std.specs.Prelude.{◌&&◌, count_by, if◌then◌else◌, not, slice_get}
use Rattle.std.specs.List.{AllByRecursion}
use Rattle.std.proofs.lemmas.List.{length-take, length-take-le, take_all}
use Rattle.std.proofs.lemmas.List.Sums.{sum_by_push}
use Rattle.std.proofs.lemmas.Option.{cond_some, slice_get_within}
use Rattle.ep_journal.specs.declared.decision.Decision.{Decision}
use Rattle.ep_journal.specs.declared.limits.TheConstants.{CONNECTIONS}
use Rattle.ep_journal.specs.declared.session.Entry.{Entry}
use Rattle.ep_journal.specs.declared.session.Opened.{Opened}
use Rattle.ep_journal.specs.declared.session.Opened.TheVariants as opened
use Rattle.ep_journal.specs.declared.session.Stage.{Stage}
use Rattle.ep_journal.specs.declared.session.Stage.TheVariants as stage
use Rattle.ep_journal.specs.Items.{item}
use Rattle.ep_journal.specs.Kept.{is_late, is_session, was_early, was_late}
use Rattle.ep_journal.specs.Kept as kept
use Rattle.ep_journal.specs.Recorded.{goes_on, is_failed}
use Rattle.ep_journal.specs.Told.{AreTold}
use Rattle.ep_live_laws.specs.Tracing.{is_fault}
use Rattle.ep_registry.specs.declared.hold.Hold.{Hold}
use Rattle.ep_registry.specs.Held.{AreOver, has_ended, hold_of, over_as}
use Rattle.ep_registry.specs.Registered.{ServerHalf}
use Rattle.pt_io.specs.Sides.{ReadSide}
use Rattle.pt_io.specs.declared.sink.Sink.{Ghosts as Sink}
use Rattle.pt_host.specs.Ending.{AreLeftOver, IsAllOver}
use Rattle.pt_roles.specs.Ran.{AreKnown, IsEnd, IsKnownAs, KnowsFirst, TookPart, TookTrace, is_early}
use Rattle.pt_roles.specs.Table.{IsOver, was_opened}
use Rattle.pt_roles.specs.World.{WorldState}
use Rattle.pt_roles.specs.declared.live_end.LiveSession.{LiveSession}

-- Where not all writers had ended no session ended with the program, and the lists say the same.
pub told-at-end : (decisions : List Decision) (entries : List Entry) (ended : Bool) → AreTold decisions entries ended → AreTold decisions entries true
told-at-end decisions entries true told = told
told-at-end decisions entries false told =
    record {
      accepted = told.accepted;
      asked = told.asked;
      rising = told.rising;
      full = told.full;
      granted = told.granted;
      refused = told.refused;
      requested = told.requested;
      program = λ id e at is. let no : false ≡ true = (told.program id e at is).1 in absurd (cc);
      over = told.over;
    }

-- An entry of a failed start more.
pub known-failed : {L : Type 0} (id : ℕ) (entries : List Entry) (sessions : List (LiveSession L)) (entry : Entry)
    → is_session entry ≡ false → AreKnown id entries sessions → AreKnown id (entries ++ entry ∷ []) sessions
known-failed id [] [] entry failed known = rw failed tt
known-failed id [] (s ∷ ss) entry failed known = absurd known
known-failed {L} id (e ∷ es) sessions entry failed known =
    first (λ ss k. known-failed (id + 1) es ss entry failed k) (is_session e) sessions known
  where
    first : ((ss : List (LiveSession L)) → AreKnown (id + 1) es ss → AreKnown (id + 1) (es ++ entry ∷ []) ss)
        → (b : Bool) (ss : List (LiveSession L)) → KnowsFirst (AreKnown (id + 1) es) id e b ss → KnowsFirst (AreKnown (id + 1) (es ++ entry ∷ [])) id e b ss
    first others false ss k = others ss k
    first others true [] k = absurd k
    first others true (s ∷ ss) k = (k.0, others ss k.1)

-- A session more.
pub known-more : {L : Type 0} (id : ℕ) (entries : List Entry) (sessions : List (LiveSession L)) (entry : Entry) (session : LiveSession L)
    → is_session entry ≡ true → IsKnownAs (id + length entries) entry session → AreKnown id entries sessions → AreKnown id (entries ++ entry ∷ []) (sessions ++ session ∷ [])
known-more id [] [] entry session is own known =
    let here : id + 0 ≡ id = omega arith in
    rw is (subst (λ (n : ℕ). IsKnownAs n entry session) here own, tt)
known-more id [] (s ∷ ss) entry session is own known = absurd known
known-more {L} id (e ∷ es) sessions entry session is own known =
    let up : id + length (e ∷ es) ≡ id + 1 + length es = omega arith in
    let later = subst (λ (n : ℕ). IsKnownAs n entry session) up own in
    first (λ ss k. known-more (id + 1) es ss entry session is later k) (is_session e) sessions known
  where
    first : ((ss : List (LiveSession L)) → AreKnown (id + 1) es ss → AreKnown (id + 1) (es ++ entry ∷ []) (ss ++ session ∷ []))
        → (b : Bool) (ss : List (LiveSession L)) → KnowsFirst (AreKnown (id + 1) es) id e b ss → KnowsFirst (AreKnown (id + 1) (es ++ entry ∷ [])) id e b (ss ++ session ∷ [])
    first others false ss k = others ss k
    first others true [] k = absurd k
    first others true (s ∷ ss) k = (k.0, others ss k.1)

-- It holds of one more.
pub all-more : {A : Type 0} (P : A → Type 0) (xs : List A) (x : A) → AllByRecursion P xs → P x → AllByRecursion P (xs ++ x ∷ [])
all-more P [] x all is = (is, tt)
all-more P (y ∷ ys) x all is = (all.0, all-more P ys x all.1 is)

-- ---- lists

-- One item more is counted, or not.
count-more : {A : Type 0} (p : A → Bool) (xs : List A) (x : A) (b : Bool) → p x ≡ b → count_by p (xs ++ x ∷ []) ≡ count_by p xs + cond b 1 0
count-more p xs x b is = sum_by_push (λ y. cond (p y) 1 0) xs x ∙ ap (λ (c : Bool). count_by p xs + cond c 1 0) is

take-at : {A : Type 0} (xs : List A) (n : ℕ) (x : A) → slice_get xs n ≡ Some x → take (suc n) xs ≡ take n xs ++ x ∷ []
take-at [] n x is = absurd (cc)
take-at (y ∷ ys) zero x is = cc
take-at {A} (y ∷ ys) (suc n) x is = ap (λ (zs : List A). y ∷ zs) (take-at ys n x is)

take-past : {A : Type 0} (xs : List A) (n : ℕ) → slice_get xs n ≡ None → length xs ≤ n
take-past [] n is = omega arith
take-past (x ∷ xs) zero is = absurd (cc)
take-past (x ∷ xs) (suc n) is = let rest : length xs ≤ n = take-past xs n is in omega arith

-- What stands before a place stays where the list is cut behind it.
pub get-take : {A : Type 0} (xs : List A) (m k : ℕ) → k < m → slice_get (take m xs) k ≡ slice_get xs k
get-take xs zero k few = absurd (omega arith)
get-take [] (suc m) k few = refl
get-take (x ∷ xs) (suc m) zero few = refl
get-take (x ∷ xs) (suc m) (suc k) few = get-take xs m k (omega arith)

-- ---- entries

and-false : (b : Bool) → (b && false) ≡ false
and-false true = refl
and-false false = refl

and-true : (b : Bool) → (b && true) ≡ b
and-true true = refl
and-true false = refl

one-le : (a b : Bool) → (a ≡ true → b ≡ true) → cond a 1 0 ≤ cond b 1 0
one-le false b h = omega arith
one-le true true h = omega arith
one-le true false h = let no : false ≡ true = h refl in absurd (cc)

none-false : (b : Bool) → ◌≡◌ {A = ℕ} (cond b 1 0) 0 → b ≡ false
none-false false is = refl
none-false true is = absurd (omega arith)

opened-early : (o : Opened) → was_opened o ≡ true → was_late o ≡ false → was_early o ≡ true
opened-early opened.No is late = is
opened-early opened.Early is late = refl
opened-early opened.Late is late = absurd (cc)

ended-session : (s : Stage) → has_ended s ≡ true → not (is_failed s) ≡ true
ended-session stage.Serving is = absurd (cc)
ended-session (stage.Ending fate) is = refl
ended-session (stage.Over fate) is = refl
ended-session stage.Failed is = absurd (cc)

unended-failed : (s : Stage) → goes_on s ≡ false → has_ended s ≡ false → not (is_failed s) ≡ false
unended-failed stage.Serving on is = absurd (cc)
unended-failed (stage.Ending fate) on is = absurd (cc)
unended-failed (stage.Over fate) on is = absurd (cc)
unended-failed stage.Failed on is = refl

none-left : (b : Bool) (h : Hold) → (if b then Some h else None) ≡ None → b ≡ false
none-left true h is = absurd (cc)
none-left false h is = refl

-- Something is left only under the id of an entry.
pub left-within : (entries : List Entry) (n : ℕ) (hold : Hold) → over_as (suc n) (slice_get entries n) ≡ Some hold → n < length entries
left-within entries n hold is = by (slice_get entries n) refl is
  where
    by : (o : Option Entry) → slice_get entries n ≡ o → over_as (suc n) o ≡ Some hold → n < length entries
    by None at known = absurd (cc)
    by (Some e) at known = slice_get_within entries n e at

-- ---- what is left so far

-- A session ends as it does whenever it could be stopped no more.
pub end-gone : {L : Type 0} (gave : L → ReadSide) (sink : Sink L) (world : WorldState) (s : LiveSession L) (when : Option ℕ) → IsEnd gave sink world s → IsEnd gave sink world (record s { gone = when })
end-gone gave sink world s when end =
    record {
      asked = end.asked;
      marks = end.marks;
      spent = end.spent;
      every = end.every;
      whole = λ sound tells. let t : TookTrace sink world s = end.whole sound tells in record { stream = t.stream; trace = t.trace; took = t.took };
      part = λ bad tells. let t : TookPart sink world s = end.part bad tells in record { part = t.part; trace = t.trace; took = t.took };
      ended = end.ended;
      link_fault = end.link_fault;
      too_long = end.too_long;
    }

module _ {L : Type 0} (gave : L → ReadSide) (sink : Sink L) (world : WorldState) where
  pub left-none : AreLeftOver gave sink world [] []
  left-none = record { known = tt; each = tt; early = omega arith; all_early = λ none. tt }

  -- An entry of a failed start more.
  left-failed : (entries : List Entry) (sessions : List (LiveSession L)) (e : Entry) → is_session e ≡ false
      → AreLeftOver gave sink world entries sessions → AreLeftOver gave sink world (entries ++ e ∷ []) sessions
  left-failed entries sessions e failed left =
      let early : kept.is_early e ≡ false = ap (λ (b : Bool). was_early e.opened && b) failed ∙ and-false (was_early e.opened) in
      let late : is_late e ≡ false = ap (λ (b : Bool). was_late e.opened && b) failed ∙ and-false (was_late e.opened) in
      let same_early = count-more kept.is_early entries e false early in
      let same_late = count-more is_late entries e false late in
      record {
        known = known-failed 1 entries sessions e failed left.known;
        each = left.each;
        early = omega (arith, same_early, left.early);
        all_early = λ none. left.all_early (omega (arith, same_late, none));
      }

  -- A session more.
  left-more : (entries : List Entry) (sessions : List (LiveSession L)) (e : Entry) (s : LiveSession L) → is_session e ≡ true → IsKnownAs (1 + length entries) e s → IsEnd gave sink world s
      → (was_early e.opened ≡ true → is_early world s.marks ≡ true) → (is_fault s.fate ≡ false → was_opened e.opened ≡ true)
      → AreLeftOver gave sink world entries sessions → AreLeftOver gave sink world (entries ++ e ∷ []) (sessions ++ s ∷ [])
  left-more entries sessions e s began own end early complete left =
      record {
        known = known-more 1 entries sessions e s began own left.known;
        each = all-more (IsEnd gave sink world) sessions s left.each end;
        early = omega (arith, entry_more, session_more, here, left.early);
        all_early =
            λ none.
            let one = count-more is_late entries e (is_late e) refl in
            let before : count_by is_late entries ≡ 0 = omega (arith, one, none) in
            let alone : ◌≡◌ {A = ℕ} (cond (is_late e) 1 0) 0 = omega (arith, one, none) in
            let late : was_late e.opened ≡ false = sym (is-late) ∙ none-false (is_late e) alone in
            all-more (λ (x : LiveSession L). is_fault x.fate ≡ false → is_early world x.marks ≡ true) sessions s (left.all_early before)
            (λ sound. early (opened-early e.opened (complete sound) late));
      }
    where
      is-early : kept.is_early e ≡ was_early e.opened
      is-early = ap (λ (b : Bool). was_early e.opened && b) began ∙ and-true (was_early e.opened)

      is-late : is_late e ≡ was_late e.opened
      is-late = ap (λ (b : Bool). was_late e.opened && b) began ∙ and-true (was_late e.opened)

      entry_more : count_by kept.is_early (entries ++ e ∷ []) ≡ count_by kept.is_early entries + cond (was_early e.opened) 1 0
      entry_more = count-more kept.is_early entries e (was_early e.opened) is-early

      session_more : count_by (λ (x : LiveSession L). is_early world x.marks) (sessions ++ s ∷ []) ≡ count_by (λ (x : LiveSession L). is_early world x.marks) sessions + cond (is_early world s.marks) 1 0
      session_more = count-more (λ (x : LiveSession L). is_early world x.marks) sessions s (is_early world s.marks) refl

      here : cond (was_early e.opened) 1 0 ≤ cond (is_early world s.marks) 1 0
      here = one-le (was_early e.opened) (is_early world s.marks) early

  -- Nothing is left under the next id.
  pub left-empty : (entries : List Entry) (n : ℕ) (sessions : List (LiveSession L)) → ((id : ℕ) (e : Entry) → item entries id ≡ Some e → goes_on e.stage ≡ false)
      → over_as (suc n) (slice_get entries n) ≡ None → AreLeftOver gave sink world (take n entries) sessions → AreLeftOver gave sink world (take (suc n) entries) sessions
  left-empty entries n sessions ended none left = by (slice_get entries n) refl none
    where
      by : (o : Option Entry) → slice_get entries n ≡ o → over_as (suc n) o ≡ None → AreLeftOver gave sink world (take (suc n) entries) sessions
      by None at is =
          let few = take-past entries n at in
          let same : take n entries ≡ take (suc n) entries = take_all n entries few ∙ sym (take_all (suc n) entries (omega (arith, few))) in
          subst (λ (es : List Entry). AreLeftOver gave sink world es sessions) same left
      by (Some e) at is =
          let unended = none-left (has_ended e.stage) (hold_of (suc n) e) is in
          subst (λ (es : List Entry). AreLeftOver gave sink world es sessions) (sym (take-at entries n e at))
          (left-failed (take n entries) sessions e (unended-failed e.stage (ended (suc n) e at) unended) left)

  -- A session is left under the next id.
  pub left-taken : (entries : List Entry) (n : ℕ) (sessions : List (LiveSession L)) (e : Entry) (hold : Hold) (s : LiveSession L) → slice_get entries n ≡ Some e
      → over_as (suc n) (slice_get entries n) ≡ Some hold → IsOver world hold s → s.gone ≡ e.gone → IsEnd gave sink world s
      → AreLeftOver gave sink world (take n entries) sessions → AreLeftOver gave sink world (take (suc n) entries) (sessions ++ s ∷ [])
  left-taken entries n sessions e hold s at known over when end left =
      let was : over_as (suc n) (Some e) ≡ Some hold = subst (λ (o : Option Entry). over_as (suc n) o ≡ Some hold) at known in
      let is = cond_some (has_ended e.stage) (hold_of (suc n) e) hold was in
      let own : hold_of (suc n) e ≡ hold = is.1 in
      let within = slice_get_within entries n e at in
      let long : length (take n entries) ≡ n = length-take-le n entries (omega (arith, within)) in
      let number : suc n ≡ 1 + length (take n entries) = omega (arith, long) in
      subst (λ (es : List Entry). AreLeftOver gave sink world es (sessions ++ s ∷ [])) (sym (take-at entries n e at))
      (left-more (take n entries) sessions e s (ended-session e.stage is.0)
      (record {
        id_is = over.id_is ∙ ap (λ (h : Hold). h.id) (sym own) ∙ number;
        conn_is = over.conn_is ∙ ap (λ (h : Hold). h.conn) (sym own);
        fate_is = ap (λ (h : Hold). h.stage) own ∙ over.stage_is;
        gone_is = sym when;
      })
      end
      (λ early. over.early (ap (λ (h : Hold). was_early h.opened) (sym own) ∙ early))
      (λ sound. ap (λ (h : Hold). was_opened h.opened) own ∙ over.complete sound)
      left)

  -- All ids are past.
  pub left-whole : (entries : List Entry) (n : ℕ) (sessions : List (LiveSession L)) → length entries ≤ n → AreLeftOver gave sink world (take n entries) sessions → AreLeftOver gave sink world entries sessions
  left-whole entries n sessions few left = subst (λ (es : List Entry). AreLeftOver gave sink world es sessions) (take_all n entries few) left

  -- What is left of all sessions, beside what the server knows in the end.
  pub all-over : (server : ServerHalf) (decisions : List Decision) (entries : List Entry) (ended : Bool) (sessions : List (LiveSession L)) → AreTold decisions entries ended
      → server.decisions ≡ decisions → server.early ≡ count_by kept.is_early entries → server.late ≡ count_by is_late entries → length decisions ≤ CONNECTIONS
      → AreLeftOver gave sink world entries sessions → IsAllOver gave sink world server sessions
  all-over server decisions entries ended sessions told agreed early late few left =
      record {
        entries = entries;
        told = subst (λ (ds : List Decision). AreTold ds entries true) (sym agreed) (told-at-end decisions entries ended told);
        few = subst (λ (ds : List Decision). length ds ≤ CONNECTIONS) (sym agreed) few;
        known = left.known;
        each = left.each;
        early = omega (arith, early, left.early);
        all_early = λ none. left.all_early (sym late ∙ none);
      }

-- What is left under the next id, by its place.
pub over-at : (over : List (Option Hold)) (entries : List Entry) (n : ℕ) (place : Option Hold) → AreOver over entries → n < CONNECTIONS → slice_get over n ≡ Some place → over_as (suc n) (slice_get entries n) ≡ place
over-at over entries n place all few at =
    let is : slice_get over n ≡ Some (over_as (suc n) (slice_get entries n)) = all (suc n) (omega arith) (omega (arith, few)) in
    let same : Some (over_as (suc n) (slice_get entries n)) ≡ Some place = sym is ∙ at in
    some-same _ place same
  where
    some-same : (a b : Option Hold) → Some a ≡ Some b → a ≡ b
    some-same a b e = cc

-- The same, where the places are cut off behind those of all connections.
pub next-place : (over places : List (Option Hold)) (entries : List Entry) (n : ℕ) (place : Option Hold) → AreOver over entries → places ≡ take CONNECTIONS over → n < length places → slice_get places n ≡ Some place
    → over_as (suc n) (slice_get entries n) ≡ place
next-place over places entries n place all cut within at =
    let few : n < CONNECTIONS = omega (arith, length-take CONNECTIONS over, ap length cut, within) in
    over-at over entries n place all few (sym (get-take over CONNECTIONS n few) ∙ ap (λ (xs : List (Option Hold)). slice_get xs n) (sym cut) ∙ at)

-- There is a place for each connection.
pub over-long : (over : List (Option Hold)) (entries : List Entry) → AreOver over entries → CONNECTIONS ≤ length over
over-long over entries all =
    let is : slice_get over 499 ≡ Some (over_as 500 (item entries 500)) = all 500 (omega arith) (omega arith) in
    let within = slice_get_within over 499 _ is in
    omega (arith, within)
