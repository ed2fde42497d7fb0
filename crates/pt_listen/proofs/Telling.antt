-- What holds of a run's one session after a row was taken from, or left.
use Rattle.std.proofs.Common.{◌≡◌, ◌≢◌, ◌∙◌, ℕ, zero, suc, ◌+◌, ◌-◌, ◌<◌, ◌≤◌, Bool, true, false, inl, inr, List, [], ◌∷◌, ◌++◌, Option, None, Some, length, refl, sym, ap, subst, arith, append_assoc, length-append}
use Rattle.std.specs.Prelude.{IsSome, Result, slice_get, slice_set, ◌==◌, if◌then◌else◌}
use Rattle.std.specs.List.{All, sum_by}
use Rattle.std.proofs.lemmas.Bool.{cases_eq, cases_lt, eq-eqb, ne_eqb}
use Rattle.std.proofs.lemmas.List.{length-set}
use Rattle.std.proofs.lemmas.List.Sums.{sum_by-append}
use Rattle.std.proofs.lemmas.Option.{slice_get_within}
use Rattle.ep_defs.specs.declared.event.EventDef.{EventDef}
use Rattle.ep_defs.specs.declared.session.Config.{Config}
use Rattle.ep_defs.specs.declared.session.Marks.{Marks}
use Rattle.ep_defs.specs.declared.session.Write.{Write}
use Rattle.ep_chunk.specs.Record.{Record}
use Rattle.ep_guarded.specs.Tied.{AreCounted}
use Rattle.ep_model.specs.History.{admitted_from}
use Rattle.ep_pool.specs.Shared.{SeatState}
use Rattle.ep_slot.specs.Hand.{HandState}
use Rattle.ep_slot.specs.Slot.{AreRising}
use Rattle.ep_row.specs.AtRest.{write_of}
use Rattle.ep_stream.specs.Hands.{hand_at}
use Rattle.ep_stream.specs.Rows.{IsBatch, IsMarked, hand_after}
use Rattle.ep_stream.proofs.Taking.{hand_back, hand_gone}
use Rattle.ep_listen.specs.Heard.{HeardEvent}
use Rattle.ep_listen.specs.Listening.{Hears, callback_of, has_failed, marks_in, room_of}
use Rattle.ep_listen.specs.Shares.{Account, AddToHeard, AreNext, with_taken}
use Rattle.ep_listen.specs.declared.listener.Listener.{Listener}
use Rattle.ep_live.proofs.Pushing.{each-push}
use Rattle.ep_live.specs.RowSet.{LiveRowsState}
use Rattle.pt_listen.specs.state.Hearing.{AreItsRows, HasEnded, HasHeard, IsHandBy, IsHearing, IsMarkBy, admitted_in}
use Rattle.pt_listen.proofs.Halves.{hand-past, its-moved, other-hand}

-- The law on batches.
abbrev pub ABatchIsHeard : Type 0
ABatchIsHeard =
    (admitted : ℕ → List Write) (before : ℕ → Account) (thread last : ℕ) (records : List Record)
    → AreNext (admitted thread) thread (before thread).last last records → AddToHeard admitted before (with_taken before thread (length records) last) records

-- ---- accounts

taken-here : (accounts : ℕ → Account) (thread count last : ℕ) → with_taken accounts thread count last thread ≡ record { taken = (accounts thread).taken + count; last = last }
taken-here accounts thread count last = rw (eq-eqb thread thread refl) refl

taken-other : (accounts : ℕ → Account) (thread count last t : ℕ) → t ≢ thread → with_taken accounts thread count last t ≡ accounts t
taken-other accounts thread count last t apart = rw (ne_eqb t thread apart) refl

-- ---- a batch

-- The records that are taken with a hand are the next that the session admits of the thread.
pub next-of : (events : List EventDef) (writes : ℕ → List Write) (config : Config) (accounts : ℕ → Account) (row last : ℕ) (hand : HandState) (records : List Record) → IsHandBy accounts row hand → IsBatch events hand records last
    → All (λ r. slice_get (admitted_from events (Some config) hand.from (writes hand.thread)) (r.number - 1) ≡ Some (write_of r)) records
    → AreNext (admitted_in events writes config row) row (accounts row).last last records
next-of events writes config accounts row last hand records by batch tested =
    record {
      of_thread = subst (λ (t : ℕ). All (λ r. r.thread ≡ t) records) by.thread batch.of_thread;
      rising = subst (λ (n : ℕ). AreRising n last records) by.last batch.rising;
      in_place =
          subst (λ (f : ℕ). All (λ r. slice_get (admitted_from events (Some config) f (writes row)) (r.number - 1) ≡ Some (write_of r)) records) by.from
          (subst (λ (t : ℕ). All (λ r. slice_get (admitted_from events (Some config) hand.from (writes t)) (r.number - 1) ≡ Some (write_of r)) records) by.thread tested);
    }

-- The callback has heard so much more.
pub heard-more : {C E : Type 0} (has_heard : C → List HeardEvent → Type 0) (count : ℕ) (admitted : ℕ → List Write) (at_first : List HeardEvent → Type 0) (accounts : ℕ → Account) (old new : Listener C) (row last : ℕ) (records : List Record) (result : Result ℕ E)
    → ABatchIsHeard → 0 < row → row ≤ count
    → HasHeard has_heard count admitted at_first accounts (callback_of old) (has_failed old)
    → AreNext (admitted row) row (accounts row).last last records → Hears has_heard records old new result
    → HasHeard has_heard count admitted at_first (with_taken accounts row (length records) last) (callback_of new) (has_failed new)
heard-more has_heard count admitted at_first accounts old new row last records result law some within was next hears =
    record {
      heard = was.heard ++ hears.done;
      told = λ before first. subst (has_heard (callback_of new)) (append_assoc before was.heard hears.done) (hears.heard (before ++ was.heard) (was.told before first));
      are = law admitted accounts row last records next (has_failed old) (has_failed new) was.heard hears.done was.are (record { others = hears.others; front = hears.front; all = hears.all });
      others = λ thread outside. taken-other accounts row (length records) last thread (λ same. outside (subst (λ (t : ℕ). (0 < t) × (t ≤ count)) (sym same) (some, within))) ∙ was.others thread outside;
    }

-- ---- a row that was taken from

abbrev pub hands_after : List (Option HandState) → ℕ → HandState → List (Option HandState)
hands_after hands row now = slice_set (slice_set hands (row - 1) None) (row - 1) (Some now)

-- The hands know what was taken.
hands-taken : (accounts : ℕ → Account) (hands : List (Option HandState)) (row last chunks count : ℕ) (hand : HandState) → hand_at hands row ≡ Some hand
    → ((r : ℕ) (h : HandState) → hand_at hands r ≡ Some h → IsHandBy accounts r h)
    → (r : ℕ) (h : HandState) → hand_at (hands_after hands row (hand_after hand count last chunks)) r ≡ Some h → IsHandBy (with_taken accounts row count last) r h
hands-taken accounts hands row last chunks count hand was each r h is =
    by_case (sym (hand_back hands row hand (hand_after hand count last chunks) r was) ∙ is)
  where
    same : (a b : HandState) → Some a ≡ Some b → a ≡ b
    same a b e = cc

    now-here : r ≡ row → h ≡ hand_after hand count last chunks → IsHandBy (with_taken accounts row count last) r h
    now-here at now =
        let by = each row hand was in
        subst (λ (t : ℕ). IsHandBy (with_taken accounts row count last) t h) (sym at)
        (subst (λ (x : HandState). IsHandBy (with_taken accounts row count last) row x) (sym now)
        (record {
          thread = by.thread;
          from = by.from;
          taken = ap (λ (n : ℕ). n + count) by.taken ∙ sym (ap (λ (a : Account). a.taken) (taken-here accounts row count last));
          last = sym (ap (λ (a : Account). a.last) (taken-here accounts row count last));
        }))

    now-other : r ≢ row → hand_at hands r ≡ Some h → IsHandBy (with_taken accounts row count last) r h
    now-other apart at =
        let by = each r h at in
        let still = taken-other accounts row count last r apart in
        record {
          thread = by.thread;
          from = by.from;
          taken = by.taken ∙ sym (ap (λ (a : Account). a.taken) still);
          last = by.last ∙ sym (ap (λ (a : Account). a.last) still);
        }

    by_case : (if r == row then Some (hand_after hand count last chunks) else hand_at hands r) ≡ Some h → IsHandBy (with_taken accounts row count last) r h
    by_case at =
        elim (cases_eq r row) [
          | inl here ↦ now-here here (sym (same _ h (sym (ap (λ (v : Bool). if v then Some (hand_after hand count last chunks) else hand_at hands r) (eq-eqb r row here)) ∙ at)))
          | inr other ↦ now-other other (sym (ap (λ (v : Bool). if v then Some (hand_after hand count last chunks) else hand_at hands r) (ne_eqb r row other)) ∙ at)
        ]

-- A row that has a hand has one.
still-open : (hands : List (Option HandState)) (row r : ℕ) (hand now : HandState) → hand_at hands row ≡ Some hand → IsSome (hand_at hands r) → IsSome (hand_at (hands_after hands row now) r)
still-open hands row r hand now was there =
    subst IsSome (sym (hand_back hands row hand now r was))
    (elim (r == row) as (λ v. IsSome (if v then Some now else hand_at hands r)) [
      | true ↦ refl
      | false ↦ there
    ])

pub hearing-taken : {C E : Type 0} (has_heard : C → List HeardEvent → Type 0) (count : ℕ) (events : List EventDef) (writes : ℕ → List Write) (config : Config) (at_first : List HeardEvent → Type 0) (slot row last chunks : ℕ)
    (old new : LiveRowsState) (hands : List (Option HandState)) (hand : HandState) (before after : Listener C) (records : List Record) (result : Result ℕ E)
    → ABatchIsHeard → 0 < row → row ≤ count
    → IsHearing has_heard count events writes config at_first 0 0 slot old hands before
    → hand_at hands row ≡ Some hand
    → AreItsRows count slot config new (hands_after hands row (hand_after hand (length records) last chunks))
    → new.seat.dry ≡ old.seat.dry
    → IsBatch events hand records last
    → All (λ r. slice_get (admitted_from events (Some config) hand.from (writes hand.thread)) (r.number - 1) ≡ Some (write_of r)) records
    → Hears has_heard records before after result
    → marks_in after ≡ marks_in before → room_of after ≡ room_of before
    → IsHearing has_heard count events writes config at_first 0 0 slot new (hands_after hands row (hand_after hand (length records) last chunks)) after
hearing-taken has_heard count events writes config at_first slot row last chunks old new hands hand before after records result law some within was there its dry batch tested hears marks room =
    let next = next-of events writes config was.accounts row last hand records (was.hands_are row hand there) batch tested in
    let none : length (marks_in after) ≡ 0 = ap length marks ∙ was.marks in
    record {
      rows = its;
      long = long-set (slice_set hands (row - 1) None) (row - 1) _ ∙ long-set hands (row - 1) None ∙ was.long;
      accounts = with_taken was.accounts row (length records) last;
      heard = heard-more has_heard count (admitted_in events writes config) at_first was.accounts before after row last records result law some within was.heard next hears;
      hands_are = hands-taken was.accounts hands row last chunks (length records) hand there was.hands_are;
      opened = λ r low high. still-open hands row r hand _ there (was.opened r low high);
      shut = λ r low. shut-still r low;
      room = room ∙ was.room;
      marks = none;
      marks_are = λ k mark is. absurd (no-mark (marks_in after) none k mark is);
      dry = dry ∙ was.dry ∙ sym (ap (λ (ms : List Marks). sum_by (λ mark. mark.refused) ms) marks);
    }
  where
    long-set : (xs : List (Option HandState)) (place : ℕ) (x : Option HandState) → length (slice_set xs place x) ≡ length xs
    long-set xs place x = length-set xs place x

    no-mark : (ms : List Marks) → length ms ≡ 0 → (k : ℕ) (mark : Marks) → slice_get ms k ≡ Some mark → ⊥
    no-mark ms none k mark is = let small = slice_get_within ms k mark is in omega (arith, small, none)

    shut-still : (r : ℕ) → r ≤ 0 → hand_at (hands_after hands row (hand_after hand (length records) last chunks)) r ≡ None
    shut-still zero low = refl
    shut-still (suc r) low = absurd (omega (arith, low))

-- ---- a row that was left

-- The marks of rows that were left before stand for the same accounts.
mark-still : (events : List EventDef) (writes : ℕ → List Write) (config : Config) (accounts : ℕ → Account) (ends row count last k : ℕ) (mark : Marks) → k + 1 < row → IsMarkBy events writes config accounts ends k mark → IsMarkBy events writes config (with_taken accounts row count last) ends k mark
mark-still events writes config accounts ends row count last k mark before by =
    let still = taken-other accounts row count last (k + 1) (λ same. omega (arith, same, before)) in
    record {
      thread = by.thread;
      from = by.from;
      to_is = by.to_is;
      taken = by.taken ∙ sym (ap (λ (a : Account). a.taken) still);
      last = by.last ∙ sym (ap (λ (a : Account). a.last) still);
      counted = by.counted;
    }

mark-here : (events : List EventDef) (writes : ℕ → List Write) (config : Config) (accounts : ℕ → Account) (ends row last : ℕ) (hand : HandState) (records : List Record) (mark : Marks) → 0 < row → IsHandBy accounts row hand → IsMarked hand records last mark → mark.to ≡ ends → AreCounted events writes config mark
    → IsMarkBy events writes config (with_taken accounts row (length records) last) ends (row - 1) mark
mark-here events writes config accounts ends row last hand records mark some by marked to counted =
    let row_is : row - 1 + 1 ≡ row = omega (arith, some) in
    let here : with_taken accounts row (length records) last (row - 1 + 1) ≡ record { taken = (accounts row).taken + length records; last = last } =
    ap (with_taken accounts row (length records) last) row_is ∙ taken-here accounts row (length records) last
    in
    record {
      thread = marked.thread ∙ by.thread ∙ sym row_is;
      from = marked.from ∙ by.from;
      to_is = to;
      taken = marked.taken ∙ ap (λ (n : ℕ). n + length records) by.taken ∙ sym (ap (λ (a : Account). a.taken) here);
      last = marked.refused ∙ sym (ap (λ (a : Account). a.last) here);
      counted = counted;
    }

pub hearing-left : {C E : Type 0} (has_heard : C → List HeardEvent → Type 0) (count : ℕ) (events : List EventDef) (writes : ℕ → List Write) (config : Config) (at_first : List HeardEvent → Type 0) (ends slot row last : ℕ)
    (old new : LiveRowsState) (hands : List (Option HandState)) (hand : HandState) (before after : Listener C) (records : List Record) (mark : Marks) (result : Result ℕ E)
    → ABatchIsHeard → 0 < row → row ≤ count
    → IsHearing has_heard count events writes config at_first ends (row - 1) slot old hands before
    → hand_at hands row ≡ Some hand
    → AreItsRows count slot config new (slice_set hands (row - 1) None)
    → new.seat.dry ≡ old.seat.dry + mark.refused
    → IsBatch events hand records last
    → All (λ r. slice_get (admitted_from events (Some config) hand.from (writes hand.thread)) (r.number - 1) ≡ Some (write_of r)) records
    → IsMarked hand records last mark → mark.to ≡ ends → AreCounted events writes config mark
    → Hears has_heard records before after result
    → marks_in after ≡ marks_in before ++ mark ∷ [] → room_of after ≡ room_of before
    → IsHearing has_heard count events writes config at_first ends row slot new (slice_set hands (row - 1) None) after
hearing-left has_heard count events writes config at_first ends slot row last old new hands hand before after records mark result law some within was there its dry batch tested marked to counted hears marks room =
    let by = was.hands_are row hand there in
    let next = next-of events writes config was.accounts row last hand records by batch tested in
    record {
      rows = its;
      long = long-set hands (row - 1) None ∙ was.long;
      accounts = with_taken was.accounts row (length records) last;
      heard = heard-more has_heard count (admitted_in events writes config) at_first was.accounts before after row last records result law some within was.heard next hears;
      hands_are = λ r h is.
          let other = other-hand hands row r hand h there is in
          let b = was.hands_are r h other.1 in
          let still = taken-other was.accounts row (length records) last r other.0 in
          record {
            thread = b.thread;
            from = b.from;
            taken = b.taken ∙ sym (ap (λ (a : Account). a.taken) still);
            last = b.last ∙ sym (ap (λ (a : Account). a.last) still);
          };
      opened = λ r low high.
          subst IsSome (sym (hand_gone hands row hand r there ∙ rest-of r None (λ same. omega (arith, same, low)))) (was.opened r (omega (arith, low)) high);
      shut = λ r low. hand_gone hands row hand r there ∙ gone r low;
      room = room ∙ was.room;
      marks = ap length marks ∙ length-append (marks_in before) (mark ∷ []) ∙ omega (arith, was.marks, some);
      marks_are = subst
          (λ (ms : List Marks). (k : ℕ) (m : Marks) → slice_get ms k ≡ Some m → IsMarkBy events writes config (with_taken was.accounts row (length records) last) ends k m)
          (sym marks)
          (each-push (IsMarkBy events writes config (with_taken was.accounts row (length records) last) ends) (marks_in before) mark
          (λ k m is.
          let small = slice_get_within (marks_in before) k m is in
          mark-still events writes config was.accounts ends row (length records) last k m (omega (arith, small, was.marks)) (was.marks_are k m is))
          (subst (λ (k : ℕ). IsMarkBy events writes config (with_taken was.accounts row (length records) last) ends k mark) (sym was.marks)
          (mark-here events writes config was.accounts ends row last hand records mark some by marked to counted)));
      dry = dry ∙ ap (λ (n : ℕ). n + mark.refused) was.dry ∙ one-more (marks_in before) ∙ sym (ap (λ (ms : List Marks). sum_by (λ m. m.refused) ms) marks);
    }
  where
    long-set : (xs : List (Option HandState)) (place : ℕ) (x : Option HandState) → length (slice_set xs place x) ≡ length xs
    long-set xs place x = length-set xs place x

    rest-of : (r : ℕ) (o : Option HandState) → (r ≡ row → ⊥) → (if r == row then o else hand_at hands r) ≡ hand_at hands r
    rest-of r o apart = rw (ne_eqb r row apart) refl

    gone : (r : ℕ) → r ≤ row → (if r == row then None else hand_at hands r) ≡ None
    gone r low =
        elim (cases_eq r row) [
          | inl here ↦ rw (eq-eqb r row here) refl
          | inr other ↦ rest-of r None other ∙ was.shut r (omega (arith, low, other))
        ]

    one-more : (ms : List Marks) → sum_by (λ m. m.refused) ms + mark.refused ≡ sum_by (λ m. m.refused) (ms ++ mark ∷ [])
    one-more ms = let whole = sum_by-append (λ (m : Marks). m.refused) ms (mark ∷ []) in omega (arith, whole)

-- ---- other calls

-- Its rows may be told otherwise, and its threads may end elsewhere, where its marks are of those ends.
hearing-so : {C : Type 0} (has_heard : C → List HeardEvent → Type 0) (count : ℕ) (events : List EventDef) (writes : ℕ → List Write) (config : Config) (at_first : List HeardEvent → Type 0) (ends later low slot : ℕ) (set other : LiveRowsState) (hands : List (Option HandState)) (listener : Listener C)
    → (was : IsHearing has_heard count events writes config at_first ends low slot set hands listener)
    → AreItsRows count slot config other hands → other.seat.dry ≡ set.seat.dry
    → ((k : ℕ) (mark : Marks) → slice_get (marks_in listener) k ≡ Some mark → IsMarkBy events writes config was.accounts later k mark)
    → IsHearing has_heard count events writes config at_first later low slot other hands listener
hearing-so has_heard count events writes config at_first ends later low slot set other hands listener was rows dry marks_are =
    record {
      rows = rows;
      long = was.long;
      accounts = was.accounts;
      heard = was.heard;
      hands_are = was.hands_are;
      opened = was.opened;
      shut = was.shut;
      room = was.room;
      marks = was.marks;
      marks_are = marks_are;
      dry = dry ∙ was.dry;
    }

-- The rows lend the threads' halves or have them back.
pub hearing-moved : {C : Type 0} (has_heard : C → List HeardEvent → Type 0) (count : ℕ) (events : List EventDef) (writes : ℕ → List Write) (config : Config) (at_first : List HeardEvent → Type 0) (ends low slot : ℕ) (set : LiveRowsState) (hands : List (Option HandState)) (listener : Listener C) (stands : Option ℕ)
    → IsHearing has_heard count events writes config at_first ends low slot set hands listener → IsHearing has_heard count events writes config at_first ends low slot (record set { stands = stands }) hands listener
hearing-moved has_heard count events writes config at_first ends low slot set hands listener stands was =
    hearing-so has_heard count events writes config at_first ends ends low slot set (record set { stands = stands }) hands listener was
    (its-moved count slot config set hands stands was.rows) refl was.marks_are

-- A session that was closed nowhere may end anywhere.
pub hearing-ends : {C : Type 0} (has_heard : C → List HeardEvent → Type 0) (count : ℕ) (events : List EventDef) (writes : ℕ → List Write) (config : Config) (at_first : List HeardEvent → Type 0) (ends slot : ℕ) (set : LiveRowsState) (hands : List (Option HandState)) (listener : Listener C)
    → IsHearing has_heard count events writes config at_first 0 0 slot set hands listener → IsHearing has_heard count events writes config at_first ends 0 slot set hands listener
hearing-ends has_heard count events writes config at_first ends slot set hands listener was =
    hearing-so has_heard count events writes config at_first 0 ends 0 slot set set hands listener was was.rows refl
    (λ k mark is. let small = slice_get_within (marks_in listener) k mark is in absurd (omega (arith, small, was.marks)))

-- No row has a hand once the session was closed on each.
pub none-left : {C : Type 0} (has_heard : C → List HeardEvent → Type 0) (count : ℕ) (events : List EventDef) (writes : ℕ → List Write) (config : Config) (at_first : List HeardEvent → Type 0) (ends low slot : ℕ) (set : LiveRowsState) (hands : List (Option HandState)) (listener : Listener C)
    → count ≤ low → IsHearing has_heard count events writes config at_first ends low slot set hands listener → (row : ℕ) → hand_at hands row ≡ None
none-left has_heard count events writes config at_first ends low slot set hands listener all was row =
    elim (cases_lt count row) [
      | inl past ↦ hand-past hands row (omega (arith, past, was.long))
      | inr within ↦ was.shut row (omega (arith, within, all))
    ]

-- What it comes to.
pub hearing-ended : {C : Type 0} (has_heard : C → List HeardEvent → Type 0) (count : ℕ) (events : List EventDef) (writes : ℕ → List Write) (config : Config) (at_first : List HeardEvent → Type 0) (ends low slot : ℕ) (set : LiveRowsState) (hands : List (Option HandState)) (listener : Listener C)
    (callback : C) (marks : List Marks) (failed : Bool) (seat : SeatState)
    → low ≡ count → IsHearing has_heard count events writes config at_first ends low slot set hands listener
    → callback ≡ callback_of listener → marks ≡ marks_in listener → failed ≡ has_failed listener
    → seat.share ≡ seat.seats → seat.taken ≡ seat.given → seat.total ≡ set.grant.config.chunks → seat.dry ≡ set.seat.dry
    → HasEnded has_heard count events writes config at_first ends callback marks failed seat
hearing-ended {C = C} has_heard count events writes config at_first ends low slot set hands listener callback marks failed seat all was callback_is marks_are failed_is alone back chunks dry =
    record {
      accounts = was.accounts;
      heard =
          subst (λ (c : C). HasHeard has_heard count (admitted_in events writes config) at_first was.accounts c failed) (sym callback_is)
          (subst (λ (v : Bool). HasHeard has_heard count (admitted_in events writes config) at_first was.accounts (callback_of listener) v) (sym failed_is) was.heard);
      marks_count = ap length marks_are ∙ was.marks ∙ all;
      marks_are = subst (λ (ms : List Marks). (k : ℕ) (m : Marks) → slice_get ms k ≡ Some m → IsMarkBy events writes config was.accounts ends k m) (sym marks_are) was.marks_are;
      spent = record {
        alone = alone;
        back = back;
        chunks = chunks ∙ ap (λ (c : Config). c.chunks) was.rows.config_is;
        dry = dry ∙ was.dry ∙ sym (ap (λ (ms : List Marks). sum_by (λ mark. mark.refused) ms) marks_are);
      };
    }
