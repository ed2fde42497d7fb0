-- What was told once batches were taken of rows, one after another.
use Rattle.std.proofs.Common.{◌≡◌, ℕ, zero, suc, ◌+◌, ◌^◌, ◌<◌, ◌≤◌, true, false, inl, inr, List, [], ◌∷◌, ◌++◌, length, map, Option, Some, None, refl, ap, sym, ◌∙◌, subst, arith, append_assoc}
use Rattle.std.specs.Prelude.{◌==◌, if◌then◌else◌, is_some}
use Rattle.std.specs.List.{All, AllByRecursion}
use Rattle.std.proofs.lemmas.Bool.{cases_eq, eq-eqb, ne_eqb}
use Rattle.std.proofs.lemmas.List.{append-nil}
use Rattle.std.proofs.lemmas.List.Elements.{All-head, All-tail}
use Rattle.ep_defs.specs.declared.session.Marks.{Marks}
use Rattle.ep_defs.specs.Entry.{EventEntry, Entry, Event}
use Rattle.ep_chunk.specs.Record.{Record}
use Rattle.ep_model.specs.Faithful.{Contents}
use Rattle.ep_model.proofs.Ascending.{AreAbove, IsAscending}
use Rattle.ep_model.proofs.Tally.{events_of-other, sightings-other}
use Rattle.ep_slot.specs.Hand.{HandState}
use Rattle.ep_guarded.specs.Tied.{AreCounted}
use Rattle.ep_stream.specs.declared.opened.Named.{Named}
use Rattle.ep_stream.specs.Named.{with_number, with_marks}
use Rattle.ep_stream.specs.Rows.{IsMarked, hand_after}
use Rattle.ep_stream.specs.Session.{Batched}
use Rattle.ep_stream.specs.Sweep.{Taking, rows_of, open_rows, with_taking, hands_after, named_after, entries_in}
use Rattle.ep_stream.specs.Telling.{entries_of}
use Rattle.ep_live_laws.specs.Traced.{contents_from}
use Rattle.ep_live_laws.specs.Tracing.{Account, IsAdmittedAs, IsHandBy, IsHeld, IsOneOf, TellsAll, Traces, Watch}
use Rattle.ep_live_laws.proofs.Accounts.{with_taken}
use Rattle.ep_live_laws.proofs.All.{all-other, all-taken}
use Rattle.ep_live_laws.proofs.Batches.{AreToldOf, Batch, batch-told}
use Rattle.ep_live_laws.proofs.Closing.{keeps-closed, with_last}
use Rattle.ep_live_laws.proofs.Keeping.{keeps-taken}
use Rattle.ep_live_laws.proofs.Part.{part-taken}
use Rattle.ep_live_laws.proofs.Shares.{rising-up}

-- ---- one batch

-- The records of a batch are told as events of its thread, numbered on from the account's last number.
batch-of : (watch : Watch) (opened : List ℕ) (last row : ℕ) (accounts : ℕ → Account) (hand : HandState) (records : List Record)
    → IsHandBy watch.home opened accounts row hand → Batched (IsAdmittedAs watch.events watch.writes watch.config) watch.events hand records last
    → Batch watch.events watch.config.stackwalk hand.thread (accounts hand.thread).last last (contents_from watch.events watch.config (accounts hand.thread).from (watch.writes hand.thread)) records
batch-of watch opened last row accounts hand records by batched =
    let events = watch.events in
    let config = watch.config in
    let writes = watch.writes in
    let b = batched.batch in
    let told = batch-told events writes config hand.thread hand.from hand.last last records b.of_thread b.rising b.defined batched.tested in
    let At : ℕ → ℕ → Type 0 = λ from below. Batch events config.stackwalk hand.thread below last (contents_from events config from (writes hand.thread)) records in
    subst (λ from. At from (accounts hand.thread).last) by.from (subst (λ below. At hand.from below) by.last told)

-- All that was taken of each thread was told, with one batch more of one of them.
all-batch : (opened : List ℕ) (thread count last : ℕ) (accounts now : ℕ → Account) (told : List Entry) (all : List Contents) (more : List EventEntry) → AreToldOf thread (accounts thread).last last all count more → (accounts thread).last ≤ last
    → (now thread).taken ≡ (accounts thread).taken + count → (now thread).last ≡ last → (now thread).is_named ≡ true
    → ((t : ℕ) → (t == thread) ≡ false → now t ≡ accounts t)
    → ((t : ℕ) → IsOneOf opened t → (accounts t).last < 2 ^ 32 → TellsAll t (accounts t) told)
    → (t : ℕ) → IsOneOf opened t → (now t).last < 2 ^ 32 → TellsAll t (now t) (told ++ map Event more)
all-batch opened thread count last accounts now told all more batch up taken last_is named others before t is small =
    elim (cases_eq t thread) [
      | inl same ↦
          let Tells : ℕ → Type 0 = λ n. TellsAll n (now n) (told ++ map Event more) in
          let row : IsOneOf opened thread = subst (IsOneOf opened) same is in
          let small_there : (now thread).last < 2 ^ 32 = subst (λ n. (now n).last < 2 ^ 32) same small in
          let few : last < 2 ^ 32 = omega (arith, small_there, last_is) in
          subst Tells (sym same) (all-taken thread count last (accounts thread) (now thread) told all more batch few taken last_is named (before thread row (omega (arith, up, few))))
      | inr other ↦
          let apart = ne_eqb thread t (λ e. other (sym e)) in
          let e = others t (ne_eqb t thread other) in
          let Tells : Account → Type 0 = λ account. TellsAll t account (told ++ map Event more) in
          let small_before : (accounts t).last < 2 ^ 32 = subst (λ (account : Account). account.last < 2 ^ 32) e small in
          subst Tells (sym e) (all-other t (accounts t) told (map Event more) (events_of-other t thread more apart batch.own) (sightings-other t thread more apart batch.own) (before t is small_before))
    ]

-- The hand of a row on which the session is open.
hand-by : (home : ℕ → ℕ) (opened : List ℕ) (accounts : ℕ → Account) (row : ℕ) (found : Option HandState) (hand : HandState) → IsHeld home opened accounts row found → found ≡ Some hand → IsHandBy home opened accounts row hand
hand-by home opened accounts row found hand held is = subst (IsHeld home opened accounts row) is held

-- A batch was taken of a row.
pub taken-traces : (watch : Watch) (opened : List ℕ) (Sound : Type 0) (hands new : ℕ → Option HandState) (named : List Named) (marks : List Marks) (told : List Entry) (row last chunks : ℕ) (hand : HandState) (records : List Record)
    → hands row ≡ Some hand → Batched (IsAdmittedAs watch.events watch.writes watch.config) watch.events hand records last
    → ((r : ℕ) → new r ≡ (if r == row then Some (hand_after hand (length records) last chunks) else hands r))
    → Traces watch opened Sound hands named marks told
    → Traces watch opened Sound new (with_number hand.thread last true named) marks (told ++ entries_of watch.events watch.config.stackwalk records)
taken-traces watch opened Sound hands new named marks told row last chunks hand records was batched sets h =
    let accounts = h.accounts in
    let thread = hand.thread in
    let by = hand-by watch.home opened accounts row (hands row) hand (h.keeps.held row) was in
    let batch = batch-of watch opened last row accounts hand records by batched in
    let now = with_taken accounts thread (length records) last in
    let here = eq-eqb thread thread refl in
    let up = rising-up (accounts thread).last last _ batch.are.rising in
    let Is : List Entry → Type 0 = λ more. Traces watch opened Sound new (with_number hand.thread last true named) marks (told ++ more) in
    subst Is (sym batch.entries_are)
    record {
      accounts = now;
      keeps = keeps-taken watch opened (length records) last chunks row accounts hands new named marks hand by sets h.keeps;
      part = part-taken watch opened accounts told thread (length records) last batch.told by.is_opened h.part batch.are;
      all = λ sound.
          all-batch opened thread (length records) last accounts now told _ batch.told batch.are up (rw here refl) (rw here refl) (h.keeps.open_named thread by.is_open) (λ x off. rw off refl) (h.all sound);
    }

-- The last batch was taken of a row, on which the session was closed.
pub closed-traces : (watch : Watch) (opened : List ℕ) (Sound : Type 0) (hands new : ℕ → Option HandState) (named : List Named) (marks : List Marks) (told : List Entry) (row last : ℕ) (hand : HandState) (records : List Record) (mark : Marks)
    → hands row ≡ Some hand → Batched (IsAdmittedAs watch.events watch.writes watch.config) watch.events hand records last → IsMarked hand records last mark → AreCounted watch.events watch.writes watch.config mark
    → ((r : ℕ) → new r ≡ (if r == row then None else hands r))
    → Traces watch opened Sound hands named marks told
    → Traces watch opened Sound new (with_number hand.thread last false named) (with_marks mark marks) (told ++ entries_of watch.events watch.config.stackwalk records)
closed-traces watch opened Sound hands new named marks told row last hand records mark was batched marked counted sets h =
    let accounts = h.accounts in
    let thread = hand.thread in
    let by = hand-by watch.home opened accounts row (hands row) hand (h.keeps.held row) was in
    let batch = batch-of watch opened last row accounts hand records by batched in
    let now = with_last accounts thread (length records) last mark.to in
    let here = eq-eqb thread thread refl in
    let up = rising-up (accounts thread).last last _ batch.are.rising in
    let Is : List Entry → Type 0 = λ more. Traces watch opened Sound new (with_number hand.thread last false named) (with_marks mark marks) (told ++ more) in
    subst Is (sym batch.entries_are)
    record {
      accounts = now;
      keeps = keeps-closed watch opened (length records) last row accounts hands new named marks hand mark by marked.thread marked.from marked.taken marked.refused counted sets h.keeps;
      part = (let part = part-taken watch opened accounts told thread (length records) last batch.told by.is_opened h.part batch.are in record { rising = part.rising; in_place = part.in_place; few = part.few; alone = part.alone });
      all = λ sound.
          all-batch opened thread (length records) last accounts now told _ batch.told batch.are up (rw here refl) (rw here refl) (h.keeps.open_named thread by.is_open) (λ x off. rw off refl) (h.all sound);
    }

-- ---- batches of rows that ascend

-- None is above the number.
abbrev AllUpTo : ℕ → List ℕ → Type 0
AllUpTo n xs = AllByRecursion (λ x. x ≤ n) xs

above-more : (n : ℕ) (xs ys : List ℕ) → AreAbove n (xs ++ ys) → AreAbove n xs
above-more n [] ys above = tt
above-more n (x ∷ xs) ys above = (above.0, above-more n xs ys above.1)

pub ascending-front : (xs ys : List ℕ) → IsAscending (xs ++ ys) → IsAscending xs
ascending-front [] ys up = tt
ascending-front (x ∷ xs) ys up = (above-more x xs ys up.0, ascending-front xs ys up.1)

ascending-push : (xs : List ℕ) (n : ℕ) → IsAscending xs → AllUpTo n xs → IsAscending (xs ++ suc n ∷ [])
ascending-push [] n up below = (tt, tt)
ascending-push (x ∷ xs) n up below = (above-push x n xs up.0 (let first = below.0 in omega arith), ascending-push xs n up.1 below.1)
  where
    above-push : (x n : ℕ) (xs : List ℕ) → AreAbove x xs → x < suc n → AreAbove x (xs ++ suc n ∷ [])
    above-push x n [] above less = (less, tt)
    above-push x n (y ∷ ys) above less = (above.0, above-push x n ys above.1 less)

-- The rows that have a hand ascend.
rows-below : (hands : ℕ → Option HandState) (count : ℕ) → AllUpTo count (open_rows hands count)
rows-below hands zero = tt
rows-below hands (suc n) =
    elim (is_some (hands (suc n))) as (λ v. AllUpTo (suc n) (open_rows hands n ++ (if v then suc n ∷ [] else []))) [
      | true ↦ up-append (suc n) (open_rows hands n) (suc n ∷ []) (up-more n (suc n) (open_rows hands n) (omega arith) (rows-below hands n)) (omega arith, tt)
      | false ↦ up-append (suc n) (open_rows hands n) [] (up-more n (suc n) (open_rows hands n) (omega arith) (rows-below hands n)) tt
    ]
  where
    up-more : (n m : ℕ) (xs : List ℕ) → n ≤ m → AllUpTo n xs → AllUpTo m xs
    up-more n m [] less all = tt
    up-more n m (x ∷ xs) less all = (let first = all.0 in omega arith, up-more n m xs less all.1)

    up-append : (n : ℕ) (xs ys : List ℕ) → AllUpTo n xs → AllUpTo n ys → AllUpTo n (xs ++ ys)
    up-append n [] ys first later = later
    up-append n (x ∷ xs) ys first later = (first.0, up-append n xs ys first.1 later)

pub rows-ascending : (hands : ℕ → Option HandState) (count : ℕ) → IsAscending (open_rows hands count)
rows-ascending hands zero = tt
rows-ascending hands (suc n) =
    elim (is_some (hands (suc n))) as (λ v. IsAscending (open_rows hands n ++ (if v then suc n ∷ [] else []))) [
      | true ↦ ascending-push (open_rows hands n) n (rows-ascending hands n) (rows-below hands n)
      | false ↦ subst IsAscending (sym (append-nil (open_rows hands n))) (rows-ascending hands n)
    ]

-- What is taken later is of other rows.
later-were : (hands : ℕ → Option HandState) (t : Taking) (takings : List Taking) → AreAbove t.row (rows_of takings) → All (λ u. hands u.row ≡ Some u.hand) takings → All (λ u. with_taking hands t u.row ≡ Some u.hand) takings
later-were hands t [] above were k d small = absurd (omega (arith, small))
later-were hands t (u ∷ takings) above were zero d small =
    let over : t.row < u.row = above.0 in
    ap (λ v. if v then Some (hand_after t.hand (length t.records) t.last t.chunks) else hands u.row) (ne_eqb u.row t.row (λ same. omega (arith, over, same))) ∙ were 0 d small
later-were hands t (u ∷ takings) above were (suc k) d small =
    later-were hands t takings above.1 (λ i e less. were (suc i) e (omega (arith, less))) k d (omega (arith, small))

-- Batches were taken of rows that ascend.
pub swept-traces : (watch : Watch) (opened : List ℕ) (Sound : Type 0) (hands : ℕ → Option HandState) (named : List Named) (marks : List Marks) (told : List Entry) (takings : List Taking)
    → IsAscending (rows_of takings) → All (λ t. hands t.row ≡ Some t.hand) takings → All (λ t. Batched (IsAdmittedAs watch.events watch.writes watch.config) watch.events t.hand t.records t.last) takings
    → Traces watch opened Sound hands named marks told
    → Traces watch opened Sound (hands_after hands takings) (named_after named takings) marks (told ++ entries_in watch.events watch.config.stackwalk takings)
swept-traces watch opened Sound hands named marks told [] up were batched h =
    let Is : List Entry → Type 0 = λ es. Traces watch opened Sound hands named marks es in
    subst Is (sym (append-nil told)) h
swept-traces watch opened Sound hands named marks told (t ∷ takings) up were batched h =
    let first = taken-traces watch opened Sound hands (with_taking hands t) named marks told t.row t.last t.chunks t.hand t.records
    (All-head (λ (u : Taking). hands u.row ≡ Some u.hand) t takings were)
    (All-head (λ (u : Taking). Batched (IsAdmittedAs watch.events watch.writes watch.config) watch.events u.hand u.records u.last) t takings batched) (λ r. refl) h in
    let later = swept-traces watch opened Sound (with_taking hands t) (with_number t.hand.thread t.last true named) marks (told ++ entries_of watch.events watch.config.stackwalk t.records) takings up.1
    (later-were hands t takings up.0 (All-tail (λ (u : Taking). hands u.row ≡ Some u.hand) t takings were))
    (All-tail (λ (u : Taking). Batched (IsAdmittedAs watch.events watch.writes watch.config) watch.events u.hand u.records u.last) t takings batched) first in
    let Is : List Entry → Type 0 = λ es. Traces watch opened Sound (hands_after hands (t ∷ takings)) (named_after named (t ∷ takings)) marks es in
    subst Is (append_assoc told (entries_of watch.events watch.config.stackwalk t.records) (entries_in watch.events watch.config.stackwalk takings)) later
