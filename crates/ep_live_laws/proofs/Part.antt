-- What was told of each thread is of its writes, in their order, whatever was left out after a fault.
use Rattle.std.proofs.Common.{◌≡◌, ℕ, ◌≤◌, true, false, inl, inr, List, [], ◌∷◌, ◌++◌, length, map, filter, refl, ap, sym, ◌∙◌, arith}
use Rattle.std.specs.Prelude.{◌==◌}
use Rattle.std.specs.List.{list_all, AllByRecursion}
use Rattle.std.proofs.lemmas.Bool.{cases_eq, eq-eqb, ne_eqb, and_parts, false_from_ne_true, true≢false, false≢true}
use Rattle.std.proofs.lemmas.Grind.{flat_map-append}
use Rattle.std.proofs.lemmas.List.{append-nil, length-append, length-map}
use Rattle.ep_defs.specs.Entry.{EventEntry, PointEntry, Entry, Event, Point}
use Rattle.ep_defs.specs.Gaps.{sightings, sightings_in}
use Rattle.ep_model.specs.Faithful.{Contents, contents_of, events_in, events_of}
use Rattle.ep_model.specs.History.{insert_ascending}
use Rattle.ep_model.proofs.Lists.{all_more, has}
use Rattle.ep_model.proofs.Numbers.{AreOwn}
use Rattle.ep_model.proofs.Tally.{events_of-own, events_of-other}
use Rattle.ep_live_laws.specs.Traced.{AreRising, contents_from}
use Rattle.ep_live_laws.specs.Tracing.{Account, IsOneOf, TellsPart, Watch, speaks_of}
use Rattle.ep_live_laws.proofs.Accounts.{with_opened, with_taken, one-before, one-more}
use Rattle.ep_live_laws.proofs.Batches.{AreToldOf}
use Rattle.ep_live_laws.proofs.Shares.{rising-up}

-- ---- lists

rising-append : (below mid most : ℕ) (contents more : List Contents) → AreRising below mid contents → AreRising mid most more → AreRising below most (contents ++ more)
rising-append below mid most [] [] first later = omega (arith, first, later)
rising-append below mid most [] (c ∷ more) first later = (omega (arith, first, later.0), later.1)
rising-append below mid most (c ∷ contents) more first later = (first.0, rising-append c.number mid most contents more first.1 later)

rising-front : (below most : ℕ) (contents more : List Contents) → AreRising below most (contents ++ more) → AreRising below most contents
rising-front below most [] more rising = rising-up below most more rising
rising-front below most (c ∷ contents) more rising = (rising.0, rising-front c.number most contents more rising.1)

pub each-append : {A : Type 0} (P : A → Type 0) (xs ys : List A) → AllByRecursion P xs → AllByRecursion P ys → AllByRecursion P (xs ++ ys)
each-append P [] ys first later = later
each-append P (x ∷ xs) ys first later = (first.0, each-append P xs ys first.1 later)

pub each-front : {A : Type 0} (P : A → Type 0) (xs ys : List A) → AllByRecursion P (xs ++ ys) → AllByRecursion P xs
each-front P [] ys all = tt
each-front P (x ∷ xs) ys all = (all.0, each-front P xs ys all.1)

pub each-more : {A : Type 0} (P Q : A → Type 0) (xs : List A) → ((x : A) → P x → Q x) → AllByRecursion P xs → AllByRecursion Q xs
each-more P Q [] more all = tt
each-more P Q (x ∷ xs) more all = (more x all.0, each-more P Q xs more all.1)

pub events-append : (thread : ℕ) (told more : List Entry) → events_of thread (told ++ more) ≡ events_of thread told ++ events_of thread more
events-append thread told more = flat_map-append (events_in thread) told more

pub sightings-append : (thread : ℕ) (told more : List Entry) → sightings thread (told ++ more) ≡ sightings thread told ++ sightings thread more
sightings-append thread told more = flat_map-append (sightings_in thread) told more

-- ---- other threads

-- What speaks of some threads says nothing of another.
unspoken-event : (threads : List ℕ) (thread other : ℕ) → has thread threads ≡ false → has other threads ≡ true → (other == thread) ≡ false
unspoken-event threads thread other none is =
    ne_eqb other thread (λ same. true≢false (sym is ∙ ap (λ t. has t threads) same ∙ none))

pub unspoken-events : (threads : List ℕ) (thread : ℕ) (told : List Entry) → has thread threads ≡ false → AllByRecursion (λ entry. speaks_of threads entry ≡ true) told → events_of thread told ≡ []
unspoken-events threads thread [] none alone = refl
unspoken-events threads thread (Event event ∷ told) none alone =
    rw (unspoken-event threads thread event.thread none alone.0) (unspoken-events threads thread told none alone.1)
unspoken-events threads thread (Point point ∷ told) none alone = unspoken-events threads thread told none alone.1

unspoken-names : (threads : List ℕ) (thread : ℕ) (named : List (ℕ × ℕ)) → has thread threads ≡ false → list_all (λ (n : ℕ × ℕ). has n.0 threads) named ≡ true → filter (λ (n : ℕ × ℕ). n.0 == thread) named ≡ []
unspoken-names threads thread [] none all = refl
unspoken-names threads thread (n ∷ named) none all =
    let parts = and_parts (has n.0 threads) (list_all (λ (m : ℕ × ℕ). has m.0 threads) named) all in
    rw (unspoken-event threads thread n.0 none parts.0) (unspoken-names threads thread named none parts.1)

pub unspoken-sightings : (threads : List ℕ) (thread : ℕ) (told : List Entry) → has thread threads ≡ false → AllByRecursion (λ entry. speaks_of threads entry ≡ true) told → sightings thread told ≡ []
unspoken-sightings threads thread [] none alone = refl
unspoken-sightings threads thread (Event event ∷ told) none alone =
    rw (unspoken-event threads thread event.thread none alone.0) (unspoken-sightings threads thread told none alone.1)
unspoken-sightings threads thread (Point point ∷ told) none alone =
    rw (unspoken-names threads thread point.threads none alone.0) (unspoken-sightings threads thread told none alone.1)

own-alone : (threads : List ℕ) (thread : ℕ) (told : List EventEntry) → has thread threads ≡ true → AreOwn thread told → AllByRecursion (λ entry. speaks_of threads entry ≡ true) (map Event told)
own-alone threads thread [] is own = tt
own-alone threads thread (event ∷ told) is own = (ap (λ t. has t threads) own.0 ∙ is, own-alone threads thread told is own.1)

-- ---- each call

-- Nothing was told of no thread.
pub part-none : (watch : Watch) (accounts : ℕ → Account) → TellsPart watch [] accounts []
part-none watch accounts =
    record { rising = λ thread is. absurd (false≢true is); in_place = λ thread is. tt; few = λ thread is. omega arith; alone = tt }

-- A batch of a thread's events more.
pub part-taken : (watch : Watch) (opened : List ℕ) (accounts : ℕ → Account) (told : List Entry) (thread count last : ℕ) (more : List EventEntry)
    → IsOneOf opened thread → TellsPart watch opened accounts told
    → AreToldOf thread (accounts thread).last last (contents_from watch.events watch.config (accounts thread).from (watch.writes thread)) count more
    → TellsPart watch opened (with_taken accounts thread count last) (told ++ map Event more)
part-taken watch opened accounts told thread count last more row part batch =
    record {
      rising = λ t is.
          rw (events-append t told (map Event more))
          (elim (cases_eq t thread) [
            | inl same ↦
                rw (eq-eqb t thread same, same, events_of-own thread more batch.own)
                (rising-append 0 (accounts thread).last last (events_of thread told) (map contents_of more) (part.rising thread row) batch.rising)
            | inr other ↦
                let apart = ne_eqb thread t (λ e. other (sym e)) in
                rw (ne_eqb t thread other, events_of-other t thread more apart batch.own, append-nil (events_of t told)) (part.rising t is)
          ]);
      in_place = λ t is.
          rw (events-append t told (map Event more))
          (elim (cases_eq t thread) [
            | inl same ↦
                rw (same, events_of-own thread more batch.own)
                (each-append _ (events_of thread told) (map contents_of more) (part.in_place thread row) batch.in_place)
            | inr other ↦
                let apart = ne_eqb thread t (λ e. other (sym e)) in
                rw (events_of-other t thread more apart batch.own, append-nil (events_of t told)) (part.in_place t is)
          ]);
      few = λ t is.
          rw (events-append t told (map Event more))
          (elim (cases_eq t thread) [
            | inl same ↦
                let both = length-append (events_of thread told) (map contents_of more) in
                rw (eq-eqb t thread same, same, events_of-own thread more batch.own)
                (omega (arith, both, length-map more contents_of, batch.counted, part.few thread row))
            | inr other ↦
                let apart = ne_eqb thread t (λ e. other (sym e)) in
                rw (ne_eqb t thread other, events_of-other t thread more apart batch.own, append-nil (events_of t told)) (part.few t is)
          ]);
      alone = each-append _ told (map Event more) part.alone (own-alone opened thread more row batch.own);
    }

-- A point more.
pub part-pointed : (watch : Watch) (opened : List ℕ) (accounts : ℕ → Account) (told : List Entry) (point : PointEntry)
    → speaks_of opened (Point point) ≡ true → TellsPart watch opened accounts told → TellsPart watch opened accounts (told ++ Point point ∷ [])
part-pointed watch opened accounts told point speaks part =
    record {
      rising = λ t is. rw (events-append t told (Point point ∷ []), append-nil (events_of t told)) (part.rising t is);
      in_place = λ t is. rw (events-append t told (Point point ∷ []), append-nil (events_of t told)) (part.in_place t is);
      few = λ t is. rw (events-append t told (Point point ∷ []), append-nil (events_of t told)) (part.few t is);
      alone = each-append _ told (Point point ∷ []) part.alone (speaks, tt);
    }

-- The first of the entries.
pub part-front : (watch : Watch) (opened : List ℕ) (accounts : ℕ → Account) (told more : List Entry) → TellsPart watch opened accounts (told ++ more) → TellsPart watch opened accounts told
part-front watch opened accounts told more part =
    record {
      rising = λ t is. rising-front 0 (accounts t).last (events_of t told) (events_of t more) (rw (events-append t told more) at (part.rising t is));
      in_place = λ t is. each-front _ (events_of t told) (events_of t more) (rw (events-append t told more) at (part.in_place t is));
      few = λ t is.
          let all : length (events_of t told ++ events_of t more) ≤ (accounts t).taken = rw (events-append t told more) at (part.few t is) in
          omega (arith, all, length-append (events_of t told) (events_of t more));
      alone = each-front _ told more part.alone;
    }

-- One thread more, of which nothing was told.
pub part-opened : (watch : Watch) (opened : List ℕ) (thread from : ℕ) (accounts : ℕ → Account) (told : List Entry) → (IsOneOf opened thread → ⊥) → TellsPart watch opened accounts told
    → TellsPart watch (insert_ascending thread opened) (with_opened accounts thread from) told
part-opened watch opened thread from accounts told fresh part =
    let nothing : events_of thread told ≡ [] = unspoken-events opened thread told (false_from_ne_true (has thread opened) fresh) part.alone in
    record {
      rising = λ t is.
          elim (cases_eq t thread) [
            | inl same ↦ rw (eq-eqb t thread same, same, nothing) (omega arith)
            | inr other ↦ let off = ne_eqb t thread other in rw off (part.rising t (one-before thread t opened is off))
          ];
      in_place = λ t is.
          elim (cases_eq t thread) [
            | inl same ↦ rw (same, nothing) tt
            | inr other ↦ let off = ne_eqb t thread other in rw off (part.in_place t (one-before thread t opened is off))
          ];
      few = λ t is.
          elim (cases_eq t thread) [
            | inl same ↦ rw (eq-eqb t thread same, same, nothing) (omega arith)
            | inr other ↦ let off = ne_eqb t thread other in rw off (part.few t (one-before thread t opened is off))
          ];
      alone = each-more _ _ told speaks-more part.alone;
    }
  where
    speaks-more : (entry : Entry) → speaks_of opened entry ≡ true → speaks_of (insert_ascending thread opened) entry ≡ true
    speaks-more (Event event) is = one-more thread event.thread opened is
    speaks-more (Point point) is =
        all_more (λ (n : ℕ × ℕ). has n.0 opened) (λ (n : ℕ × ℕ). has n.0 (insert_ascending thread opened)) (λ n there. one-more thread n.0 opened there) point.threads is
