-- What a session has told that was closed on each of its rows, and then ended.
use Rattle.std.proofs.Common.{◌≡◌, ℕ, zero, suc, ◌+◌, ◌-◌, ◌^◌, ◌<◌, ◌≤◌, Bool, true, false, List, [], ◌∷◌, ◌++◌, length, map, filter, take, drop, Option, Some, None, refl, ap, sym, ◌∙◌, subst, arith}
use Rattle.std.specs.Prelude.{not, ◌||◌, ◌==◌, slice_get}
use Rattle.std.specs.List.{list_any, list_all, AllByRecursion}
use Rattle.std.proofs.lemmas.Bool.{eq-eqb, or_left, or_right, and_parts, and_from}
use Rattle.std.proofs.lemmas.List.{append-nil, drop-append-le, length-take, length-drop, map-id, take-append-drop}
use Rattle.std.proofs.lemmas.List.Elements.{filter-append}
use Rattle.ep_defs.specs.declared.limits.TheConstants.{WRITES}
use Rattle.ep_defs.specs.declared.event.EventDef.{EventDef}
use Rattle.ep_defs.specs.declared.session.Config.{Config}
use Rattle.ep_defs.specs.declared.session.Marks.{Marks}
use Rattle.ep_defs.specs.declared.session.Write.{Write}
use Rattle.ep_defs.specs.Entry.{PointEntry, Entry, Event, Point}
use Rattle.ep_defs.specs.Gaps.{Known, gaps, missing, sightings}
use Rattle.ep_model.specs.Faithful.{Contents, Share, events_of, is_among, kept, last_sighting, numbered}
use Rattle.ep_model.specs.History.{admits_write, admitted_from}
use Rattle.ep_model.proofs.Admitted.{filter-shorter, numbered-append}
use Rattle.ep_model.proofs.Lists.{has}
use Rattle.ep_slot.specs.Hand.{HandState}
use Rattle.ep_guarded.specs.Tied.{AreCounted}
use Rattle.ep_stream_laws.proofs.Lists.{filter-all, map-mapped}
use Rattle.ep_stream.specs.declared.opened.Named.{Named}
use Rattle.ep_live_laws.specs.Traced.{AreInPlace, AreMarks, ArePart, AreRising, AreTraced, admitted_by, contents_from, refused_by, share_by, shares_by}
use Rattle.ep_live_laws.specs.Tracing.{Account, IsHeld, IsOneOf, Keeps, TellsAll, TellsPart, Watch, marks_by, speaks_of}
use Rattle.ep_live_laws.proofs.Numbered.{contents-from, contents-length}
use Rattle.ep_live_laws.proofs.Shares.{rising-up, unseen-count, unseen-kept}

-- ---- lists

-- What holds of each number of a list.
each-of : {A : Type 0} (P : A → Type 0) (f : ℕ → A) (xs : List ℕ) → ((t : ℕ) → has t xs ≡ true → P (f t)) → AllByRecursion P (map f xs)
each-of P f [] each = tt
each-of P f (x ∷ xs) each = (each x (or_left (x == x) (has x xs) (eq-eqb x x refl)), each-of P f xs (λ t is. each t (or_right (x == t) (has t xs) is)))

get-front : {A : Type 0} (place : ℕ) (xs ys : List A) → place < length xs → slice_get (xs ++ ys) place ≡ slice_get xs place
get-front place [] ys within = absurd (omega arith)
get-front zero (x ∷ xs) ys within = refl
get-front (suc place) (x ∷ xs) ys within = get-front place xs ys (omega arith)

-- What stands in place among more stands in place among the first, where no number is past them.
in-place-front : (below : ℕ) (all more contents : List Contents) → AreRising below (length all) contents → AreInPlace (all ++ more) contents → AreInPlace all contents
in-place-front below all more [] rising at = tt
in-place-front below all more (c ∷ contents) rising at =
    let over = rising.0 in
    let up = rising-up c.number (length all) contents rising.1 in
    (sym (get-front (c.number - 1) all more (omega arith)) ∙ at.0, in-place-front c.number all more contents rising.1 at.1)

-- ---- writes up to the closing

-- What a session has to tell up to its closing is the first of what it has to tell.
contents-front : (events : List EventDef) (config : Config) (from to : ℕ) (writes : List Write) → from ≤ to → to ≤ length writes
    → (more : List Contents) × (contents_from events config from writes ≡ contents_from events config from (take to writes) ++ more)
contents-front events config from to writes ordered within =
    let p : Write → Bool = λ write. admits_write events (Some config) write in
    let first = take to writes in
    let long : length first ≡ to = omega (arith, length-take to writes) in
    let parts : drop from writes ≡ drop from first ++ drop to writes =
    ap (drop from) (sym (take-append-drop to writes)) ∙ drop-append-le from first (drop to writes) (omega (arith, long)) in
    let admitted : filter p (drop from writes) ≡ filter p (drop from first) ++ filter p (drop to writes) = ap (filter p) parts ∙ filter-append p (drop from first) (drop to writes) in (
      numbered events config.stackwalk (1 + length (filter p (drop from first))) (filter p (drop to writes)),
      ap (numbered events config.stackwalk 1) admitted ∙ numbered-append events config.stackwalk 1 (filter p (drop from first)) (filter p (drop to writes)),
    )

-- No more writes are admitted than were made.
admitted-few : (events : List EventDef) (config : Config) (from to : ℕ) (writes : List Write) → length (admitted_from events (Some config) from (take to writes)) ≤ length writes
admitted-few events config from to writes =
    let some = filter-shorter (λ write. admits_write events (Some config) write) (drop from (take to writes)) in
    let a = length-drop from (take to writes) in
    let b = length-take to writes in
    omega arith

-- ---- a session that is open nowhere

pub all-shut : (watch : Watch) (opened : List ℕ) (accounts : ℕ → Account) (hands : ℕ → Option HandState) (named : List Named) (marks : List Marks) → Keeps watch opened accounts hands named marks → ((row : ℕ) → hands row ≡ None)
    → (t : ℕ) → IsOneOf opened t → (accounts t).is_open ≡ false
all-shut watch opened accounts hands named marks keeps none t is = subst (IsHeld watch.home opened accounts (watch.home t)) (none (watch.home t)) (keeps.held (watch.home t)) t is refl

-- It has its marks of each thread.
pub marks-all : (watch : Watch) (opened : List ℕ) (accounts : ℕ → Account) (hands : ℕ → Option HandState) (named : List Named) (marks : List Marks) → Keeps watch opened accounts hands named marks → ((row : ℕ) → hands row ≡ None)
    → marks ≡ map (marks_by accounts) opened
marks-all watch opened accounts hands named marks keeps none =
    keeps.marks_are
    ∙ ap (map (marks_by accounts)) (filter-all (λ t. not (accounts t).is_open) opened (λ t is. ap not (all-shut watch opened accounts hands named marks keeps none t is)))

pub are-marks : (watch : Watch) (opened : List ℕ) (accounts : ℕ → Account) (hands : ℕ → Option HandState) (named : List Named) (marks : List Marks) → Keeps watch opened accounts hands named marks → ((row : ℕ) → hands row ≡ None)
    → AreMarks watch.events watch.config watch.writes opened marks
are-marks watch opened accounts hands named marks keeps none =
    let all = marks-all watch opened accounts hands named marks keeps none in
    subst (AreMarks watch.events watch.config watch.writes opened) (sym all)
    record {
      threads = map-mapped (λ (m : Marks). m.thread) (marks_by accounts) opened ∙ map-id opened;
      counted = each-of (AreCounted watch.events watch.writes watch.config) (marks_by accounts) opened
          (λ t is. keeps.counted t is (all-shut watch opened accounts hands named marks keeps none t is));
    }

-- ---- one thread

-- What the session had to tell of a thread on which it was closed, and what was told of it.
record IsClosed (events : List EventDef) (config : Config) (writes : ℕ → List Write) (accounts : ℕ → Account) (told : List Entry) (t : ℕ) : Type 0 where
  total : (accounts t).taken + (marks_by accounts t).refused ≡ (accounts t).last
  long : length (admitted_by events config writes (marks_by accounts t)) ≡ (accounts t).last
  up_to : (accounts t).last ≤ length (writes t)
  rising : AreRising 0 (accounts t).last (events_of t told)
  in_place : AreInPlace (admitted_by events config writes (marks_by accounts t)) (events_of t told)

is-closed : (watch : Watch) (opened : List ℕ) (accounts : ℕ → Account) (hands : ℕ → Option HandState) (named : List Named) (marks : List Marks) (told : List Entry) → Keeps watch opened accounts hands named marks → ((row : ℕ) → hands row ≡ None)
    → TellsPart watch opened accounts told → (t : ℕ) → IsOneOf opened t → IsClosed watch.events watch.config watch.writes accounts told t
is-closed watch opened accounts hands named marks told keeps none part t row =
    let events = watch.events in
    let config = watch.config in
    let writes = watch.writes in
    let mark = marks_by accounts t in
    let shut = all-shut watch opened accounts hands named marks keeps none t row in
    let counted = keeps.counted t row shut in
    let within = keeps.within t row shut in
    let total : (accounts t).taken + mark.refused ≡ (accounts t).last = omega arith in
    let count : mark.taken + mark.refused ≡ length (admitted_from events (Some config) mark.from (take mark.to (writes t))) = counted.counted in
    let long : length (admitted_by events config writes mark) ≡ (accounts t).last = contents-length events config mark.from (take mark.to (writes t)) ∙ sym count ∙ total in
    let few = admitted-few events config mark.from mark.to (writes t) in
    let front = contents-front events config mark.from mark.to (writes t) counted.ordered counted.within in
    let rising = part.rising t row in
    record {
      total = total;
      long = long;
      up_to = omega (arith, total, count, few);
      rising = rising;
      in_place = in-place-front 0 (admitted_by events config writes mark) front.0 (events_of t told)
          (subst (λ n. AreRising 0 n (events_of t told)) (sym long) rising)
          (subst (λ all. AreInPlace all (events_of t told)) front.1 (part.in_place t row));
    }

-- ---- no other thread

share-any : (events : List EventDef) (config : Config) (writes : ℕ → List Write) (entries : List Entry) (accounts : ℕ → Account) (thread : ℕ) (threads : List ℕ)
    → list_any (λ share. share.thread == thread) (shares_by events config writes entries (map (marks_by accounts) threads)) ≡ has thread threads
share-any events config writes entries accounts thread [] = refl
share-any events config writes entries accounts thread (t ∷ threads) = ap (λ b. (t == thread) || b) (share-any events config writes entries accounts thread threads)

among-named : (events : List EventDef) (config : Config) (writes : ℕ → List Write) (entries : List Entry) (accounts : ℕ → Account) (threads : List ℕ) (named : List (ℕ × ℕ))
    → list_all (λ (n : ℕ × ℕ). has n.0 threads) named ≡ true
    → list_all (λ (n : ℕ × ℕ). list_any (λ share. share.thread == n.0) (shares_by events config writes entries (map (marks_by accounts) threads))) named ≡ true
among-named events config writes entries accounts threads [] all = refl
among-named events config writes entries accounts threads (n ∷ named) all =
    let parts = and_parts (has n.0 threads) (list_all (λ (m : ℕ × ℕ). has m.0 threads) named) all in
    and_from _ _ (share-any events config writes entries accounts n.0 threads ∙ parts.0) (among-named events config writes entries accounts threads named parts.1)

all-among : (events : List EventDef) (config : Config) (writes : ℕ → List Write) (entries : List Entry) (accounts : ℕ → Account) (threads : List ℕ) (told : List Entry)
    → AllByRecursion (λ entry. speaks_of threads entry ≡ true) told
    → AllByRecursion (λ entry. is_among (shares_by events config writes entries (map (marks_by accounts) threads)) entry ≡ true) told
all-among events config writes entries accounts threads [] alone = tt
all-among events config writes entries accounts threads (Event event ∷ told) alone =
    (share-any events config writes entries accounts event.thread threads ∙ alone.0, all-among events config writes entries accounts threads told alone.1)
all-among events config writes entries accounts threads (Point point ∷ told) alone =
    (among-named events config writes entries accounts threads point.threads alone.0, all-among events config writes entries accounts threads told alone.1)

-- ---- a session that failed

pub are-part : (watch : Watch) (opened : List ℕ) (accounts : ℕ → Account) (hands : ℕ → Option HandState) (named : List Named) (marks : List Marks) (told : List Entry) → Keeps watch opened accounts hands named marks → ((row : ℕ) → hands row ≡ None)
    → TellsPart watch opened accounts told → ArePart watch.events watch.config watch.writes marks told
are-part watch opened accounts hands named marks told keeps none part =
    let events = watch.events in
    let config = watch.config in
    let writes = watch.writes in
    let all = marks-all watch opened accounts hands named marks keeps none in
    let closed = λ (t : ℕ) (is : has t opened ≡ true). is-closed watch opened accounts hands named marks told keeps none part t is in
    subst (λ ms. ArePart events config writes ms told) (sym all)
    record {
      rising = each-of _ (marks_by accounts) opened
          (λ t is. let h = closed t is in subst (λ n. AreRising 0 n (events_of t told)) (sym h.total) h.rising);
      in_place = each-of _ (marks_by accounts) opened (λ t is. (closed t is).in_place);
      alone = all-among events config writes told accounts opened told part.alone;
    }

-- ---- a session that did not fail

-- Of a thread that points name no more all was told but what was refused.
record HasTold (events : List EventDef) (config : Config) (writes : ℕ → List Write) (accounts : ℕ → Account) (told : List Entry) (t : ℕ) : Type 0 where
  complete : events_of t told ≡ kept (share_by events config writes told (marks_by accounts t))
  missing_is : gaps t told ≡ length (share_by events config writes told (marks_by accounts t)).refused
  last_is : last_sighting t told ≡ Some (Known (length (share_by events config writes told (marks_by accounts t)).admitted))
  taken : length (events_of t told) ≡ (marks_by accounts t).taken
  refused : length (refused_by events config writes told (marks_by accounts t)) ≡ (marks_by accounts t).refused

has-told : (events : List EventDef) (config : Config) (writes : ℕ → List Write) (accounts : ℕ → Account) (told : List Entry) (t : ℕ) → (accounts t).is_named ≡ false → IsClosed events config writes accounts told t → TellsAll t (accounts t) told → HasTold events config writes accounts told t
has-told events config writes accounts told t off h all =
    let admitted = admitted_by events config writes (marks_by accounts t) in
    let rising : AreRising 0 (length admitted) (events_of t told) = subst (λ n. AreRising 0 n (events_of t told)) (sym h.long) h.rising in
    let count = unseen-count (length admitted) (events_of t told) rising in
    let named = all.named off in
    let steady : missing 0 (sightings t told) ≡ all.missed + 0 = ap (missing 0) (sym (append-nil (sightings t told))) ∙ all.steady [] in
    record {
      complete = sym (unseen-kept admitted (events_of t told) (contents-from events config (accounts t).from (take (accounts t).to (writes t))) rising h.in_place);
      missing_is = omega (arith, steady, count, all.all, all.taken, named.0, h.long);
      last_is = named.1 ∙ ap (λ n. Some (Known n)) (sym h.long);
      taken = all.taken;
      refused = omega (arith, count, all.taken, h.long, h.total);
    }

pub are-traced : (watch : Watch) (opened : List ℕ) (accounts : ℕ → Account) (hands : ℕ → Option HandState) (named : List Named) (marks : List Marks) (front : List Entry) (point : PointEntry) → ((t : ℕ) → length (watch.writes t) ≤ WRITES)
    → Keeps watch opened accounts hands named marks → ((row : ℕ) → hands row ≡ None) → ((t : ℕ) → IsOneOf opened t → (accounts t).is_named ≡ false)
    → TellsPart watch opened accounts (front ++ Point point ∷ [])
    → ((t : ℕ) → IsOneOf opened t → (accounts t).last < 2 ^ 32 → TellsAll t (accounts t) (front ++ Point point ∷ []))
    → AreTraced watch.events watch.config watch.writes marks (front ++ Point point ∷ [])
are-traced watch opened accounts hands named marks front point few keeps none off part all =
    let events = watch.events in
    let config = watch.config in
    let writes = watch.writes in
    let told = front ++ Point point ∷ [] in
    let marks_are = marks-all watch opened accounts hands named marks keeps none in
    let has_told = λ (t : ℕ) (is : has t opened ≡ true).
    let closed = is-closed watch opened accounts hands named marks told keeps none part t is in
    has-told events config writes accounts told t (off t is) closed (all t is (omega (arith, closed.up_to, few t))) in
    let shares = map-mapped (share_by events config writes told) (marks_by accounts) opened in
    let share : ℕ → Share = λ t. share_by events config writes told (marks_by accounts t) in
    subst (λ ms. AreTraced events config writes ms told) (sym marks_are)
    record {
      faithful = record {
        complete = subst (AllByRecursion _) (sym shares) (each-of _ share opened (λ t is. (has_told t is).complete));
        alone = all-among events config writes told accounts opened told part.alone;
        missing = subst (AllByRecursion _) (sym shares) (each-of _ share opened (λ t is. (has_told t is).missing_is));
        told = subst (AllByRecursion _) (sym shares) (each-of _ share opened (λ t is. (has_told t is).last_is));
        front = front;
        last = point;
        ended = refl;
      };
      taken = each-of _ (marks_by accounts) opened (λ t is. (has_told t is).taken);
      refused = each-of _ (marks_by accounts) opened (λ t is. (has_told t is).refused);
    }
