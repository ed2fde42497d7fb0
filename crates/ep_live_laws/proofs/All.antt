-- All that was taken of a thread was told: what the entries see of it, and how many numbers they miss up to there.
use Rattle.std.proofs.Common.{◌≡◌, ℕ, ◌+◌, ◌-◌, ◌^◌, ◌<◌, ◌≤◌, true, List, [], ◌∷◌, ◌++◌, length, map, Option, Some, None, ap, sym, ◌∙◌, arith, zero-add}
use Rattle.std.specs.List.{last_or}
use Rattle.std.proofs.lemmas.Bool.{eq-eqb}
use Rattle.std.proofs.lemmas.List.{append-nil, append_assoc, length-append, length-map}
use Rattle.ep_defs.specs.Entry.{EventEntry, PointEntry, Entry, Event, Point}
use Rattle.ep_defs.specs.Gaps.{Sighting, Known, distance, sightings, missing}
use Rattle.ep_model.specs.Faithful.{Contents, contents_of, events_of}
use Rattle.ep_model.proofs.Numbers.{AreOwn, distance-on, last-append}
use Rattle.ep_model.proofs.Tally.{events_of-own}
use Rattle.ep_live_laws.specs.Traced.{AreRising}
use Rattle.ep_live_laws.specs.Tracing.{Account, TellsAll}
use Rattle.ep_live_laws.proofs.Batches.{AreToldOf}
use Rattle.ep_live_laws.proofs.Part.{events-append, sightings-append}
use Rattle.ep_live_laws.proofs.Shares.{rising-up}

-- ---- what is seen of a batch

-- What is seen of a thread's own events, behind a number that was seen.
record Sees (thread first last count : ℕ) (events : List EventEntry) : Type 0 where
  seen : ℕ
  missed : ℕ
  within : seen ≤ last
  all : first + count + missed ≡ seen
  steady : (later : List Sighting) → missing first (sightings thread (map Event events) ++ later) ≡ missed + missing seen later

sees : (thread first below last : ℕ) (events : List EventEntry) → first ≤ below → AreRising below last (map contents_of events) → AreOwn thread events → last < 2 ^ 32 → Sees thread first last (length events) events
sees thread first below last [] under rising own few =
    record { seen = first; missed = 0; within = omega (arith, under, rising); all = omega arith; steady = λ later. sym (zero-add (missing first later)) }
sees thread first below last (event ∷ events) under rising own few =
    let number = event.number in
    let over : below < number = rising.0 in
    let up : number ≤ last = rising-up number last (map contents_of events) rising.1 in
    let h = sees thread number number last events (omega arith) rising.1 own.1 few in
    let skip = number - (first + 1) in
    let on : number ≡ first + 1 + skip = omega arith in
    record {
      seen = h.seen;
      missed = skip + h.missed;
      within = h.within;
      all = omega (arith, h.all, on);
      steady = λ later.
          rw (eq-eqb event.thread thread own.0)
          (ap (λ n. distance (first + 1) n + missing event.number (sightings thread (map Event events) ++ later)) on
          ∙ ap (λ n. n + missing event.number (sightings thread (map Event events) ++ later)) (distance-on (first + 1) skip (omega (arith, on, up, few)))
          ∙ ap (λ n. skip + n) (h.steady later)
          ∙ omega arith);
    }

-- ---- each call

-- Nothing was taken of a thread on which the session was just opened.
pub all-fresh : (thread : ℕ) (account : Account) (told : List Entry) → account.taken ≡ 0 → account.is_named ≡ true → events_of thread told ≡ [] → sightings thread told ≡ [] → TellsAll thread account told
all-fresh thread account told none named nothing unseen =
    record {
      taken = ap length nothing ∙ sym none;
      seen = 0;
      missed = 0;
      within = omega arith;
      all = omega (arith, none);
      steady = λ later. rw unseen (sym (zero-add (missing 0 later)));
      named = λ off. cc;
    }

-- The same of an account that has the same numbers.
pub all-same : (thread : ℕ) (old new : Account) (told : List Entry) → new.taken ≡ old.taken → new.last ≡ old.last → new.is_named ≡ old.is_named → TellsAll thread old told → TellsAll thread new told
all-same thread old new told taken last named h =
    record {
      taken = h.taken ∙ sym taken;
      seen = h.seen;
      missed = h.missed;
      within = omega (arith, h.within, last);
      all = omega (arith, h.all, taken);
      steady = h.steady;
      named = λ off. let is = h.named (sym named ∙ off) in (is.0 ∙ sym last, is.1 ∙ ap (λ n. Some (Known n)) (sym last));
    }

-- A batch of the thread's own events.
pub all-taken : (thread count last : ℕ) (old new : Account) (told : List Entry) (all : List Contents) (more : List EventEntry) → AreToldOf thread old.last last all count more → last < 2 ^ 32
    → new.taken ≡ old.taken + count → new.last ≡ last → new.is_named ≡ true → TellsAll thread old told → TellsAll thread new (told ++ map Event more)
all-taken thread count last old new told all more batch few taken last_is named h =
    let s = sees thread h.seen old.last last more h.within batch.rising batch.own few in
    record {
      taken = ap length (events-append thread told (map Event more) ∙ ap (λ es. events_of thread told ++ es) (events_of-own thread more batch.own))
          ∙ length-append (events_of thread told) (map contents_of more)
          ∙ omega (arith, length-map more contents_of, batch.counted, h.taken, taken);
      seen = s.seen;
      missed = h.missed + s.missed;
      within = omega (arith, s.within, last_is);
      all = omega (arith, s.all, h.all, taken, batch.counted);
      steady = λ later.
          rw (sightings-append thread told (map Event more), append_assoc (sightings thread told) (sightings thread (map Event more)) later)
          (h.steady (sightings thread (map Event more) ++ later) ∙ ap (λ n. h.missed + n) (s.steady later) ∙ omega arith);
      named = λ off. cc;
    }

-- Entries that say nothing of the thread.
pub all-other : (thread : ℕ) (account : Account) (told more : List Entry) → events_of thread more ≡ [] → sightings thread more ≡ [] → TellsAll thread account told → TellsAll thread account (told ++ more)
all-other thread account told more nothing unseen h =
    let same : sightings thread (told ++ more) ≡ sightings thread told = sightings-append thread told more ∙ ap (λ ss. sightings thread told ++ ss) unseen ∙ append-nil (sightings thread told) in
    record {
      taken = ap length (events-append thread told more ∙ ap (λ es. events_of thread told ++ es) nothing ∙ append-nil (events_of thread told)) ∙ h.taken;
      seen = h.seen;
      missed = h.missed;
      within = h.within;
      all = h.all;
      steady = λ later. ap (λ ss. missing 0 (ss ++ later)) same ∙ h.steady later;
      named = λ off. let is = h.named off in (is.0, ap (λ ss. last_or None ss) same ∙ is.1);
    }

-- A point that names the thread, with its last number.
pub all-pointed : (thread : ℕ) (old new : Account) (told : List Entry) (point : PointEntry)
    → ((seen skipped : ℕ) (later : List Sighting) → seen + skipped ≡ old.last → missing seen (sightings thread (Point point ∷ []) ++ later) ≡ skipped + missing old.last later)
    → ((before : Option Sighting) → last_or before (sightings thread (Point point ∷ [])) ≡ Some (Known old.last))
    → new.taken ≡ old.taken → new.last ≡ old.last → TellsAll thread old told → TellsAll thread new (told ++ Point point ∷ [])
all-pointed thread old new told point steady named taken last h =
    let seen = sightings thread (Point point ∷ []) in
    let skipped = old.last - h.seen in
    let on : h.seen + skipped ≡ old.last = omega (arith, h.within) in
    record {
      taken = ap length (events-append thread told (Point point ∷ []) ∙ append-nil (events_of thread told)) ∙ h.taken ∙ sym taken;
      seen = old.last;
      missed = h.missed + skipped;
      within = omega (arith, last);
      all = omega (arith, h.all, on, taken);
      steady = λ later.
          rw (sightings-append thread told (Point point ∷ []), append_assoc (sightings thread told) seen later)
          (h.steady (seen ++ later) ∙ ap (λ n. h.missed + n) (steady h.seen skipped later on) ∙ omega arith);
      named = λ off. (
        sym last,
        ap (λ ss. last_or None ss) (sightings-append thread told (Point point ∷ [])) ∙ last-append None (sightings thread told) seen ∙ named (last_or None (sightings thread told)) ∙ ap (λ n. Some (Known n)) (sym last),
      );
    }
