-- What a session's entries tell of one thread, and what they still have to tell.
use Rattle.std.proofs.Common.{◌≡◌, ℕ, ◌+◌, ◌^◌, ◌<◌, ◌≤◌, Bool, true, false, cond, List, [], ◌∷◌, ◌++◌, length, map, filter, Option, Some, None, eqb, refl, ap, sym, ◌∙◌, arith, zero-add}
use Rattle.std.specs.Prelude.{not, ◌&&◌, ◌||◌}
use Rattle.std.specs.Option.{is_none}
use Rattle.std.specs.List.{list_any, last_or, AllByRecursion}
use Rattle.std.proofs.lemmas.Bool.{eq-eqb, ne_eqb, or_right}
use Rattle.std.proofs.lemmas.List.{length_push, append-nil, append_assoc, map-append}
use Rattle.std.proofs.lemmas.List.Elements.{filter-append}
use Rattle.std.proofs.lemmas.Grind.{flat_map-append}
use Rattle.ep_defs.specs.declared.event.EventDef.{EventDef}
use Rattle.ep_defs.specs.declared.session.Write.{Write}
use Rattle.ep_defs.specs.Entry.{EventEntry, PointEntry, Entry, Event, Point}
use Rattle.ep_defs.specs.Gaps.{Sighting, Known, sightings_in, sightings, missing}
use Rattle.ep_model.specs.declared.step.Step.TheVariants as step
use Rattle.ep_model.specs.Chunks.{is_refused}
use Rattle.ep_model.specs.History.{Past, Begun, event_at, last_begun, shows}
use Rattle.ep_model.specs.Entries.{has_stacks, event_entry, entry_if, entry_shown, pending}
use Rattle.ep_model.specs.Faithful.{Contents, contents_of, events_in, events_of, is_kept, last_sighting, numbered}
use Rattle.ep_model.proofs.Admitted.{numbered-append}
use Rattle.ep_model.proofs.Lists.{each-append}
use Rattle.ep_model.proofs.Numbers.{Runs, runs-push, runs-skip, runs-earlier, AreOwn, runs-sees, last-append}

-- ---- the thread's own events

own-entry : (stacks : Bool) (thread number : ℕ) (begun : Begun) (def : Option EventDef) → AreOwn thread (entry_if stacks thread number begun def)
own-entry stacks thread number begun None = tt
own-entry stacks thread number begun (Some def) = (refl, tt)

own-entries : (events : List EventDef) (stacks : Bool) (thread number : ℕ) (last : Option Begun) → AreOwn thread (entry_shown events stacks thread number last)
own-entries events stacks thread number None = tt
own-entries events stacks thread number (Some begun) = own-entry stacks thread number begun (event_at events begun.write.event)

-- What waits for a Steal from a thread is the thread's own.
pub pending-own : (events : List EventDef) (session thread : ℕ) (past : Past) → AreOwn thread (pending events session thread past)
pending-own events session thread [] = tt
pending-own events session thread (step.Show t s ∷ past) =
    let before = pending-own events session thread past in
    let shown = entry_shown events (has_stacks session past) thread (shows session thread past + 1) (last_begun thread past) in
    elim (eqb s session && eqb t thread && not (is_refused session thread past)) as (λ b. AreOwn thread (cond b (pending events session thread past ++ shown) (pending events session thread past))) [
      | true ↦ each-append (λ event. event.thread ≡ thread) (pending events session thread past) _ before (own-entries events (has_stacks session past) thread (shows session thread past + 1) (last_begun thread past))
      | false ↦ before
    ]
pending-own events session thread (step.Steal s t ∷ past) =
    let before = pending-own events session thread past in
    elim (eqb s session && eqb t thread) as (λ b. AreOwn thread (cond b [] (pending events session thread past))) [ true ↦ tt | false ↦ before ]
pending-own events session thread (step.Close s t ∷ past) =
    let before = pending-own events session thread past in
    elim (eqb s session && eqb t thread) as (λ b. AreOwn thread (cond b [] (pending events session thread past))) [ true ↦ tt | false ↦ before ]
pending-own events session thread (_ ∷ past) = pending-own events session thread past

-- The entries of a thread's own events tell their contents.
pub events_of-own : (thread : ℕ) (events : List EventEntry) → AreOwn thread events → events_of thread (map Event events) ≡ map contents_of events
events_of-own thread [] own = refl
events_of-own thread (event ∷ events) own = rw (eq-eqb event.thread thread own.0, events_of-own thread events own.1) refl

-- Those of another thread tell nothing of this one.
pub events_of-other : (thread other : ℕ) (events : List EventEntry) → eqb other thread ≡ false → AreOwn other events → events_of thread (map Event events) ≡ []
events_of-other thread other [] differ own = refl
events_of-other thread other (event ∷ events) differ own = rw (own.0, differ) (events_of-other thread other events differ own.1)

pub sightings-other : (thread other : ℕ) (events : List EventEntry) → eqb other thread ≡ false → AreOwn other events → sightings thread (map Event events) ≡ []
sightings-other thread other [] differ own = refl
sightings-other thread other (event ∷ events) differ own = rw (own.0, differ) (sightings-other thread other events differ own.1)

-- ---- refused numbers

abbrev AreUpTo : ℕ → List ℕ → Type 0
AreUpTo most numbers = AllByRecursion (λ n. n ≤ most) numbers

abbrev AreNumberedUpTo : ℕ → List Contents → Type 0
AreNumberedUpTo most contents = AllByRecursion (λ c. c.number ≤ most) contents

up_to-more : (most : ℕ) (numbers : List ℕ) → AreUpTo most numbers → AreUpTo (1 + most) numbers
up_to-more most [] h = tt
up_to-more most (n ∷ numbers) h = (let first = h.0 in omega arith, up_to-more most numbers h.1)

up_to-push : (most : ℕ) (numbers : List ℕ) → AreUpTo most numbers → AreUpTo (1 + most) (numbers ++ (most + 1) ∷ [])
up_to-push most [] h = (omega arith, tt)
up_to-push most (n ∷ numbers) h = (let first = h.0 in omega arith, up_to-push most numbers h.1)

numbered-push : (most : ℕ) (contents : List Contents) (next : Contents) → next.number ≡ most + 1 → AreNumberedUpTo most contents → AreNumberedUpTo (1 + most) (contents ++ next ∷ [])
numbered-push most [] next e h = (omega (arith, e), tt)
numbered-push most (c ∷ contents) next e h = (let first = h.0 in omega arith, numbered-push most contents next e h.1)

-- What has a number above the refused ones is kept.
kept-above : (most n : ℕ) (refused : List ℕ) → n ≡ most + 1 → AreUpTo most refused → list_any (λ m. eqb m n) refused ≡ false
kept-above most n [] e h = refl
kept-above most n (m ∷ refused) e h =
    let first = h.0 in
    rw (ne_eqb m n (λ same. omega (arith, e, same, first))) (kept-above most n refused e h.1)

refused-now : (n : ℕ) (refused : List ℕ) → list_any (λ m. eqb m n) (refused ++ n ∷ []) ≡ true
refused-now n [] = rw (eq-eqb n n refl) refl
refused-now n (m ∷ refused) = or_right (eqb m n) _ (refused-now n refused)

-- A number above all of these refuses none of them.
kept-still : (next n : ℕ) (refused : List ℕ) → eqb next n ≡ false → list_any (λ m. eqb m n) (refused ++ next ∷ []) ≡ list_any (λ m. eqb m n) refused
kept-still next n [] e = rw e refl
kept-still next n (m ∷ refused) e = ap (λ b. eqb m n || b) (kept-still next n refused e)

filter-still : (most : ℕ) (refused : List ℕ) (contents : List Contents) → AreNumberedUpTo most contents → filter (is_kept (refused ++ (most + 1) ∷ [])) contents ≡ filter (is_kept refused) contents
filter-still most refused [] h = refl
filter-still most refused (c ∷ contents) h =
    let first = h.0 in
    rw (kept-still (most + 1) c.number refused (ne_eqb (most + 1) c.number (λ e. omega (arith, e, first))), filter-still most refused contents h.1) refl

-- ---- the tally

-- The contents of a write that is still to be shown.
abbrev pub due_contents : List EventDef → Bool → ℕ → Bool → ℕ → Option Begun → List Contents
due_contents events stacks thread due shown last = cond due (map contents_of (entry_shown events stacks thread (shown + 1) last)) []

-- Of what is admitted each write was told, waits for a Steal, was refused, or is due; and what is missing among the numbers was refused.
pub record Tally (events : List EventDef) (stacks : Bool) (thread : ℕ) (wanted : List Write) (refused : List ℕ) (was_opened stands_open awaits due inside : Bool) (last : Option Begun) (shown told : ℕ) (waiting : List EventEntry) (lines : List Entry) : Type 0 where
  -- nothing is due outside of a write
  pub idle : inside ≡ false → due ≡ false
  -- nothing is due, and nothing waits, where the session is not open
  pub shut : stands_open ≡ false → (due ≡ false) × (waiting ≡ []) × (told ≡ shown)
  -- what is due has an entry with the next number
  pub ready : due ≡ true → (event : EventEntry) × (entry_shown events stacks thread (shown + 1) last ≡ event ∷ []) × (event.number ≡ shown + 1)
  -- what was shown of the admitted writes
  pub before : List Contents
  pub whole : numbered events stacks 1 wanted ≡ before ++ due_contents events stacks thread due shown last
  pub below : AreNumberedUpTo shown before
  pub refused_below : AreUpTo shown refused
  pub counted : shown + (cond due 1 0) ≡ length wanted
  -- it was told or waits, unless it was refused
  pub tells : filter (is_kept refused) before ≡ events_of thread lines ++ map contents_of waiting
  -- the last number that the lines know of, how many they miss up to it, how many up to what was told, and how many later
  pub seen : ℕ
  pub missed : ℕ
  pub skipped : ℕ
  pub left : ℕ
  pub told_is : seen + skipped ≡ told
  pub runs : Runs told waiting shown left
  pub missing_are : length refused ≡ missed + (skipped + left)
  pub steady : (later : List Sighting) → missing 0 (sightings thread lines ++ later) ≡ missed + missing seen later
  -- a thread that points name no more was named last with its last number
  pub named : was_opened ≡ true → stands_open ≡ false → awaits ≡ false → (seen ≡ told) × (last_sighting thread lines ≡ Some (Known told))

-- Nothing was admitted on a thread where the session was never opened.
pub empty_tally : (events : List EventDef) (thread : ℕ) → Tally events false thread [] [] false false false false false None 0 0 [] []
empty_tally events thread =
    record {
      idle = λ e. refl;
      shut = λ e. (refl, refl, refl);
      ready = λ e. cc;
      before = [];
      whole = refl;
      below = tt;
      refused_below = tt;
      counted = refl;
      tells = refl;
      seen = 0;
      missed = 0;
      skipped = 0;
      left = 0;
      told_is = refl;
      runs = refl;
      missing_are = refl;
      steady = λ later. sym (zero-add (missing 0 later));
      named = λ was. cc;
    }

-- What was told and what waits stay, where only the session's or the write's state is another.
still_tally : (events : List EventDef) (stacks : Bool) (thread : ℕ) (wanted : List Write) (refused : List ℕ) (was_opened stands_open awaits due inside : Bool) (last : Option Begun) (shown told : ℕ) (waiting : List EventEntry) (lines : List Entry) (h : Tally events stacks thread wanted refused was_opened stands_open awaits due inside last shown told waiting lines) (stacks_now : Bool) (wanted_now : List Write) (opened_now open_now due_now inside_now : Bool) (last_now : Option Begun) → (inside_now ≡ false → due_now ≡ false) → (open_now ≡ false → (due_now ≡ false) × (waiting ≡ []) × (told ≡ shown)) → (due_now ≡ true → (event : EventEntry) × (entry_shown events stacks_now thread (shown + 1) last_now ≡ event ∷ []) × (event.number ≡ shown + 1)) → numbered events stacks_now 1 wanted_now ≡ h.before ++ due_contents events stacks_now thread due_now shown last_now → shown + (cond due_now 1 0) ≡ length wanted_now → (opened_now ≡ true → open_now ≡ false → awaits ≡ false → (h.seen ≡ told) × (last_sighting thread lines ≡ Some (Known told))) → Tally events stacks_now thread wanted_now refused opened_now open_now awaits due_now inside_now last_now shown told waiting lines
still_tally events stacks thread wanted refused was_opened stands_open awaits due inside last shown told waiting lines h stacks_now wanted_now opened_now open_now due_now inside_now last_now idle shut ready whole counted named =
    record {
      idle = idle;
      shut = shut;
      ready = ready;
      before = h.before;
      whole = whole;
      below = h.below;
      refused_below = h.refused_below;
      counted = counted;
      tells = h.tells;
      seen = h.seen;
      missed = h.missed;
      skipped = h.skipped;
      left = h.left;
      told_is = h.told_is;
      runs = h.runs;
      missing_are = h.missing_are;
      steady = h.steady;
      named = named;
    }

-- What was shown stays, where other lines tell of it.
lines_tally : (events : List EventDef) (stacks : Bool) (thread : ℕ) (wanted : List Write) (refused : List ℕ) (was_opened stands_open awaits due inside : Bool) (last : Option Begun) (shown told : ℕ) (waiting : List EventEntry) (lines : List Entry) (h : Tally events stacks thread wanted refused was_opened stands_open awaits due inside last shown told waiting lines) (open_now awaits_now : Bool) (told_now : ℕ) (waiting_now : List EventEntry) (lines_now : List Entry) (seen missed skipped left : ℕ) → (open_now ≡ false → (due ≡ false) × (waiting_now ≡ []) × (told_now ≡ shown)) → filter (is_kept refused) h.before ≡ events_of thread lines_now ++ map contents_of waiting_now → seen + skipped ≡ told_now → Runs told_now waiting_now shown left → length refused ≡ missed + (skipped + left) → ((later : List Sighting) → missing 0 (sightings thread lines_now ++ later) ≡ missed + missing seen later) → (was_opened ≡ true → open_now ≡ false → awaits_now ≡ false → (seen ≡ told_now) × (last_sighting thread lines_now ≡ Some (Known told_now))) → Tally events stacks thread wanted refused was_opened open_now awaits_now due inside last shown told_now waiting_now lines_now
lines_tally events stacks thread wanted refused was_opened stands_open awaits due inside last shown told waiting lines h open_now awaits_now told_now waiting_now lines_now seen missed skipped left shut tells told_is runs missing_are steady named =
    record {
      idle = h.idle;
      shut = shut;
      ready = h.ready;
      before = h.before;
      whole = h.whole;
      below = h.below;
      refused_below = h.refused_below;
      counted = h.counted;
      tells = tells;
      seen = seen;
      missed = missed;
      skipped = skipped;
      left = left;
      told_is = told_is;
      runs = runs;
      missing_are = missing_are;
      steady = steady;
      named = named;
    }

-- A write that is due is shown, and is due no more: it waits, or is refused.
shown_tally : (events : List EventDef) (stacks : Bool) (thread : ℕ) (wanted : List Write) (refused : List ℕ) (was_opened stands_open awaits due inside : Bool) (last : Option Begun) (shown told : ℕ) (waiting : List EventEntry) (lines : List Entry) (h : Tally events stacks thread wanted refused was_opened stands_open awaits due inside last shown told waiting lines) (is_due : due ≡ true) (refused_now : List ℕ) (waiting_now : List EventEntry) (left : ℕ) → AreUpTo (1 + shown) refused_now → filter (is_kept refused_now) (h.before ++ contents_of (h.ready is_due).0 ∷ []) ≡ events_of thread lines ++ map contents_of waiting_now → Runs told waiting_now (1 + shown) left → length refused_now ≡ h.missed + (h.skipped + left) → Tally events stacks thread wanted refused_now was_opened stands_open awaits false inside last (1 + shown) told waiting_now lines
shown_tally events stacks thread wanted refused was_opened stands_open awaits due inside last shown told waiting lines h is_due refused_now waiting_now left refused_below tells runs missing_are =
    let entry = h.ready is_due in
    let contents = contents_of entry.0 in
    let all : numbered events stacks 1 wanted ≡ h.before ++ contents ∷ [] = rw (is_due, entry.1) at h.whole in
    let count : shown + 1 ≡ length wanted = rw is_due at h.counted in
    let opens : stands_open ≡ false → ⊥ = λ e. let none = (h.shut e).0 in cc in
    record {
      idle = λ e. refl;
      shut = λ e. absurd (opens e);
      ready = λ e. cc;
      before = h.before ++ contents ∷ [];
      whole = all ∙ sym (append-nil (h.before ++ contents ∷ []));
      below = numbered-push shown h.before contents entry.2 h.below;
      refused_below = refused_below;
      counted = omega arith;
      tells = tells;
      seen = h.seen;
      missed = h.missed;
      skipped = h.skipped;
      left = left;
      told_is = h.told_is;
      runs = runs;
      missing_are = missing_are;
      steady = h.steady;
      named = λ was shut. absurd (opens shut);
    }

-- A session that is not opened yet may be accepted with stacks or without.
pub stacks_tally : (events : List EventDef) (stacks other : Bool) (thread : ℕ) (refused : List ℕ) (was_opened awaits due inside : Bool) (last : Option Begun) (shown told : ℕ) (waiting : List EventEntry) (lines : List Entry) → Tally events stacks thread [] refused was_opened false awaits due inside last shown told waiting lines → Tally events other thread [] refused was_opened false awaits due inside last shown told waiting lines
stacks_tally events stacks other thread refused was_opened awaits due inside last shown told waiting lines h =
    let none = (h.shut refl).0 in
    let nothing : [] ≡ h.before ++ [] = rw none at h.whole in
    still_tally events stacks thread [] refused was_opened false awaits due inside last shown told waiting lines h other [] was_opened false due inside last h.idle h.shut (λ e. cc) (rw none nothing) h.counted h.named

-- The session is opened where it was not.
pub open_tally : (events : List EventDef) (stacks : Bool) (thread : ℕ) (wanted : List Write) (refused : List ℕ) (was_opened awaits due inside : Bool) (last : Option Begun) (shown told : ℕ) (waiting : List EventEntry) (lines : List Entry) → Tally events stacks thread wanted refused was_opened false awaits due inside last shown told waiting lines → Tally events stacks thread wanted refused true true awaits due inside last shown told waiting lines
open_tally events stacks thread wanted refused was_opened awaits due inside last shown told waiting lines h =
    still_tally events stacks thread wanted refused was_opened false awaits due inside last shown told waiting lines h stacks wanted true true due inside last h.idle (λ e. cc) h.ready h.whole h.counted (λ was shut. cc)

-- A definition that is not missing is there.
pub is_there : {A : Type 0} (o : Option A) → is_none o ≡ false → (x : A) × (o ≡ Some x)
is_there None h = cc
is_there (Some x) h = (x, refl)

-- A write begins, which is due from then on or not.
pub begin_tally : (events : List EventDef) (stacks : Bool) (thread : ℕ) (wanted : List Write) (refused : List ℕ) (was_opened stands_open awaits due now_due inside : Bool) (last : Option Begun) (begun : Begun) (shown told : ℕ) (waiting : List EventEntry) (lines : List Entry) → inside ≡ false → is_none (event_at events begun.write.event) ≡ false → (now_due ≡ true → stands_open ≡ true) → Tally events stacks thread wanted refused was_opened stands_open awaits due inside last shown told waiting lines → Tally events stacks thread (wanted ++ cond now_due (begun.write ∷ []) []) refused was_opened stands_open awaits now_due true (Some begun) shown told waiting lines
begin_tally events stacks thread wanted refused was_opened stands_open awaits due false inside last begun shown told waiting lines outside defined opens h =
    let none = h.idle outside in
    let all = append-nil wanted in
    still_tally events stacks thread wanted refused was_opened stands_open awaits due inside last shown told waiting lines h stacks (wanted ++ []) was_opened stands_open false true (Some begun)
    (λ e. refl) (λ e. (refl, (h.shut e).1, (h.shut e).2)) (λ e. cc) (rw all (rw none at h.whole)) (rw all (rw none at h.counted)) h.named
begin_tally events stacks thread wanted refused was_opened stands_open awaits due true inside last begun shown told waiting lines outside defined opens h =
    let none = h.idle outside in
    let def = is_there (event_at events begun.write.event) defined in
    let count : shown + 0 ≡ length wanted = rw none at h.counted in
    let number : 1 + length wanted ≡ shown + 1 = omega arith in
    let whole_before : numbered events stacks 1 wanted ≡ h.before = rw (none, append-nil h.before) at h.whole in
    still_tally events stacks thread wanted refused was_opened stands_open awaits due inside last shown told waiting lines h stacks (wanted ++ begun.write ∷ []) was_opened stands_open true true (Some begun)
    (λ e. cc) (λ e. let is_open = opens refl in cc) (λ e. (event_entry stacks thread (shown + 1) begun def.0, ap (λ o. entry_if stacks thread (shown + 1) begun o) def.1, refl))
    (rw (numbered-append events stacks 1 wanted (begun.write ∷ []), number, whole_before, def.1) refl) (omega (arith, length_push wanted begun.write)) h.named

-- A write that is due is shown and written, and waits from then on.
pub write_tally : (events : List EventDef) (stacks : Bool) (thread : ℕ) (wanted : List Write) (refused : List ℕ) (was_opened stands_open awaits due inside : Bool) (last : Option Begun) (shown told : ℕ) (waiting : List EventEntry) (lines : List Entry) → due ≡ true → Tally events stacks thread wanted refused was_opened stands_open awaits due inside last shown told waiting lines → Tally events stacks thread wanted refused was_opened stands_open awaits false inside last (1 + shown) told (waiting ++ entry_shown events stacks thread (shown + 1) last) lines
write_tally events stacks thread wanted refused was_opened stands_open awaits due inside last shown told waiting lines is_due h =
    let entry = h.ready is_due in
    let contents = contents_of entry.0 in
    let kept = kept-above shown contents.number refused entry.2 h.refused_below in
    rw entry.1
    (shown_tally events stacks thread wanted refused was_opened stands_open awaits due inside last shown told waiting lines h is_due refused (waiting ++ entry.0 ∷ []) h.left (up_to-more shown refused h.refused_below)
    (rw (filter-append (is_kept refused) h.before (contents ∷ []), h.tells, kept, map-append contents_of waiting (entry.0 ∷ []), append_assoc (events_of thread lines) (map contents_of waiting) (contents ∷ [])) refl)
    (runs-push told shown h.left waiting entry.0 h.runs entry.2) h.missing_are)

-- A write that is due is shown and refused, and uses its number.
pub refuse_tally : (events : List EventDef) (stacks : Bool) (thread : ℕ) (wanted : List Write) (refused : List ℕ) (was_opened stands_open awaits due inside : Bool) (last : Option Begun) (shown told : ℕ) (waiting : List EventEntry) (lines : List Entry) → due ≡ true → Tally events stacks thread wanted refused was_opened stands_open awaits due inside last shown told waiting lines → Tally events stacks thread wanted (refused ++ (shown + 1) ∷ []) was_opened stands_open awaits false inside last (1 + shown) told waiting lines
refuse_tally events stacks thread wanted refused was_opened stands_open awaits due inside last shown told waiting lines is_due h =
    let entry = h.ready is_due in
    let contents = contents_of entry.0 in
    let out : list_any (λ m. eqb m entry.0.number) (refused ++ (shown + 1) ∷ []) ≡ true = rw entry.2 (refused-now (shown + 1) refused) in
    shown_tally events stacks thread wanted refused was_opened stands_open awaits due inside last shown told waiting lines h is_due (refused ++ (shown + 1) ∷ []) waiting (h.left + 1) (up_to-push shown refused h.refused_below)
    (rw (filter-append (is_kept (refused ++ (shown + 1) ∷ [])) h.before (contents ∷ []), out, filter-still shown refused h.before h.below, append-nil) h.tells)
    (runs-skip told shown h.left waiting h.runs) (omega (arith, length_push refused (shown + 1), h.missing_are))

-- A write ends in which nothing is due.
pub end_tally : (events : List EventDef) (stacks : Bool) (thread : ℕ) (wanted : List Write) (refused : List ℕ) (was_opened stands_open awaits due inside : Bool) (last : Option Begun) (shown told : ℕ) (waiting : List EventEntry) (lines : List Entry) → due ≡ false → Tally events stacks thread wanted refused was_opened stands_open awaits due inside last shown told waiting lines → Tally events stacks thread wanted refused was_opened stands_open awaits due false last shown told waiting lines
end_tally events stacks thread wanted refused was_opened stands_open awaits due inside last shown told waiting lines none h =
    still_tally events stacks thread wanted refused was_opened stands_open awaits due inside last shown told waiting lines h stacks wanted was_opened stands_open due false last (λ e. none) h.shut h.ready h.whole h.counted h.named

-- What waits is taken, where the session is open; afterwards it may be closed where nothing is due.
pub take_tally : (events : List EventDef) (stacks : Bool) (thread : ℕ) (wanted : List Write) (refused : List ℕ) (was_opened stays awaits due inside : Bool) (last : Option Begun) (shown told : ℕ) (waiting : List EventEntry) (lines : List Entry) → AreOwn thread waiting → shown < 2 ^ 32 → (stays ≡ false → due ≡ false) → (stays ≡ false → awaits ≡ true) → (before_awaits stands_open : Bool) → Tally events stacks thread wanted refused was_opened stands_open before_awaits due inside last shown told waiting lines → Tally events stacks thread wanted refused was_opened stays awaits due inside last shown shown [] (lines ++ map Event waiting)
take_tally events stacks thread wanted refused was_opened stays awaits due inside last shown told waiting lines own few idle still before_awaits stands_open h =
    let sees = runs-sees thread h.seen shown (h.skipped + h.left) waiting (runs-earlier h.seen h.skipped told shown h.left waiting h.told_is h.runs) own few in
    lines_tally events stacks thread wanted refused was_opened stands_open before_awaits due inside last shown told waiting lines h stays awaits shown [] (lines ++ map Event waiting) sees.seen (h.missed + sees.done) sees.rest 0
    (λ e. (idle e, refl, refl))
    (rw (h.tells, flat_map-append (events_in thread) lines (map Event waiting), events_of-own thread waiting own, append-nil (events_of thread lines ++ map contents_of waiting)) refl)
    sees.up (omega arith) (omega (arith, h.missing_are, sees.all))
    (λ later.
    rw (flat_map-append (sightings_in thread) lines (map Event waiting), append_assoc (sightings thread lines) (sightings thread (map Event waiting)) later)
    (h.steady (sightings thread (map Event waiting) ++ later) ∙ ap (λ n. h.missed + n) (sees.steady later) ∙ omega arith))
    (λ was shut told_all. let still_awaits = still shut in cc)

-- More lines, which tell nothing of the thread.
pub more_tally : (events : List EventDef) (stacks : Bool) (thread : ℕ) (wanted : List Write) (refused : List ℕ) (was_opened stands_open awaits due inside : Bool) (last : Option Begun) (shown told : ℕ) (waiting : List EventEntry) (lines more : List Entry) → events_of thread more ≡ [] → sightings thread more ≡ [] → Tally events stacks thread wanted refused was_opened stands_open awaits due inside last shown told waiting lines → Tally events stacks thread wanted refused was_opened stands_open awaits due inside last shown told waiting (lines ++ more)
more_tally events stacks thread wanted refused was_opened stands_open awaits due inside last shown told waiting lines more nothing unseen h =
    let same : sightings thread (lines ++ more) ≡ sightings thread lines = flat_map-append (sightings_in thread) lines more ∙ rw unseen (append-nil (sightings thread lines)) in
    lines_tally events stacks thread wanted refused was_opened stands_open awaits due inside last shown told waiting lines h stands_open awaits told waiting (lines ++ more) h.seen h.missed h.skipped h.left h.shut
    (rw (flat_map-append (events_in thread) lines more, nothing, append-nil (events_of thread lines)) h.tells) h.told_is h.runs h.missing_are (rw same h.steady) (rw same h.named)

-- A point names the thread, with the number that was told.
pub point_tally : (events : List EventDef) (stacks : Bool) (thread : ℕ) (wanted : List Write) (refused : List ℕ) (was_opened stands_open awaits due inside : Bool) (last : Option Begun) (shown told : ℕ) (waiting : List EventEntry) (lines : List Entry) (point : PointEntry) → ((seen skipped : ℕ) (later : List Sighting) → seen + skipped ≡ told → missing seen (sightings thread (Point point ∷ []) ++ later) ≡ skipped + missing told later) → ((before : Option Sighting) → last_or before (sightings thread (Point point ∷ [])) ≡ Some (Known told)) → Tally events stacks thread wanted refused was_opened stands_open awaits due inside last shown told waiting lines → Tally events stacks thread wanted refused was_opened stands_open false due inside last shown told waiting (lines ++ Point point ∷ [])
point_tally events stacks thread wanted refused was_opened stands_open awaits due inside last shown told waiting lines point steady named h =
    let seen = sightings thread (Point point ∷ []) in
    lines_tally events stacks thread wanted refused was_opened stands_open awaits due inside last shown told waiting lines h stands_open false told waiting (lines ++ Point point ∷ []) told (h.missed + h.skipped) 0 h.left h.shut
    (rw (flat_map-append (events_in thread) lines (Point point ∷ []), append-nil (events_of thread lines)) h.tells) (omega arith) h.runs (omega (arith, h.missing_are))
    (λ later.
    rw (flat_map-append (sightings_in thread) lines (Point point ∷ []), append_assoc (sightings thread lines) seen later)
    (h.steady (seen ++ later) ∙ ap (λ n. h.missed + n) (steady h.seen h.skipped later h.told_is) ∙ omega arith))
    (λ was shut told_all. (refl, ap (λ s. last_or None s) (flat_map-append (sightings_in thread) lines (Point point ∷ [])) ∙ last-append None (sightings thread lines) seen ∙ named (last_or None (sightings thread lines))))
