-- No more events with a stack were told than events were taken of all threads.
use Rattle.std.proofs.Common.{◌≡◌, ℕ, ◌+◌, ◌<◌, ◌≤◌, true, false, inl, inr, List, [], ◌∷◌, ◌++◌, length, map, Option, None, refl, sym, subst, arith}
use Rattle.std.specs.Prelude.{Bool, fold, ◌==◌, if◌then◌else◌}
use Rattle.std.specs.List.{sum_by, AllByRecursion}
use Rattle.std.proofs.lemmas.Bool.{eq-eqb, eqb-true, or_cases, or_left, or_right}
use Rattle.std.proofs.lemmas.Grind.{fold-append}
use Rattle.std.proofs.lemmas.List.Sums.{sum_by-cons, sum_by-le-sum_by}
use Rattle.ep_defs.specs.declared.session.Marks.{Marks}
use Rattle.ep_defs.specs.declared.event.EventDef.{EventDef}
use Rattle.ep_defs.specs.Entry.{EventEntry, PointEntry, Entry, Event, Point}
use Rattle.ep_rundown.specs.Rundown.{describing_from, ending, naming, section, used}
use Rattle.ep_model.specs.Faithful.{contents_of, events_of}
use Rattle.ep_model.proofs.Lists.{has}
use Rattle.ep_slot.specs.Hand.{HandState}
use Rattle.nt_write.specs.Value.{framed_with}
use Rattle.nt_write.specs.Writable.{framed, framed_after}
use Rattle.nt_write.proofs.Entries.{framed_one}
use Rattle.ep_stream.specs.declared.opened.Named.{Named}
use Rattle.ep_live_laws.specs.Tracing.{Account, Keeps, TellsPart, Watch, marks_by, speaks_of}
use Rattle.ep_live_laws.proofs.Ends.{marks-all}
use Rattle.ep_live_laws.proofs.Part.{each-append, each-front}

-- A sum is less where one of its terms is less and none is more.
sum-less : (f g : ℕ → ℕ) (x : ℕ) (xs : List ℕ) → ((t : ℕ) → f t ≤ g t) → f x < g x → has x xs ≡ true → sum_by f xs < sum_by g xs
sum-less f g x [] most less is = cc
sum-less f g x (t ∷ xs) most less is =
    let fs = sum_by-cons f t xs in
    let gs = sum_by-cons g t xs in
    elim (or_cases (t == x) (has x xs) is) [
      | inl same ↦
          let here : f t < g t = subst (λ n. f n < g n) (sym (eqb-true t x same)) less in
          omega (arith, fs, gs, here, sum_by-le-sum_by f g xs most)
      | inr there ↦ omega (arith, fs, gs, most t, sum-less f g x xs most less there)
    ]

-- How many events of a thread were told.
abbrev told_of : List Entry → ℕ → ℕ
told_of told t = length (events_of t told)

told-more : (e : EventEntry) (told : List Entry) (t : ℕ) → told_of told t ≤ told_of (Event e ∷ told) t
told-more e told t =
    elim (e.thread == t) as (λ v. told_of told t ≤ length ((if v then contents_of e ∷ [] else []) ++ events_of t told)) [
      | true ↦ omega arith
      | false ↦ omega arith
    ]

told-own : (e : EventEntry) (told : List Entry) → told_of told e.thread < told_of (Event e ∷ told) e.thread
told-own e told = rw (eq-eqb e.thread e.thread refl) (omega arith)

-- Where all events are of some threads, no more of them have a stack than were told of these threads.
framed-told : (before : ℕ) (threads : List ℕ) (told : List Entry) → AllByRecursion (λ entry. speaks_of threads entry ≡ true) told
    → fold framed_after before told ≤ before + sum_by (told_of told) threads
framed-told before threads [] alone = omega arith
framed-told before threads (Event e ∷ told) alone =
    let more = sum-less (told_of told) (told_of (Event e ∷ told)) e.thread threads (told-more e told) (told-own e told) alone.0 in
    omega (arith, framed_one before e.stack, framed-told (framed_with before e.stack) threads told alone.1, more)
framed-told before threads (Point p ∷ told) alone = omega (arith, framed-told 0 threads told alone.1)

-- The marks of these threads count what was taken of them.
told-taken : (accounts : ℕ → Account) (told : List Entry) (threads : List ℕ) → ((t : ℕ) → has t threads ≡ true → told_of told t ≤ (accounts t).taken)
    → sum_by (told_of told) threads ≤ sum_by (λ (m : Marks). m.taken) (map (marks_by accounts) threads)
told-taken accounts told [] few = omega arith
told-taken accounts told (t ∷ threads) few =
    let here = few t (or_left (t == t) (has t threads) (eq-eqb t t refl)) in
    let later = told-taken accounts told threads (λ x is. few x (or_right (t == x) (has x threads) is)) in
    let counts = sum_by-cons (told_of told) t threads in
    let marks = sum_by-cons (λ (m : Marks). m.taken) (marks_by accounts t) (map (marks_by accounts) threads) in
    omega (arith, here, later, counts, marks)

pub framed-taken : (watch : Watch) (opened : List ℕ) (accounts : ℕ → Account) (hands : ℕ → Option HandState) (named : List Named) (marks : List Marks) (told : List Entry) → Keeps watch opened accounts hands named marks → ((row : ℕ) → hands row ≡ None)
    → TellsPart watch opened accounts told → framed told ≤ sum_by (λ (m : Marks). m.taken) marks
framed-taken watch opened accounts hands named marks told keeps none part =
    let all = marks-all watch opened accounts hands named marks keeps none in
    let taken = told-taken accounts told opened (λ t is. part.few t is) in
    let count = framed-told 0 opened told part.alone in
    subst (λ ms. framed told ≤ sum_by (λ (m : Marks). m.taken) ms) (sym all) (omega (arith, taken, count))

-- ---- what comes at the end

-- The entry is no event with a stack.
abbrev IsBare : Entry → Type 0
IsBare (Event e) = e.stack ≡ []
IsBare (Point p) = Unit {0}

bare-framed : (before : ℕ) (more : List Entry) → AllByRecursion IsBare more → fold framed_after before more ≤ before
bare-framed before [] bare = omega arith
bare-framed before (Event e ∷ more) bare = rw bare.0 (bare-framed before more bare.1)
bare-framed before (Point p ∷ more) bare = let rest = bare-framed 0 more bare.1 in omega (arith, rest)

describing-bare : (stamp id : ℕ) (defs : List EventDef) → AllByRecursion IsBare (describing_from stamp id defs)
describing-bare stamp id [] = tt
describing-bare stamp id (def ∷ defs) = (refl, describing-bare stamp (id + 1) defs)

ending-bare : (rundown : Bool) (told : List Entry) (point : PointEntry) → AllByRecursion IsBare (ending rundown told point)
ending-bare false told point = (tt, tt)
ending-bare true told point =
    each-append IsBare (section point.stamp told) (Point (naming (length (used told)) point) ∷ []) (describing-bare point.stamp 1 (used told)) (tt, tt)

-- No event at the end has a stack.
pub framed-ending : (rundown : Bool) (told : List Entry) (point : PointEntry) (done rest : List Entry) → done ++ rest ≡ ending rundown told point → framed (told ++ done) ≤ framed told
framed-ending rundown told point done rest is =
    let bare = each-front IsBare done rest (subst (AllByRecursion IsBare) (sym is) (ending-bare rundown told point)) in
    subst (λ n. n ≤ framed told) (sym (fold-append framed_after 0 told done)) (bare-framed (framed told) done bare)
