-- The marks of a session, by its places.
use Rattle.std.proofs.Common.{◌≡◌, ℕ, zero, suc, ◌+◌, ◌-◌, ◌<◌, ◌≤◌, Bool, true, false, List, [], ◌∷◌, length, get_or, refl, ap, ◌∙◌, sym, subst, arith}
use Rattle.std.specs.Prelude.{◌==◌, ◌||◌, ◌&&◌, nat_lt, slice_index_or}
use Rattle.std.specs.List.{AllByRecursion, list_all, list_any, range_with_len}
use Rattle.std.proofs.lemmas.Bool.{eq-eqb, ltb-false, ltb-true}
use Rattle.std.proofs.lemmas.List.Folds.{list_all_at}
use Rattle.ep_defs.specs.declared.session.Marks.{Marks}
use Rattle.ep_guarded.specs.Tied.{thread_of}
use Rattle.ep_live_laws.specs.Traced.{AreOfThreads}
use Rattle.ep_live_laws.specs.Tracing.{IsOneOf}
use Rattle.pt_load.specs.declared.plan.Plan.{Plan}
use Rattle.pt_stream.specs.End.{AreEarly, AreServed, IsFromFirst}
use Rattle.pt_stream.specs.State.{IsDone, no_place, place_at}
use Rattle.pt_stream.specs.declared.place.Place.{Place}
use Rattle.pt_roles.specs.Ran.{HasEachRow, IsThread, is_early, threads_in}
use Rattle.pt_roles.specs.World.{WorldState, writes_of}
use Rattle.pt_writers.proofs.Load.{count-writes}

-- ---- lists

pub all-map : {A : Type 0} (P Q : A → Type 0) → ((x : A) → P x → Q x) → (xs : List A) → AllByRecursion P xs → AllByRecursion Q xs
all-map P Q h [] all = tt
all-map P Q h (x ∷ xs) all = (h x all.0, all-map P Q h xs all.1)

one-here : (n : ℕ) (ns : List ℕ) → IsOneOf (n ∷ ns) n
one-here n ns = rw (eq-eqb n n refl) refl

or-true : (b : Bool) → (b || true) ≡ true
or-true true = refl
or-true false = refl

one-later : (m n : ℕ) (ns : List ℕ) → IsOneOf ns n → IsOneOf (m ∷ ns) n
one-later m n ns is = ap (λ (b : Bool). (m == n) || b) is ∙ or-true (m == n)

-- What holds of each of the threads holds of each mark's.
pub all-marks : (Q : ℕ → Type 0) (ms : List Marks) → ((thread : ℕ) → IsOneOf (threads_in ms) thread → Q thread) → AllByRecursion (λ m. Q m.thread) ms
all-marks Q [] h = tt
all-marks Q (m ∷ ms) h =
    (h m.thread (one-here m.thread (threads_in ms)), all-marks Q ms (λ t is. h t (one-later m.thread t (threads_in ms) is)))

-- A test that each number of a range passes.
pub all-range : (p : ℕ → Bool) (first n : ℕ) → ((k : ℕ) → k < n → p (first + k) ≡ true) → list_all p (range_with_len first n) ≡ true
all-range p first zero h = refl
all-range p first (suc n) h =
    let here : p first ≡ true = subst (λ (k : ℕ). p k ≡ true) (omega arith) (h 0 (omega arith)) in
    let rest : list_all p (range_with_len (first + 1) n) ≡ true = all-range p (first + 1) n (λ k few. subst (λ (m : ℕ). p m ≡ true) (omega arith) (h (k + 1) (omega arith))) in
    rw here rest

-- ---- places

-- Where each place has been opened, that of a row has.
pub place-opened : (places : List Place) (number : ℕ) → number < length places → list_all (λ place. nat_lt 0 place.next) places ≡ true → 0 < (place_at places (number + 1)).next
place-opened places number within all = by (nat_lt 0 place.next) refl
  where
    place : Place
    place = get_or places number no_place

    at : place_at places (number + 1) ≡ place
    at = ap (λ (k : ℕ). slice_index_or places k no_place) (omega arith)

    by : (b : Bool) → nat_lt 0 place.next ≡ b → 0 < (place_at places (number + 1)).next
    by true is = subst (λ (p : Place). 0 < p.next) (sym at) (ltb-true 0 place.next is)
    by false is =
        let none : list_all (λ p. nat_lt 0 p.next) places ≡ false = list_all_at (λ p. nat_lt 0 p.next) places number no_place within is in
        absurd (false-true (sym none ∙ all))
      where
        false-true : false ≡ true → ⊥
        false-true e = cc

-- ---- the threads of the run

-- They have numbers above 0.
above-0 : (rows number life thread : ℕ) → thread ≡ thread_of rows number life → 0 < thread
unfolding thread_of
above-0 rows number life thread is = omega (arith, is)

pub of-threads : (world : WorldState) (places : List Place) (marks : List Marks) → AreServed world.plan.threads places (threads_in marks) → AreOfThreads marks
of-threads world places marks served =
    all-marks (λ (t : ℕ). 0 < t) marks
    (λ thread is. let s = served.each thread is in above-0 world.plan.threads (s.row - 1) s.life thread s.thread_is)

pub is-thread : (world : WorldState) (places : List Place) (threads : List ℕ) → AreServed world.plan.threads places threads → ((row : ℕ) → 0 < row → (place_at places row).next ≤ world.options.lives)
    → (thread : ℕ) → IsOneOf threads thread → IsThread world thread
is-thread world places threads served few thread is =
    let s = served.each thread is in
    let most = few s.row s.some in
    record {
      number = s.row - 1;
      within = omega (arith, s.some, s.within);
      life = s.life;
      lives = omega (arith, s.opened, most);
      is = s.thread_is;
    }

pub each-row : (world : WorldState) (places : List Place) (marks : List Marks) → AreServed world.plan.threads places (threads_in marks) → length places ≡ world.plan.threads
    → ((row : ℕ) → 0 < row → (place_at places row).next ≤ world.options.lives) → list_all (λ place. nat_lt 0 place.next) places ≡ true → HasEachRow world marks
each-row world places marks served count few all number within =
    let opened = place-opened places number (omega (arith, count)) all in
    let one = served.all (number + 1) (omega arith) opened in
    let most = few (number + 1) (omega arith) in
    let same : number + 1 - 1 ≡ number = omega arith in
    record {
      life = one.life;
      lives = omega (arith, one.opened, most);
      has = subst (λ (k : ℕ). IsOneOf (threads_in marks) (thread_of world.plan.threads k one.life)) same one.has;
    }

-- The threads had made all their writes.
pub all-done : (plan : Plan) (marks : List Marks) → AllByRecursion (IsDone (writes_of plan)) marks → AllByRecursion (λ mark. mark.to ≡ plan.writes) marks
all-done plan marks done = all-map (IsDone (writes_of plan)) (λ mark. mark.to ≡ plan.writes) (λ mark is. is ∙ count-writes plan mark.thread) marks done

-- ---- an early session

-- A thread of a first life was opened before its first write.
first-of : (rows : ℕ) (mark : Marks) → IsFromFirst rows mark → (nat_lt rows mark.thread || (mark.from == 0)) ≡ true
first-of rows mark is = by (nat_lt rows mark.thread) refl
  where
    by : (b : Bool) → nat_lt rows mark.thread ≡ b → (b || (mark.from == 0)) ≡ true
    by true test = refl
    by false test = eq-eqb mark.from 0 (is (ltb-false rows mark.thread test))

both : (b c : Bool) → b ≡ true → c ≡ true → (b && c) ≡ true
both true c is there = there
both false c is there = is

all-first : (rows : ℕ) (marks : List Marks) → AllByRecursion (IsFromFirst rows) marks → list_all (λ mark. nat_lt rows mark.thread || (mark.from == 0)) marks ≡ true
all-first rows [] all = refl
all-first rows (m ∷ ms) all =
    both (nat_lt rows m.thread || (m.from == 0)) (list_all (λ mark. nat_lt rows mark.thread || (mark.from == 0)) ms) (first-of rows m all.0) (all-first rows ms all.1)

-- A session that was early on each row is an early one by its marks.
pub early-marks : (world : WorldState) (places : List Place) (marks : List Marks) → AreEarly world.plan.threads places (threads_in marks) marks
    → length places ≡ world.plan.threads → list_all (λ place. nat_lt 0 place.next) places ≡ true → is_early world marks ≡ true
early-marks world places marks e count all =
    both (list_all (λ number. list_any (λ t. t == number + 1) (threads_in marks)) (range_with_len 0 world.plan.threads)) (list_all (λ mark. nat_lt world.plan.threads mark.thread || (mark.from == 0)) marks)
    (all-range (λ number. list_any (λ t. t == number + 1) (threads_in marks)) 0 world.plan.threads
    (λ k few.
    let opened = place-opened places k (omega (arith, few, count)) all in
    let from : k ≡ 0 + k = omega arith in
    subst (λ (n : ℕ). list_any (λ t. t == n + 1) (threads_in marks) ≡ true) from (e.first (k + 1) (omega arith) opened)))
    (all-first world.plan.threads marks e.from)
