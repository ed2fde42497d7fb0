-- How many events can have been heard of a run.
use Rattle.std.proofs.Common.{◌≡◌, ◌≢◌, ◌∙◌, ◌⊎◌, inl, inr, ℕ, zero, suc, ◌+◌, ◌*◌, ◌<◌, ◌≤◌, List, [], ◌∷◌, length, map, refl, sym, ap, subst, arith}
use Rattle.std.specs.Prelude.{◌^◌}
use Rattle.std.specs.List.{range_with_len, sum_by, AllByRecursion}
use Rattle.std.proofs.lemmas.Bool.{cases_eq, cases_lt, eq-eqb, ne_eqb}
use Rattle.std.proofs.lemmas.List.{length-map}
use Rattle.std.proofs.lemmas.List.FromFn.{length-range_with_len}
use Rattle.std.proofs.lemmas.List.Sums.{sum_by-cons}
use Rattle.ep_defs.specs.declared.session.Config.{Config}
use Rattle.ep_defs.specs.declared.session.Marks.{Marks}
use Rattle.ep_defs.specs.declared.limits.TheConstants.{THREADS, WRITES}
use Rattle.ep_guarded.specs.Tied.{AreCounted}
use Rattle.ep_listen.specs.Heard.{HeardEvent}
use Rattle.ep_listen.specs.Shares.{heard_by}
use Rattle.pt_load.specs.Sample.{sample}
use Rattle.pt_load.specs.declared.plan.Plan.{Plan}
use Rattle.pt_writers.specs.Whole.{AreWhole, IsWhole}
use Rattle.pt_writers.specs.Written.{threads_of, writes_of}
use Rattle.pt_writers.proofs.Whole.{admitted-few, all-counted}

-- ---- sums over a range

all-more : (g f : ℕ → ℕ) (ks : List ℕ) → ((k : ℕ) → g k ≤ f k) → sum_by g ks ≤ sum_by f ks
all-more g f [] each = omega arith
all-more g f (k ∷ ks) each =
    let here = sum_by-cons g k ks in
    let there = sum_by-cons f k ks in
    let one = each k in
    let rest = all-more g f ks each in
    omega (arith, here, there, one, rest)

-- One more at a number of the range.
one-more : (g f : ℕ → ℕ) (t first n : ℕ) → first ≤ t → t < first + n → ((k : ℕ) → g k ≤ f k) → g t + 1 ≤ f t → sum_by g (range_with_len first n) + 1 ≤ sum_by f (range_with_len first n)
one-more g f t first zero low high each more = absurd (omega (arith, low, high))
one-more g f t first (suc n) low high each more =
    let here = sum_by-cons g first (range_with_len (first + 1) n) in
    let there = sum_by-cons f first (range_with_len (first + 1) n) in
    elim (cases_eq t first) [
      | inl is ↦
          let at : g first + 1 ≤ f first = subst (λ (k : ℕ). g k + 1 ≤ f k) is more in
          let rest = all-more g f (range_with_len (first + 1) n) each in
          omega (arith, here, there, at, rest)
      | inr other ↦
          let one = each first in
          let rest = one-more g f t (first + 1) n (omega (arith, low, other)) (omega (arith, high)) each more in
          omega (arith, here, there, one, rest)
    ]

-- ---- all that was heard is of some thread

own : (t : ℕ) (e : HeardEvent) (heard : List HeardEvent) → e.thread ≡ t → heard_by t (e ∷ heard) ≡ e ∷ heard_by t heard
own t e heard is = rw (eq-eqb e.thread t is) refl

others : (t : ℕ) (e : HeardEvent) (heard : List HeardEvent) → e.thread ≢ t → heard_by t (e ∷ heard) ≡ heard_by t heard
others t e heard apart = rw (ne_eqb e.thread t apart) refl

-- The list of no thread has an event of it.
not-none : (t : ℕ) (e : HeardEvent) (heard : List HeardEvent) → heard_by t (e ∷ heard) ≡ [] → e.thread ≢ t
not-none t e heard none is = filled (heard_by t heard) (sym (own t e heard is) ∙ none)
  where
    filled : (xs : List HeardEvent) → e ∷ xs ≡ [] → ⊥
    filled xs at = cc

-- Where nothing is of a thread outside the range, the events of the threads within are all.
by-threads : (n : ℕ) (heard : List HeardEvent) → ((t : ℕ) → (t ≡ 0) ⊎ (n < t) → heard_by t heard ≡ []) → length heard ≤ sum_by (λ t. length (heard_by t heard)) (range_with_len 1 n)
by-threads n [] alone = omega arith
by-threads n (e ∷ heard) alone =
    let rest = by-threads n heard (λ t out. sym (others t e heard (not-none t e heard (alone t out))) ∙ alone t out) in
    let some : 0 < e.thread = positive (λ is. not-none 0 e heard (alone 0 (inl refl)) is) in
    let within : e.thread ≤ n =
    elim (cases_lt n e.thread) [
      | inl past ↦ absurd (not-none e.thread e heard (alone e.thread (inr past)) refl)
      | inr low ↦ low
    ]
    in
    let more = one-more (λ t. length (heard_by t heard)) (λ t. length (heard_by t (e ∷ heard))) e.thread 1 n (omega (arith, some)) (omega (arith, within)) each
    (let at = ap length (own e.thread e heard refl) in omega (arith, at))
    in
    omega (arith, rest, more)
  where
    positive : (e.thread ≢ 0) → 0 < e.thread
    positive not = elim (cases_eq e.thread 0) [
      | inl is ↦ absurd (not is)
      | inr other ↦ omega (arith, other)
    ]

    each : (t : ℕ) → length (heard_by t heard) ≤ length (heard_by t (e ∷ heard))
    each t =
        elim (cases_eq e.thread t) [
          | inl is ↦ (let long = ap length (own t e heard is) in omega (arith, long))
          | inr apart ↦ (let long = ap length (others t e heard apart) in omega (arith, long))
        ]

-- ---- of a run

-- Of each thread no more was heard than it wrote.
by-marks : (plan : Plan) (config : Config) (heard : List HeardEvent) (marks : List Marks) → plan.writes ≤ WRITES → AllByRecursion (IsWhole plan.writes) marks → AllByRecursion (AreCounted sample (writes_of plan) config) marks
    → AllByRecursion (λ mark. length (heard_by mark.thread heard) ≡ mark.taken) marks
    → sum_by (λ t. length (heard_by t heard)) (map (λ m. m.thread) marks) ≤ length marks * 4000000000
by-marks plan config heard [] most whole counted taken = omega arith
by-marks plan config heard (mark ∷ marks) most whole counted taken =
    let here = sum_by-cons (λ (t : ℕ). length (heard_by t heard)) mark.thread (map (λ (m : Marks). m.thread) marks) in
    let rest = by-marks plan config heard marks most whole.1 counted.1 taken.1 in
    let all = all-counted plan config mark whole.0 counted.0 in
    let few = admitted-few plan config mark.thread in
    omega (arith, here, rest, all, few, taken.0, most)

-- So few that 64 bits count them.
pub few-heard : (plan : Plan) (config : Config) (heard : List HeardEvent) (marks : List Marks) → plan.threads ≤ THREADS → plan.writes ≤ WRITES → AreWhole plan config marks
    → AllByRecursion (λ mark. length (heard_by mark.thread heard) ≡ mark.taken) marks → ((t : ℕ) → (t ≡ 0) ⊎ (plan.threads < t) → heard_by t heard ≡ [])
    → length heard < 2 ^ 64
few-heard plan config heard marks few most whole taken alone =
    let all = by-threads plan.threads heard alone in
    let sum : sum_by (λ t. length (heard_by t heard)) (threads_of plan) ≤ length marks * 4000000000 =
    subst (λ (ts : List ℕ). sum_by (λ t. length (heard_by t heard)) ts ≤ length marks * 4000000000) whole.threads (by-marks plan config heard marks most whole.whole whole.counted taken)
    in
    let count : length marks ≡ plan.threads = sym (length-map marks (λ (m : Marks). m.thread)) ∙ ap length whole.threads ∙ length-range_with_len 1 plan.threads in
    omega (arith, all, sum, count, few)
