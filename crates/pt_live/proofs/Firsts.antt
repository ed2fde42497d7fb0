-- The threads of a session that was open on the first rows, each in its first life.
use Rattle.std.proofs.Common.{◌≡◌, ◌∙◌, ℕ, zero, suc, ◌+◌, ◌-◌, ◌<◌, ◌≤◌, ⊎_elim, inl, inr, List, [], ◌∷◌, length, map, refl, sym, ap, subst, arith}
use Rattle.std.specs.Prelude.{◌==◌}
use Rattle.std.specs.List.{list_any, range_with_len, AllByRecursion}
use Rattle.std.proofs.lemmas.Bool.{cases_lt, eq-eqb, eqb-true, or_cases, or_left, or_right}
use Rattle.ep_defs.specs.declared.session.Marks.{Marks}
use Rattle.ep_defs.specs.declared.session.Write.{Write}
use Rattle.ep_guarded.specs.Tied.{thread_of}
use Rattle.ep_live_laws.specs.Tracing.{AreAscending, IsOneOf}
use Rattle.pt_stream.specs.declared.place.Place.{Place}
use Rattle.pt_stream.specs.End.{AreServed, IsFromFirst}
use Rattle.pt_stream.specs.State.{EndsAt, IsDone, StreamState, place_at}
use Rattle.pt_stream.proofs.Lives.{first-of}
use Rattle.pt_writers.specs.Whole.{IsWhole}
use Rattle.pt_live.specs.state.Open.{IsOpenOn}
use Rattle.pt_live.specs.state.Run.{RunState}

-- ---- lists of threads

one-first : (t : ℕ) (threads : List ℕ) → IsOneOf (t ∷ threads) t
one-first t threads = or_left (t == t) (list_any (λ x. x == t) threads) (eq-eqb t t refl)

one-later : (first t : ℕ) (threads : List ℕ) → IsOneOf threads t → IsOneOf (first ∷ threads) t
one-later first t threads is = or_right (first == t) (list_any (λ x. x == t) threads) is

one-behind : (first t : ℕ) (threads : List ℕ) → (first ≡ t → ⊥) → IsOneOf (first ∷ threads) t → IsOneOf threads t
one-behind first t threads other is =
    elim (or_cases (first == t) (list_any (λ x. x == t) threads) is) [
      | inl same ↦ absurd (other (eqb-true first t same))
      | inr later ↦ later
    ]

above : (first t : ℕ) (threads : List ℕ) → AllByRecursion (λ m. first < m) threads → IsOneOf threads t → first < t
above first t [] up is = cc
above first t (x ∷ threads) up is =
    elim (or_cases (x == t) (list_any (λ y. y == t) threads) is) [
      | inl same ↦ subst (λ (m : ℕ). first < m) (eqb-true x t same) up.0
      | inr later ↦ above first t threads up.1 later
    ]

-- An ascending list that has each number of a range, and no other, is the range.
range-of : (first n : ℕ) (threads : List ℕ) → AreAscending threads → ((t : ℕ) → IsOneOf threads t → (first ≤ t) × (t < first + n)) → ((t : ℕ) → first ≤ t → t < first + n → IsOneOf threads t)
    → threads ≡ range_with_len first n
range-of first zero [] up each all = refl
range-of first zero (t ∷ threads) up each all = let in_range = each t (one-first t threads) in absurd (omega (arith, in_range.0, in_range.1))
range-of first (suc n) [] up each all = absurd (none (all first (omega arith) (omega arith)))
  where
    none : IsOneOf [] first → ⊥
    none is = cc
range-of first (suc n) (t ∷ threads) up each all =
    let in_range = each t (one-first t threads) in
    let low : t ≤ first =
    ⊎_elim
    (λ (over : first < t). absurd (let past = above t first threads up.0 (one-behind t first threads (λ (is : t ≡ first). omega (arith, over, is)) (all first (omega arith) (omega arith))) in omega (arith, over, past)))
    (λ (under : t ≤ first). under)
    (cases_lt first t)
    in
    let is : t ≡ first = omega (arith, low, in_range.0) in
    let rest = range-of (first + 1) n threads up.1
    (λ x here.
    let past = above t x threads up.0 here in
    let within = each x (one-later t x threads here) in (
      omega (arith, past, is),
      omega (arith, within.1),
    ))
    (λ x from to. one-behind t x threads (λ (same : t ≡ x). omega (arith, same, from, is)) (all x (omega (arith, from)) (omega (arith, to))))
    in
    ap (λ (k : ℕ). k ∷ threads) is ∙ ap (λ (ks : List ℕ). first ∷ ks) rest

-- ---- a session that was open on the first rows

-- Its threads are those of the rows on which it was open.
pub threads-opened : (run : RunState) (rows opened : ℕ) (stream : StreamState) (threads : List ℕ) → IsOpenOn run rows opened opened stream → AreServed rows stream.places threads
    → ((row : ℕ) → 0 < row → 0 < (place_at stream.places row).next → IsOneOf threads row) → threads ≡ range_with_len 1 opened
threads-opened run rows opened stream threads o served first =
    range-of 1 opened threads served.ascending
    (λ t is.
    let s = served.each t is in
    let within : s.row ≤ opened =
    ⊎_elim
    (λ (past : opened < s.row). absurd (let none : (place_at stream.places s.row).next ≡ 0 = ap (λ (p : Place). p.next) (o.none s.row past) in let life = s.opened in omega (arith, none, life)))
    (λ (under : s.row ≤ opened). under)
    (cases_lt opened s.row)
    in
    let next : (place_at stream.places s.row).next ≡ 1 = ap (λ (p : Place). p.next) (o.closed s.row s.some within) in
    let life : s.life ≡ 0 = let below = s.opened in omega (arith, next, below) in
    let row : t ≡ s.row = s.thread_is ∙ ap (λ (l : ℕ). thread_of rows (s.row - 1) l) life ∙ first-of rows s.row s.some in
    let some = s.some in (
      omega (arith, row, some),
      omega (arith, row, within),
    ))
    (λ t low high. first t (omega (arith, low)) (subst (λ (p : Place). 0 < p.next) (sym (o.closed t (omega (arith, low)) (omega (arith, high)))) (omega arith)))

-- Each of them is one of the rows' first threads.
pub few-threads : (rows opened : ℕ) (threads : List ℕ) → opened ≤ rows → threads ≡ range_with_len 1 opened → (t : ℕ) → IsOneOf threads t → t ≤ rows
few-threads rows opened threads few is t one =
    let below = in-range 1 opened t (subst (λ (ts : List ℕ). IsOneOf ts t) is one) in
    omega (arith, few, below)
  where
    in-range : (first n x : ℕ) → IsOneOf (range_with_len first n) x → x < first + n
    in-range first zero x there = cc
    in-range first (suc n) x there =
        elim (or_cases (first == x) (list_any (λ y. y == x) (range_with_len (first + 1) n)) there) [
          | inl same ↦ let here = eqb-true first x same in omega (arith, here)
          | inr later ↦ let low = in-range (first + 1) n x later in omega (arith, low)
        ]

-- ---- marks

-- The marks of threads of a first life, which were opened before their first write, are from there.
pub whole-marks : (rows to : ℕ) (marks : List Marks) → ((t : ℕ) → IsOneOf (map (λ mark. mark.thread) marks) t → t ≤ rows) → AllByRecursion (IsFromFirst rows) marks → AllByRecursion (EndsAt to) marks
    → AllByRecursion (IsWhole to) marks
whole-marks rows to [] few from ends = tt
whole-marks rows to (mark ∷ marks) few from ends = (
  record { from = from.0 (few mark.thread (one-first mark.thread (map (λ (m : Marks). m.thread) marks))); to_is = ends.0 },
  whole-marks rows to marks (λ t is. few t (one-later mark.thread t (map (λ (m : Marks). m.thread) marks) is)) from.1 ends.1,
)

-- Where each thread makes so many writes, marks that end there are of threads that made all.
pub all-done : (writes : ℕ → List Write) (to : ℕ) (marks : List Marks) → ((thread : ℕ) → length (writes thread) ≡ to) → AllByRecursion (EndsAt to) marks → AllByRecursion (IsDone writes) marks
all-done writes to [] long ends = tt
all-done writes to (mark ∷ marks) long ends = (ends.0 ∙ sym (long mark.thread), all-done writes to marks long ends.1)
