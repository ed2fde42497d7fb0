-- How many rows are taken: as many as there are exactly where none is free.
use Rattle.std.proofs.Common.{◌≡◌, ℕ, zero, suc, ◌+◌, ◌<◌, ◌≤◌, true, false, List, [], ◌∷◌, map, length, Option, Some, refl, ap, sym, ◌∙◌, subst, arith}
use Rattle.std.specs.Prelude.{◌&&◌, ◌||◌, ◌++◌, unwrap_or, nat_lt, nat_le, ◌==◌}
use Rattle.std.specs.Int.{is_in_range}
use Rattle.std.specs.List.{list_any, range_with_len}
use Rattle.std.proofs.lemmas.Bool.{eqb-true, ltb-true, leb-true, le-leb, and_from, and_parts, or_from, not-true, not-false, false≢true}
use Rattle.std.proofs.lemmas.List.FromFn.{length-range_with_len}
use Rattle.std.proofs.lemmas.List.{length-map}
use Rattle.std.proofs.Math.Bool.{or_comm}
use Rattle.ep_defs.specs.declared.limits.TheConstants.{THREADS}
use Rattle.ep_defs.specs.declared.event.EventDef.{EventDef}
use Rattle.ep_model.specs.declared.step.Step.TheVariants as step
use Rattle.ep_model.specs.History.{Past, entered, was_there, takes_row, rows}
use Rattle.ep_model.specs.Lawful.{IsLawful, is_next_thread, objections}
use Rattle.ep_model.proofs.Lists.{has, same_bools, above_none, has_within}
use Rattle.ep_model.proofs.Objections.{none_there}
use Rattle.ep_stream.specs.Rows.{IsRow}
use Rattle.ep_tables.proofs.Lists.{IsDistinct, has-filter, has-append, distinct-filter, distinct-map, pigeons, range-distinct, source_of}

-- ---- the numbers of rows, and of the threads that are there from the start

range_low : (n a count : ℕ) → has n (range_with_len a count) ≡ true → a ≤ n
range_low n a zero is = absurd (false≢true is)
range_low n a (suc count) is =
    elim (a == n) as (λ v. (a == n) ≡ v → (v || has n (range_with_len (a + 1) count)) ≡ true → a ≤ n) [
      | true ↦ λ same _. let e = eqb-true a n same in omega arith
      | false ↦ λ _ h. let low = range_low n (a + 1) count h in omega arith
    ] refl is

range_high : (n a count : ℕ) → has n (range_with_len a count) ≡ true → n < a + count
range_high n a zero is = absurd (false≢true is)
range_high n a (suc count) is =
    elim (a == n) as (λ v. (a == n) ≡ v → (v || has n (range_with_len (a + 1) count)) ≡ true → n < a + suc count) [
      | true ↦ λ same _. let e = eqb-true a n same in omega arith
      | false ↦ λ _ h. let high = range_high n (a + 1) count h in omega arith
    ] refl is

pub in_range : (n : ℕ) → has n (range_with_len 1 THREADS) ≡ true → IsRow THREADS n
in_range n is = let low = range_low n 1 THREADS is in let high = range_high n 1 THREADS is in (omega arith, omega arith)

pub row_has : (n : ℕ) → IsRow THREADS n → has n (range_with_len 1 THREADS) ≡ true
row_has n is = has_within n 1 THREADS (omega (arith, is.0)) (omega (arith, is.1))

has_in_range : (n : ℕ) → has n (range_with_len 1 THREADS) ≡ is_in_range 1 THREADS n
has_in_range n = same_bools _ _ (λ is. let at = in_range n is in and_from (nat_le 1 n) (nat_le n THREADS) (le-leb 1 n (omega (arith, at.0))) (le-leb n THREADS at.1)) (λ is. let at = and_parts (nat_le 1 n) (nat_le n THREADS) is in row_has n (omega (arith, leb-true 1 n at.0), leb-true n THREADS at.1))

-- The threads that there are or were.
abbrev pub threads : Past → List ℕ
threads past = entered past ++ range_with_len 1 THREADS

pub has_threads : (thread : ℕ) (past : Past) → has thread (threads past) ≡ was_there thread past
has_threads thread past =
    has-append thread (entered past) (range_with_len 1 THREADS)
    ∙ or_comm (has thread (entered past)) (has thread (range_with_len 1 THREADS))
    ∙ ap (λ b. b || has thread (entered past)) (has_in_range thread)

pub has_rows : (thread : ℕ) (past : Past) → has thread (rows past) ≡ (takes_row thread past && was_there thread past)
has_rows thread past = has-filter (λ t. takes_row t past) thread (threads past) ∙ ap (λ b. takes_row thread past && b) (has_threads thread past)

-- ---- they differ

entered_anew : (t : ℕ) (past : Past) → is_next_thread t past ≡ true → has t (threads past) ≡ false
entered_anew t past next =
    let parts = and_parts (nat_lt THREADS t) _ next in
    let high : THREADS < t = ltb-true THREADS t parts.0 in
    let off : has t (range_with_len 1 THREADS) ≡ false =
    elim (has t (range_with_len 1 THREADS)) as (λ v. has t (range_with_len 1 THREADS) ≡ v → v ≡ false) [
      | true ↦ λ is. let at = in_range t is in absurd (omega (arith, at.1, high))
      | false ↦ λ _. refl
    ] refl in
    has-append t (entered past) (range_with_len 1 THREADS) ∙ or_from (has t (entered past)) _ (above_none t (entered past) (not-true (list_any (λ n. nat_le t n) (entered past)) parts.1)) off

pub threads_distinct : (events : List EventDef) (past : Past) → IsLawful events past → IsDistinct (threads past)
threads_distinct events [] lawful = range-distinct 1 THREADS
threads_distinct events (step.Enter t ∷ past) lawful =
    (entered_anew t past (not-false (is_next_thread t past) (none_there (objections events past (step.Enter t)) lawful.1).0), threads_distinct events past lawful.0)
threads_distinct events (step.Accept s config ∷ past) lawful = threads_distinct events past lawful.0
threads_distinct events (step.Open s t ∷ past) lawful = threads_distinct events past lawful.0
threads_distinct events (step.Leave t ∷ past) lawful = threads_distinct events past lawful.0
threads_distinct events (step.Begin t stamp write ∷ past) lawful = threads_distinct events past lawful.0
threads_distinct events (step.Show t s ∷ past) lawful = threads_distinct events past lawful.0
threads_distinct events (step.End t ∷ past) lawful = threads_distinct events past lawful.0
threads_distinct events (step.Steal s t ∷ past) lawful = threads_distinct events past lawful.0
threads_distinct events (step.Give s ∷ past) lawful = threads_distinct events past lawful.0
threads_distinct events (step.Point s stamp ∷ past) lawful = threads_distinct events past lawful.0
threads_distinct events (step.Close s t ∷ past) lawful = threads_distinct events past lawful.0
threads_distinct events (step.Finish s stamp ∷ past) lawful = threads_distinct events past lawful.0

-- ---- rows and their threads

-- The row of a thread, and 0 for one that has none.
abbrev row_of : (ℕ → Option ℕ) → ℕ → ℕ
row_of place thread = unwrap_or (place thread) 0

-- Where each row's thread takes it, all are taken.
pub none_free : (past : Past) (own : ℕ → ℕ) (place : ℕ → Option ℕ)
    → ((r : ℕ) → IsRow THREADS r → place (own r) ≡ Some r) → ((r : ℕ) → IsRow THREADS r → was_there (own r) past ≡ true) → ((r : ℕ) → IsRow THREADS r → takes_row (own r) past ≡ true)
    → THREADS ≤ length (rows past)
none_free past own place places there takes =
    let each : (n : ℕ) → has n (map own (range_with_len 1 THREADS)) ≡ true → has n (rows past) ≡ true = λ n is.
    let s = source_of own n (range_with_len 1 THREADS) is in
    let at = in_range s.source s.there in
    let H : ℕ → Type 0 = λ m. has m (rows past) ≡ true in
    subst H s.is (has_rows (own s.source) past ∙ and_from _ _ (takes s.source at) (there s.source at)) in
    let distinct = distinct-map own (row_of place) (range_with_len 1 THREADS) (λ n is. ap (λ o. unwrap_or o 0) (places n (in_range n is))) (range-distinct 1 THREADS) in
    let most = pigeons (map own (range_with_len 1 THREADS)) (rows past) distinct each in
    let count = length-map (range_with_len 1 THREADS) own ∙ length-range_with_len 1 THREADS in
    omega (arith, most, count)

-- A thread and the row that it takes.
pub record Served (own : ℕ → ℕ) (thread : ℕ) : Type 0 where
  pub row : ℕ
  pub is_row : IsRow THREADS row
  pub own_is : own row ≡ thread

-- Where each thread that takes a row has one, and some row's thread takes none, not all are taken.
pub some_free : (events : List EventDef) (past : Past) (own : ℕ → ℕ) (place : ℕ → Option ℕ) (row : ℕ) → IsLawful events past
    → ((r : ℕ) → IsRow THREADS r → place (own r) ≡ Some r) → ((t : ℕ) → was_there t past ≡ true → takes_row t past ≡ true → Served own t)
    → IsRow THREADS row → takes_row (own row) past ≡ false
    → length (rows past) < THREADS
some_free events past own place row lawful places served is_row free =
    let f = row_of place in
    let taken : (t : ℕ) → has t (rows past) ≡ true → Served own t = λ t is. let parts = and_parts (takes_row t past) (was_there t past) (sym (has_rows t past) ∙ is) in served t parts.1 parts.0 in
    let at : (t : ℕ) → (h : Served own t) → f t ≡ h.row = λ t h. ap f (sym h.own_is) ∙ ap (λ o. unwrap_or o 0) (places h.row h.is_row) in
    let back : (t : ℕ) → has t (rows past) ≡ true → own (f t) ≡ t = λ t is. let h = taken t is in ap own (at t h) ∙ h.own_is in
    let distinct = distinct-map f own (rows past) back (distinct-filter (λ t. takes_row t past) (threads past) (threads_distinct events past lawful)) in
    let off : has row (map f (rows past)) ≡ false =
    elim (has row (map f (rows past))) as (λ v. has row (map f (rows past)) ≡ v → v ≡ false) [
      | true ↦ λ is.
          let s = source_of f row (rows past) is in
          let takes : takes_row s.source past ≡ true = (and_parts (takes_row s.source past) (was_there s.source past) (sym (has_rows s.source past) ∙ s.there)).0 in
          let same : own row ≡ s.source = ap own (sym s.is) ∙ back s.source s.there in
          absurd (false≢true (sym free ∙ ap (λ t. takes_row t past) same ∙ takes))
      | false ↦ λ _. refl
    ] refl in
    let each : (n : ℕ) → has n (row ∷ map f (rows past)) ≡ true → has n (range_with_len 1 THREADS) ≡ true = λ n.
    elim (row == n) as (λ v. (row == n) ≡ v → (v || has n (map f (rows past))) ≡ true → has n (range_with_len 1 THREADS) ≡ true) [
      | true ↦ λ same _. let H : ℕ → Type 0 = λ m. has m (range_with_len 1 THREADS) ≡ true in subst H (eqb-true row n same) (row_has row is_row)
      | false ↦ λ _ is.
          let s = source_of f n (rows past) is in
          let h = taken s.source s.there in
          let H : ℕ → Type 0 = λ m. has m (range_with_len 1 THREADS) ≡ true in
          subst H (sym (at s.source h) ∙ s.is) (row_has h.row h.is_row)
    ] refl in
    let most = pigeons (row ∷ map f (rows past)) (range_with_len 1 THREADS) (off, distinct) each in
    let count = length-map (rows past) f in
    let all = length-range_with_len 1 THREADS in
    omega (arith, most, count, all)
