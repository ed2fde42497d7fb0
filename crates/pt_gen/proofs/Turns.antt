-- Which thread writes in a round, and who gets the write.
use Rattle.std.proofs.Common.{◌≡◌, ◌≢◌, ℕ, zero, suc, ◌+◌, ◌%◌, ◌/◌, Bool, true, false, cond, [], ◌∷◌, ◌⊎◌, inl, inr, ⊎_elim, refl, ◌∙◌, arith}
use Rattle.std.specs.Prelude.{count_by, filter, nat_lt, ◌==◌}
use Rattle.std.specs.Option.{option_map_or}
use Rattle.std.specs.List.{range_with_len}
use Rattle.std.proofs.lemmas.Bool.{agree_below_at, eq-eqb, lt-ltb, ne_eqb}
use Rattle.std.proofs.lemmas.Bool.Decides.{eqb_tells}
use Rattle.std.proofs.lemmas.List.Sums.{sum_by-cons}
use Rattle.ep_defs.specs.Admits.{session_admits}
use Rattle.ep_defs.specs.Definitions.{definition_at}
use Rattle.pt_load.specs.Sample.{sample}
use Rattle.pt_gen.specs.declared.limits.TheConstants.{NARROW, WIDE}
use Rattle.pt_gen.specs.Schedule.{config_of, gets, sessions, thread_at, write_at, writes_before}

-- one where the place has this turn
one : ℕ → ℕ → ℕ
one place turn = cond ((1 + place % 4) == turn) 1 0

tells : (place turn : ℕ) → ((1 + place % 4 ≡ turn) × (one place turn ≡ 1)) ⊎ ((1 + place % 4 ≢ turn) × (one place turn ≡ 0))
unfolding one
tells place turn =
    ⊎_elim
    (λ (t : (((1 + place % 4) == turn) ≡ true) × (1 + place % 4 ≡ turn)). inl (t.1, rw (t.0) refl))
    (λ t. inr (t.1, rw (t.0) refl))
    (eqb_tells (1 + place % 4) turn)

-- how many of these rounds have this turn
turns : ℕ → ℕ → ℕ → ℕ → ℕ
turns seed first count turn = count_by (λ r. (1 + (seed + r) % 4) == turn) (range_with_len first count)

turns_none : (seed first turn : ℕ) → turns seed first 0 turn ≡ 0
unfolding turns
turns_none seed first turn = refl

turns_more : (seed first count turn : ℕ) → turns seed first (suc count) turn ≡ one (seed + first) turn + turns seed (first + 1) count turn
unfolding turns one
turns_more seed first count turn = sum_by-cons (λ r. cond ((1 + (seed + r) % 4) == turn) 1 0) first (range_with_len (first + 1) count)

-- The turn of the round after these had a fourth of them.
before : (seed first count turn : ℕ) → turn ≡ 1 + (seed + (first + count)) % 4 → turns seed first count turn ≡ count / 4
before seed first zero turn is = turns_none seed first turn
before seed first (suc zero) turn is =
    let a = tells (seed + first) turn in
    omega (arith, turns_more seed first 0 turn, turns_none seed (first + 1) turn, a)
before seed first (suc (suc zero)) turn is =
    let a = tells (seed + first) turn in
    let b = tells (seed + (first + 1)) turn in
    omega (arith, turns_more seed first 1 turn, turns_more seed (first + 1) 0 turn, turns_none seed (first + 1 + 1) turn)
before seed first (suc (suc (suc zero))) turn is =
    let a = tells (seed + first) turn in
    let b = tells (seed + (first + 1)) turn in
    let c = tells (seed + (first + 1 + 1)) turn in
    omega (arith, turns_more seed first 2 turn, turns_more seed (first + 1) 1 turn, turns_more seed (first + 1 + 1) 0 turn, turns_none seed (first + 1 + 1 + 1) turn)
before seed first (suc (suc (suc (suc count)))) turn is =
    let a = tells (seed + first) turn in
    let b = tells (seed + (first + 1)) turn in
    let c = tells (seed + (first + 1 + 1)) turn in
    let d = tells (seed + (first + 1 + 1 + 1)) turn in
    let rest : turns seed (first + 1 + 1 + 1 + 1) count turn ≡ count / 4 = before seed (first + 1 + 1 + 1 + 1) count turn (omega arith) in
    omega (arith, turns_more seed first (suc (suc (suc count))) turn, turns_more seed (first + 1) (suc (suc count)) turn, turns_more seed (first + 1 + 1) (suc count) turn, turns_more seed (first + 1 + 1 + 1) count turn)

-- The code's way to count a thread's earlier writes.
pub before_is : (seed round : ℕ) → writes_before seed round ≡ round / 4
unfolding turns
before_is seed round = before (seed % 4) 0 round (thread_at seed round) (omega arith)

-- a session gets the event with this number
gets_event : ℕ → ℕ → Bool
gets_event session event = option_map_or (λ def. session_admits (config_of session) def) (definition_at sample event) false

-- The first session gets every event.
pub wide_gets : (seed round : ℕ) → gets (write_at seed round) WIDE ≡ true
unfolding gets_event sample
wide_gets seed round =
    agree_below_at (gets_event WIDE) (λ event. nat_lt 0 event) 9 (write_at seed round).event refl (omega arith)
    ∙ lt-ltb 0 (write_at seed round).event (omega arith)

-- The second one gets the sixth alone.
pub narrow_gets : (seed round : ℕ) → gets (write_at seed round) NARROW ≡ ((write_at seed round).event == 6)
unfolding gets_event sample
narrow_gets seed round = agree_below_at (gets_event NARROW) (λ event. event == 6) 9 (write_at seed round).event refl (omega arith)

-- So both get the sixth event.
pub both_get : (seed round : ℕ) → (write_at seed round).event ≡ 6 → filter (gets (write_at seed round)) sessions ≡ WIDE ∷ NARROW ∷ []
both_get seed round is = rw (wide_gets seed round, narrow_gets seed round, eq-eqb (write_at seed round).event 6 is) refl

-- The first one alone gets each other.
pub one_gets : (seed round : ℕ) → (write_at seed round).event ≢ 6 → filter (gets (write_at seed round)) sessions ≡ WIDE ∷ []
one_gets seed round off = rw (wide_gets seed round, narrow_gets seed round, ne_eqb (write_at seed round).event 6 off) refl
