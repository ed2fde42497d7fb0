-- How many steps a schedule has.
use Rattle.std.proofs.Common.{◌≡◌, ℕ, zero, suc, ◌+◌, ◌*◌, ◌≤◌, ◌%◌, Bool, true, false, cond, List, [], ◌∷◌, ◌++◌, length, map, length-append, refl, arith}
use Rattle.std.specs.Prelude.{◌==◌}
use Rattle.std.specs.List.{flat_map, range_with_len}
use Rattle.ep_defs.specs.declared.session.Write.{Write}
use Rattle.ep_model.specs.declared.step.Step.{Step}
use Rattle.ep_model.specs.declared.step.Step.TheVariants as step
use Rattle.pt_gen.specs.declared.limits.TheConstants.{NARROW, SWEEP_ROUNDS, WIDE}
use Rattle.pt_gen.specs.Schedule.{closing, generated, gets, made, opening, round_at, sweep, thread_at, write_at}

-- At most two sessions are shown a write.
shows_are_few : (thread : ℕ) (first second : Bool)
    → length (map (λ s. step.Show thread s) (cond first (WIDE ∷ cond second (NARROW ∷ []) []) (cond second (NARROW ∷ []) []))) ≤ 2
shows_are_few thread true true = omega arith
shows_are_few thread true false = omega arith
shows_are_few thread false true = omega arith
shows_are_few thread false false = omega arith

made_is_short : (thread stamp : ℕ) (write : Write) → length (made thread stamp write) ≤ 4
made_is_short thread stamp write =
    let shown : List Step = map (λ s. step.Show thread s) (cond (gets write WIDE) (WIDE ∷ cond (gets write NARROW) (NARROW ∷ []) []) (cond (gets write NARROW) (NARROW ∷ []) [])) in
    let few : length shown ≤ 2 = shows_are_few thread (gets write WIDE) (gets write NARROW) in
    let count : length (made thread stamp write) ≡ suc (length (shown ++ step.End thread ∷ [])) = refl in
    omega (arith, few, count, length-append shown (step.End thread ∷ []))

sweep_if_short : (rounds : ℕ) (due : Bool) → length (cond due (sweep rounds) []) ≤ 18
sweep_if_short rounds true = omega arith
sweep_if_short rounds false = omega arith

rounds_are_short : (seed first count : ℕ) → length (flat_map (round_at seed) (range_with_len first count)) ≤ 22 * count
rounds_are_short seed first zero = omega arith
rounds_are_short seed first (suc count) =
    let write = made (thread_at seed first) first (write_at seed first) in
    let swept = cond ((first + 1) % SWEEP_ROUNDS == 0) (sweep (first + 1)) [] in
    let later = flat_map (round_at seed) (range_with_len (first + 1) count) in
    omega (
      arith,
      made_is_short (thread_at seed first) first (write_at seed first),
      sweep_if_short (first + 1) ((first + 1) % SWEEP_ROUNDS == 0),
      rounds_are_short seed (first + 1) count,
      length-append (write ++ swept) later,
      length-append write swept,
    )

pub generated_is_short : (seed rounds : ℕ) → length (generated seed rounds) ≤ 28 + 22 * rounds
unfolding generated
generated_is_short seed rounds =
    let all = flat_map (round_at seed) (range_with_len 0 rounds) in
    let before : length (opening ++ all) ≡ 10 + length all = length-append opening all in
    let behind : length (closing rounds) ≡ 18 = refl in
    omega (arith, rounds_are_short seed 0 rounds, before, behind, length-append (opening ++ all) (closing rounds))
