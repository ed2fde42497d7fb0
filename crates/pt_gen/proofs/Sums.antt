-- The marks of a session that was opened on all threads sum up to what the session came to.
use Rattle.std.proofs.Common.{◌≡◌, ◌≤◌, ℕ, ◌+◌, true, length, map, refl, ap, ◌∙◌, arith}
use Rattle.std.specs.List.{sum_by}
use Rattle.ep_model.specs.Chunks.{refused, written}
use Rattle.ep_model.specs.History.{Past, admitted, opened}
use Rattle.ep_model.specs.Lawful.{was_opened}
use Rattle.ep_model.specs.Marks.{marks_of, marks_on}
use Rattle.pt_gen.specs.Schedule.{threads}
use Rattle.pt_load.specs.Sample.{sample}
use Rattle.pt_gen.specs.Summary.{counts_after}
use Rattle.pt_gen.specs.state.Counted.{counted}

-- What was written and what was refused of a thread are what was admitted.
abbrev pub AreWhole : ℕ → Past → Type 0
AreWhole session past =
    (thread : ℕ) → was_opened session thread past ≡ true
    → written session thread past + length (refused session thread past) ≡ length (admitted sample session thread past)

pub marks_sum_up : (session : ℕ) (past : Past) → opened session past ≡ threads → AreWhole session past
    → counted (marks_of session past) ≡ counts_after session past
marks_sum_up session past are whole =
    ap (λ ts. counted (map (λ t. marks_on session t past) ts)) are ∙ with_admitted
  where
    one : was_opened session 1 past ≡ true
    one = rw are refl

    two : was_opened session 2 past ≡ true
    two = rw are refl

    three : was_opened session 3 past ≡ true
    three = rw are refl

    four : was_opened session 4 past ≡ true
    four = rw are refl

    sums_are : sum_by (λ t. written session t past) threads + sum_by (λ t. length (refused session t past)) threads
        ≡ sum_by (λ t. length (admitted sample session t past)) threads
    sums_are = omega (arith, whole 1 one, whole 2 two, whole 3 three, whole 4 four)

    with_admitted : counted (map (λ t. marks_on session t past) threads) ≡ counts_after session past
    with_admitted = rw (← sums_are) refl

pub marks_are_few : (session : ℕ) (past : Past) → opened session past ≡ threads → length (marks_of session past) ≤ 4
marks_are_few session past are = rw are (omega arith)
