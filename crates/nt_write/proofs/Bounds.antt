-- The bounds of the stacks since the last point.
use Rattle.std.proofs.Common.{◌≡◌, ℕ, ◌+◌, ◌≤◌, List, [], ◌∷◌, ◌++◌, length, ap, sym, ◌∙◌, arith, length-append}
use Rattle.nt_blocks.specs.declared.limits.TheConstants.{WRITTEN_BYTES}
use Rattle.nt_blocks.specs.Bodies.{stack_body}
use Rattle.nt_write.specs.Value.{AreBounded}
use Rattle.nt_write.proofs.BlockSteps.{stack_body-len-none, stack-len-more}

-- No stacks.
pub bounded-none : (known fresh : List (List ℕ)) → known ≡ [] → fresh ≡ [] → AreBounded known 0 1 fresh 8
bounded-none known fresh none empty =
    let known_len : length known ≡ 0 = ap (λ (ss : List (List ℕ)). length ss) none in
    let fresh_len : length fresh ≡ 0 = ap (λ (ss : List (List ℕ)). length ss) empty in
    record {
      some = omega arith;
      next = omega arith;
      few = record { few = omega arith; most = omega arith };
      size_is = sym (ap (λ (ss : List (List ℕ)). length (stack_body 1 ss)) empty ∙ stack_body-len-none 1);
      small = omega arith;
    }

-- The new stacks were written.
pub bounded-settled : (known : List (List ℕ)) (framed first size len : ℕ) (old fresh : List (List ℕ)) → AreBounded known framed first old size → len ≡ length old → fresh ≡ [] → AreBounded known framed (first + len) fresh 8
bounded-settled known framed first size len old fresh h len-is empty =
    let fresh_len : length fresh ≡ 0 = ap (λ (ss : List (List ℕ)). length ss) empty in
    record {
      some = omega (arith, h.some);
      next = omega (arith, h.next);
      few = h.few;
      size_is = sym (ap (λ (ss : List (List ℕ)). length (stack_body (first + len) ss)) empty ∙ stack_body-len-none (first + len));
      small = omega arith;
    }

-- One new stack more.
pub bounded-more : (known : List (List ℕ)) (framed first size : ℕ) (old fresh : List (List ℕ)) (stack : List ℕ) → AreBounded known framed first old size → fresh ≡ old ++ stack ∷ [] → first + length old ≤ length known → length (stack_body first old) + (4 + length stack) ≤ WRITTEN_BYTES → AreBounded known framed first fresh (size + (4 + length stack))
bounded-more known framed first size old fresh stack h is next room =
    let len : length fresh ≡ length old + 1 = ap (λ (ss : List (List ℕ)). length ss) is ∙ length-append old (stack ∷ []) in
    record {
      some = h.some;
      next = omega arith;
      few = h.few;
      size_is = ap (λ (n : ℕ). n + (4 + length stack)) h.size_is ∙ sym (ap (λ (ss : List (List ℕ)). length (stack_body first ss)) is ∙ stack-len-more first old stack);
      small = omega (arith, h.size_is, room);
    }
