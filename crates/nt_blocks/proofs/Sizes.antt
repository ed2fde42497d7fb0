-- How long stacks and their bodies are.
use Rattle.std.proofs.Common.{◌≡◌, ℕ, zero, suc, ◌^◌, ◌<◌, ◌≤◌, List, [], ◌∷◌, ◌++◌, length, get_or, refl, arith, length-append}
use Rattle.std.proofs.lemmas.List.{take_at}
use Rattle.std.specs.List.{flat_map}
use Rattle.std.specs.Int.{w32}
use Rattle.pt_num.specs.Numbers.{fixed}
use Rattle.nt_blocks.specs.Bodies.{stack_bytes, stack_body}
use Rattle.pt_num.specs.Begins.{Keeps}
use Rattle.pt_num.proofs.Kept.{Keeps-trans}

-- A stack is no longer than all of them.
stack-small : (stacks : List (List ℕ)) (place : ℕ) (other : List ℕ) → place < length stacks → length (get_or stacks place other) ≤ length (flat_map stack_bytes stacks)
stack-small [] place other within = absurd (omega arith)
stack-small (stack ∷ stacks) zero other within =
    omega (arith, length-append (stack_bytes stack) (flat_map stack_bytes stacks), length-append (fixed w32 (length stack)) stack)
stack-small (stack ∷ stacks) (suc place) other within =
    omega (arith, length-append (stack_bytes stack) (flat_map stack_bytes stacks), stack-small stacks place other (omega arith))

-- Nor than their body.
pub stack-fits : (first : ℕ) (stacks : List (List ℕ)) (place : ℕ) (other : List ℕ) → place < length stacks → length (stack_body first stacks) < 2 ^ 31 → length (get_or stacks place other) < 2 ^ 31
stack-fits first stacks place other within small =
    omega (arith, stack-small stacks place other within, length-append (fixed w32 first ++ fixed w32 (length stacks)) (flat_map stack_bytes stacks), small)

-- What is appended in three pieces keeps the rest.
pub keeps_three : (old o1 o2 now x y z : List ℕ) → o1 ≡ old ++ x → o2 ≡ o1 ++ y → now ≡ o2 ++ z → Keeps old now
keeps_three old o1 o2 now x y z e1 e2 e3 =
    Keeps-trans old o1 now (rw e1 (take_at old x (length old) refl))
    (Keeps-trans o1 o2 now (rw e2 (take_at o1 y (length o1) refl)) (rw e3 (take_at o2 z (length o2) refl)))
