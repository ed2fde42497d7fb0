-- Bodies of stacks and of points that are put are bodies of the format.
use Rattle.std.proofs.Common.{◌≡◌, ℕ, ◌+◌, ◌^◌, ◌<◌, ◌≤◌, Result, Ok, Err, List, [], ◌∷◌, ◌++◌, length, refl, subst, arith, length-append}
use Rattle.std.specs.Int.{w32}
use Rattle.std.specs.List.{AllByRecursion, flat_map}
use Rattle.std.specs.Result.{OnOk}
use Rattle.ep_defs.specs.Ranges.{AreBytes}
use Rattle.ep_defs.specs.declared.item.ItemKind.TheVariants as item
use Rattle.nt_meta.proofs.Spelled.{low-after}
use Rattle.nt_meta.proofs.Payloads.{bytes-of, low-of}
use Rattle.pt_num.specs.Numbers.{fixed}
use Rattle.nt_blocks.specs.declared.limits.TheConstants.{LAST_COUNT, POINT_THREADS}
use Rattle.nt_blocks.specs.Bodies.{IsPointBody, IsStackBody, point_body, stack_body, stack_bytes, stack_items}

-- What follows on success, from two facts.
pub on_ok : {A E : Type 0} (r : Result A E) {P Q R : Type 0} → (P → Q → R) → OnOk r P → OnOk r Q → OnOk r R
on_ok (Ok a) f p q = f p q
on_ok (Err e) f p q = tt

-- What follows from three facts.
pub on_ok-three : {A E : Type 0} (r : Result A E) {P Q R S : Type 0} → (P → Q → R → S) → OnOk r P → OnOk r Q → OnOk r R → OnOk r S
on_ok-three (Ok a) f p q r = f p q r
on_ok-three (Err e) f p q r = tt

-- What is put after bytes that fit their type fits it too.
bytes-behind : (before more now : List ℕ) → AreBytes now → now ≡ before ++ more → AreBytes more
bytes-behind before more now fit e = bytes-of more (low-after before more (low-of (before ++ more) (subst AreBytes e fit)))

-- Each stack is shorter than the body.
sizes-fit : (stacks : List (List ℕ)) → length (flat_map stack_bytes stacks) < 2 ^ 31 → AllByRecursion (λ stack. length stack < 2 ^ 32) stacks
sizes-fit [] small = tt
sizes-fit (stack ∷ stacks) small =
    let both = length-append (stack_bytes stack) (flat_map stack_bytes stacks) in (
      omega (arith, both, length-append (fixed w32 (length stack)) stack, small),
      sizes-fit stacks (omega (arith, both, small)),
    )

-- Stacks.
pub stacks-put : (at first : ℕ) (stacks : List (List ℕ)) (before now : List ℕ) → first + length stacks ≤ LAST_COUNT → length (stack_body first stacks) < 2 ^ 31 → AreBytes now → now ≡ before ++ stack_body first stacks → IsStackBody at (stack_items (at + 8) first stacks) (stack_body first stacks)
stacks-put at first stacks before now few small fit e =
    let all = length-append (fixed w32 first ++ fixed w32 (length stacks)) (flat_map stack_bytes stacks) in
    record {
      first = first;
      stacks = stacks;
      spelled = refl;
      first_fits = omega (arith, few);
      count_fits = omega (arith, few);
      sizes_fit = sizes-fit stacks (omega (arith, all, small));
      hold = refl;
      bytes_fit = bytes-behind before (stack_body first stacks) now fit e;
    }

-- A point.
pub point-put : (at stamp : ℕ) (threads : List (ℕ × ℕ)) (before now : List ℕ) → stamp < 2 ^ 64 → length threads ≤ POINT_THREADS → AreBytes now → now ≡ before ++ point_body stamp threads → AllByRecursion (λ thread. (thread.0 < 2 ^ 64) × (thread.1 < 2 ^ 32)) threads → IsPointBody at (record { at = at; kind = item.Point stamp threads } ∷ []) (point_body stamp threads)
point-put at stamp threads before now stamped few fit e threads_fit =
    record {
      stamp = stamp;
      threads = threads;
      spelled = refl;
      stamp_fits = stamped;
      count_fits = omega (arith, few);
      threads_fit = threads_fit;
      hold = refl;
      bytes_fit = bytes-behind before (point_body stamp threads) now fit e;
    }
