-- What stacks, and threads, one after another are read as.
use Rattle.std.proofs.Common.{◌≡◌, ◌==◌, ℕ, suc, ◌+◌, ◌-◌, ◌<◌, ◌≤◌, Bool, Ok, Err, List, [], ◌∷◌, ◌++◌, length, drop, refl, sym, ap, ◌∙◌, append_assoc, eq-eqb, arith, length-drop}
use Rattle.std.proofs.lemmas.Bool.{ne_eqb}
use Rattle.std.proofs.lemmas.List.{append-nil}
use Rattle.ep_defs.specs.declared.item.Item.{Item}
use Rattle.ep_defs.specs.declared.item.ItemKind.TheVariants as item
use Rattle.nt_blocks.specs.Each.{One, each_at}
use Rattle.nt_blocks.specs.Refusals.{BadBlock, StackPlace, refusal, stack_at, stacks_at, thread_at, threads_at}
use Rattle.nt_blocks.specs.Taking.{Appends}
use Rattle.nt_blocks.specs.state.Taken.{ReadsStack, ReadsThread}
use Rattle.nt_blocks.proofs.TakeBlobs.{left-turns}
use Rattle.nt_blocks.proofs.Turns.{with_things, turn_first, turn_more, turn_stops, turn_ends}

-- ---- stacks

-- No stack is left.
abbrev pub no_stack : StackPlace → List ℕ → Bool
no_stack place bytes = place.left == 0

-- This many stacks are appended, and reading goes on here.
pub record GoingStacks (at first count : ℕ) (bytes : List ℕ) (old : List Item) (id left here : ℕ) (rest : List ℕ) (items : List Item) : Type 0 where
  pub more : ℕ
  pub found : List Item
  pub added : items ≡ old ++ found
  pub enough : length rest ≤ more
  pub ends : here + length rest ≡ 8 + length bytes
  pub all : id + left ≡ first + count
  pub read : each_at no_stack (stack_at at) (suc (length bytes)) (record { at = at + 8; id = first; left = count }) bytes
      ≡ with_things found (each_at no_stack (stack_at at) (suc more) (record { at = at + here; id = id; left = left }) rest)

-- Before the first stack nothing is appended.
pub stacks_start : (at first count : ℕ) (bytes : List ℕ) (old : List Item) → GoingStacks at first count bytes old first count 8 bytes old
stacks_start at first count bytes old =
    record {
      more = length bytes;
      found = [];
      added = sym (append-nil old);
      enough = omega arith;
      ends = omega arith;
      all = refl;
      read = turn_first _;
    }

-- A stack more is appended, and reading goes on after it.
pub stacks_step : (at first count id left later here : ℕ) (bytes : List ℕ) (old items new : List Item) (rest stack : List ℕ) → GoingStacks at first count bytes old id left here rest items → left ≡ later + 1 → ReadsStack rest stack → new ≡ items ++ record { at = at + here; kind = item.Stack id stack } ∷ [] → GoingStacks at first count bytes old (id + 1) later (here + (4 + length stack)) (drop (4 + length stack) rest) new
stacks_step at first count id left later here bytes old items new rest stack going one_less reads e =
    let turns = left-turns going.more (length (drop (4 + length stack) rest)) (omega (arith, length-drop (4 + length stack) rest, reads.within, going.enough)) in
    let one : One StackPlace Item = record {
      thing = record { at = at + here; kind = item.Stack id stack };
      state = record { at = at + here + (4 + length stack); id = id + 1; left = left - 1 };
      rest = drop (4 + length stack) rest;
    } in
    let next = turn_more no_stack (stack_at at) going.more (record { at = at + here; id = id; left = left }) rest _ going.found one going.read (ne_eqb left 0 (λ none. omega arith)) (reads.read at (record { at = at + here; id = id; left = left })) in
    let moved : at + here + (4 + length stack) ≡ at + (here + (4 + length stack)) = omega arith in
    let fewer : left - 1 ≡ later = omega arith in
    record {
      more = turns.0;
      found = going.found ++ record { at = at + here; kind = item.Stack id stack } ∷ [];
      added = e ∙ ap (λ (xs : List Item). xs ++ record { at = at + here; kind = item.Stack id stack } ∷ []) going.added ∙ append_assoc old going.found _;
      enough = turns.2;
      ends = omega (arith, length-drop (4 + length stack) rest, reads.within, going.ends);
      all = omega (arith, going.all);
      read = rw fewer at (rw moved at (rw turns.1 at next));
    }

-- Where no stack and no bytes are left all items are appended.
pub stacks_end : (at first count id left here : ℕ) (bytes : List ℕ) (old items : List Item) (rest : List ℕ) → GoingStacks at first count bytes old id left here rest items → left ≡ 0 → length rest ≡ 0 → Appends (stacks_at at (at + 8) first count bytes) old items
unfolding stacks_at
stacks_end at first count id left here bytes old items rest going last none =
    let all = turn_ends no_stack (stack_at at) going.more (record { at = at + here; id = id; left = left }) rest _ going.found going.read (eq-eqb left 0 last) in
    record { found = going.found; reads = rw (all, eq-eqb (length rest) 0 none); added = going.added }

-- Bytes that are left over are refused.
pub stacks_over : (at first count id left here : ℕ) (bytes : List ℕ) (old items : List Item) (rest : List ℕ) → GoingStacks at first count bytes old id left here rest items → left ≡ 0 → 0 < length rest → stacks_at at (at + 8) first count bytes ≡ Err (refusal at BadBlock)
unfolding stacks_at
stacks_over at first count id left here bytes old items rest going last some =
    let all = turn_ends no_stack (stack_at at) going.more (record { at = at + here; id = id; left = left }) rest _ going.found going.read (eq-eqb left 0 last) in
    rw (all, ne_eqb (length rest) 0 (λ none. omega arith))

-- A stack that is cut is refused.
pub stacks_stop : (at first count id left here : ℕ) (bytes : List ℕ) (old items : List Item) (rest : List ℕ) → GoingStacks at first count bytes old id left here rest items → 0 < left → ((place : StackPlace) → stack_at at place rest ≡ Err (refusal at BadBlock)) → stacks_at at (at + 8) first count bytes ≡ Err (refusal at BadBlock)
unfolding stacks_at
stacks_stop at first count id left here bytes old items rest going some cut =
    rw (turn_stops no_stack (stack_at at) going.more (record { at = at + here; id = id; left = left }) rest _ going.found _ going.read (ne_eqb left 0 (λ none. omega arith)) (cut _))

-- ---- threads

-- No thread is left.
abbrev pub no_thread : ℕ → List ℕ → Bool
no_thread left bytes = left == 0

-- This many threads are read, and reading goes on here.
pub record GoingThreads (count : ℕ) (bytes : List ℕ) (left here : ℕ) (rest : List ℕ) (threads : List (ℕ × ℕ)) : Type 0 where
  pub more : ℕ
  pub enough : length rest ≤ more
  pub ends : here + length rest ≡ length bytes
  pub read : (at : ℕ) → each_at no_thread (thread_at at) (suc (length bytes)) count bytes
      ≡ with_things threads (each_at no_thread (thread_at at) (suc more) left rest)

-- A thread more is read, and reading goes on after it.
pub threads_step : (count left later here : ℕ) (bytes rest : List ℕ) (threads new : List (ℕ × ℕ)) (thread : ℕ × ℕ) → GoingThreads count bytes left here rest threads → left ≡ later + 1 → ReadsThread rest thread → new ≡ threads ++ thread ∷ [] → GoingThreads count bytes later (here + 12) (drop 12 rest) new
threads_step count left later here bytes rest threads new thread going one_less reads e =
    let turns = left-turns going.more (length (drop 12 rest)) (omega (arith, length-drop 12 rest, reads.within, going.enough)) in
    let one : One ℕ (ℕ × ℕ) = record { thing = thread; state = left - 1; rest = drop 12 rest } in
    let fewer : left - 1 ≡ later = omega arith in
    record {
      more = turns.0;
      enough = turns.2;
      ends = omega (arith, length-drop 12 rest, reads.within, going.ends);
      read = λ at. rw e (rw fewer at (rw turns.1 at (turn_more no_thread (thread_at at) going.more left rest _ threads one (going.read at) (ne_eqb left 0 (λ none. omega arith)) (reads.read at left))));
    }

-- Where no thread and no bytes are left all threads are read.
pub threads_end : (count left here : ℕ) (bytes rest : List ℕ) (threads : List (ℕ × ℕ)) → GoingThreads count bytes left here rest threads → left ≡ 0 → length rest ≡ 0 → (at : ℕ) → threads_at at count bytes ≡ Ok threads
unfolding threads_at
threads_end count left here bytes rest threads going last none at =
    let all = turn_ends no_thread (thread_at at) going.more left rest _ threads (going.read at) (eq-eqb left 0 last) in
    rw (all, eq-eqb (length rest) 0 none)

-- Bytes that are left over are refused.
pub threads_over : (count left here : ℕ) (bytes rest : List ℕ) (threads : List (ℕ × ℕ)) → GoingThreads count bytes left here rest threads → left ≡ 0 → 0 < length rest → (at : ℕ) → threads_at at count bytes ≡ Err (refusal at BadBlock)
unfolding threads_at
threads_over count left here bytes rest threads going last some at =
    let all = turn_ends no_thread (thread_at at) going.more left rest _ threads (going.read at) (eq-eqb left 0 last) in
    rw (all, ne_eqb (length rest) 0 (λ none. omega arith))

-- A thread that is cut is refused.
pub threads_stop : (count left here : ℕ) (bytes rest : List ℕ) (threads : List (ℕ × ℕ)) → GoingThreads count bytes left here rest threads → 0 < left → ((start left : ℕ) → thread_at start left rest ≡ Err (refusal start BadBlock)) → (at : ℕ) → threads_at at count bytes ≡ Err (refusal at BadBlock)
unfolding threads_at
threads_stop count left here bytes rest threads going some cut at =
    rw (turn_stops no_thread (thread_at at) going.more left rest _ threads _ (going.read at) (ne_eqb left 0 (λ none. omega arith)) (cut at left))
