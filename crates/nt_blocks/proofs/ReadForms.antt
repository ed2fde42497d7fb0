-- What is read in a body is what it holds.
use Rattle.std.proofs.Common.{◌≡◌, ◌==◌, ℕ, zero, suc, ◌+◌, ◌-◌, ◌%◌, ◌^◌, ◌<◌, ◌≤◌, Bool, true, false, inl, inr, Result, Ok, Err, List, [], ◌∷◌, ◌++◌, length, take, drop, get_or, refl, sym, ap, subst, ◌∙◌, append_assoc, arith, length-append, length-drop}
use Rattle.std.specs.Prelude.{◌&&◌, nat_le}
use Rattle.std.specs.Int.{Width, w16, w32, w64, byte_len}
use Rattle.std.specs.List.{AllByRecursion, concat, flat_map}
use Rattle.std.proofs.lemmas.Bool.{cases_Bool, cases_lt, lt-ltb, le-ltb, ltb-true, leb-true, eqb-true, eqb-false, and_parts}
use Rattle.std.proofs.lemmas.List.{append-nil, nil_from_length, take-append-drop, length-take-le}
use Rattle.ep_defs.specs.Ranges.{AreBytes}
use Rattle.ep_defs.specs.declared.event.EventDef.{EventDef}
use Rattle.ep_defs.specs.declared.item.Item.{Item}
use Rattle.ep_defs.specs.declared.item.ItemKind.{ItemKind}
use Rattle.ep_defs.specs.declared.item.ItemKind.TheVariants as item
use Rattle.byteorder.specs.Endian.{little_number}
use Rattle.byteorder.specs.Numbers.{little_from-lt}
use Rattle.pt_num.specs.Steps.{check, or_else_fault}
use Rattle.pt_num.specs.Numbers.{fixed}
use Rattle.pt_num.specs.Begins.{Begins}
use Rattle.pt_num.specs.Fields.{Short, bytes_at, fixed_at}
use Rattle.pt_num.proofs.FixedForms.{fixed_16, fixed_32, fixed_64}
use Rattle.pt_num.proofs.Lengths.{length-fixed16, length-fixed64, length-fixed32}
use Rattle.pt_num.proofs.Steps.{bind_inv, ok-same}
use Rattle.pt_num.proofs.Fronts.{fixed_enough, number_within}
use Rattle.nt_meta.specs.Meta.{IsMeta}
use Rattle.nt_meta.specs.Reading.{meta_at}
use Rattle.nt_meta.proofs.Spelled.{AreLow, low-after, low-drop}
use Rattle.nt_meta.proofs.Payloads.{low-of}
use Rattle.nt_object.specs.declared.object.BlockKind.{BlockKind}
use Rattle.nt_object.specs.declared.object.BlockKind.TheVariants as block
use Rattle.nt_head.specs.declared.head.HeadState.{HeadState}
use Rattle.nt_head.specs.Head.{IsHead, zero_state}
use Rattle.nt_head.specs.Reading.{head_at}
use Rattle.nt_blocks.specs.declared.limits.TheConstants.{HEADER_BYTES, LAST_COUNT}
use Rattle.nt_blocks.specs.Bodies.{AreChained, AreItems, Blob, HoldsEvent, HoldsMeta, IsBlobBody, IsPointBody, IsStackBody, blob_bytes, stack_bytes, stack_items, thread_bytes}
use Rattle.nt_blocks.specs.Each.{One, Many, each_at, with_thing}
use Rattle.nt_blocks.specs.Refusals.{BadMeta, BlobPlace, StackPlace, at_end, blob_at, blob_body_at, header_at, held_at, may_head, point_body_at, refusal, stack_at, stack_body_at, stacks_at, thread_at, threads_at}
use Rattle.nt_blocks.proofs.ReadBack.{drop-behind, two-fixed}
use Rattle.nt_blocks.proofs.Shorter.{head-left}
use Rattle.nt_blocks.proofs.TakeLists.{no_stack, no_thread}
use Rattle.nt_blocks.proofs.Turns.{each_at-end, each_at-goes}

-- ---- parts

-- Headers that are read are headers.
pub record HeadForms : Type 0 where
  pub head : (before now : HeadState) (bytes rest : List ℕ) → AreLow bytes → head_at before bytes ≡ Ok (now, rest) → Begins (IsHead before now) bytes rest

-- Definitions that are read are payloads.
pub record MetaForms : Type 0 where
  pub meta : (bytes : List ℕ) (id : ℕ) (def : EventDef) → AreBytes bytes → meta_at bytes ≡ Ok (id, def) → IsMeta id def bytes

-- A test that is passed.
check-inv : {E : Type 0} (test : Bool) (fault : E) (x : Unit {0}) → check test fault ≡ Ok x → test ≡ true
check-inv true fault x e = refl
check-inv false fault x e = absurd (cc)

or_else-inv : {E F A : Type 0} (read : Result A E) (fault : F) (x : A) → or_else_fault read fault ≡ Ok x → read ≡ Ok x
or_else-inv (Ok y) fault x e = ap (λ z. Ok z) (ok-same y x e)
or_else-inv (Err why) fault x e = absurd (cc)

with_thing-inv : {S A E : Type 0} (thing : A) (read : Result (Many S A) E) (many : Many S A) → with_thing thing read ≡ Ok many → (later : Many S A) × (read ≡ Ok later) × (many.things ≡ thing ∷ later.things) × (many.rest ≡ later.rest)
with_thing-inv thing (Ok later) many e =
    let same = ok-same _ many e in (later, refl, sym (ap (λ m. m.things) same), sym (ap (λ m. m.rest) same))
with_thing-inv thing (Err fault) many e = absurd (cc)

-- A number is its bytes at the front.
fixed-inv : (w : Width) (bytes rest : List ℕ) (n : ℕ) → fixed_at w bytes ≡ Ok (n, rest) → (n ≡ little_number (byte_len w) bytes) × (rest ≡ drop (byte_len w) bytes) × (byte_len w ≤ length bytes)
fixed-inv w bytes rest n e =
    let within = number_within w bytes rest n e in
    let found = fixed_enough w bytes within in
    let same = ok-same _ _ (sym e ∙ found) in (ap (λ (p : ℕ × List ℕ). p.0) same, ap (λ (p : ℕ × List ℕ). p.1) same, within)

-- The bytes of a number, and that it fits.
record IsNumber (w : Width) (most : ℕ) (bytes rest : List ℕ) (n : ℕ) : Type 0 where
  spelled : bytes ≡ fixed w n ++ rest
  fits : n < most

joined : (k n : ℕ) (w : Width) (bytes rest : List ℕ) → fixed w n ≡ take k bytes → rest ≡ drop k bytes → bytes ≡ fixed w n ++ rest
joined k n w bytes rest front back =
    sym (take-append-drop k bytes) ∙ ap (λ (f : List ℕ). f ++ drop k bytes) (sym front) ∙ ap (λ (b : List ℕ). fixed w n ++ b) (sym back)

form16 : (bytes rest : List ℕ) (n : ℕ) → AreLow bytes → fixed_at w16 bytes ≡ Ok (n, rest) → IsNumber w16 (2 ^ 16) bytes rest n
form16 bytes rest n low e =
    let is = fixed-inv w16 bytes rest n e in
    record {
      spelled = joined 2 n w16 bytes rest (ap (fixed w16) is.0 ∙ fixed_16 bytes is.2 low) is.1;
      fits = subst (λ (m : ℕ). m < 2 ^ 16) (sym is.0) (little_from-lt 0 2 bytes low);
    }

form32 : (bytes rest : List ℕ) (n : ℕ) → AreLow bytes → fixed_at w32 bytes ≡ Ok (n, rest) → IsNumber w32 (2 ^ 32) bytes rest n
form32 bytes rest n low e =
    let is = fixed-inv w32 bytes rest n e in
    record {
      spelled = joined 4 n w32 bytes rest (ap (fixed w32) is.0 ∙ fixed_32 bytes is.2 low) is.1;
      fits = subst (λ (m : ℕ). m < 2 ^ 32) (sym is.0) (little_from-lt 0 4 bytes low);
    }

form64 : (bytes rest : List ℕ) (n : ℕ) → AreLow bytes → fixed_at w64 bytes ≡ Ok (n, rest) → IsNumber w64 (2 ^ 64) bytes rest n
form64 bytes rest n low e =
    let is = fixed-inv w64 bytes rest n e in
    record {
      spelled = joined 8 n w64 bytes rest (ap (fixed w64) is.0 ∙ fixed_64 bytes is.2 low) is.1;
      fits = subst (λ (m : ℕ). m < 2 ^ 64) (sym is.0) (little_from-lt 0 8 bytes low);
    }

-- The bytes behind a piece are bytes too.
low-behind : (bytes front rest : List ℕ) → bytes ≡ front ++ rest → AreLow bytes → AreLow rest
low-behind bytes front rest e low = low-after front rest (subst AreLow e low)

low-cons : (b : ℕ) (xs : List ℕ) → b < 256 → AreLow xs → (i : ℕ) → get_or (b ∷ xs) i 0 < 256
low-cons b xs first low zero = first
low-cons b xs first low (suc i) = low i

low-front : (front rest : List ℕ) → AreLow (front ++ rest) → AreLow front
low-front [] rest low = λ i. omega arith
low-front (b ∷ front) rest low = low-cons b front (low 0) (low-front front rest (λ i. low (suc i)))

-- So many bytes.
bytes-inv : (n : ℕ) (bytes rest xs : List ℕ) → bytes_at n bytes ≡ Ok (xs, rest) → (bytes ≡ xs ++ rest) × (length xs ≡ n)
bytes-inv n bytes rest xs e = elim (cases_lt (length bytes) n) [
  | inl short ↦
      let none : bytes_at n bytes ≡ Err Short = rw (lt-ltb (length bytes) n short) in absurd (cc)
  | inr long ↦
      let found : bytes_at n bytes ≡ Ok (take n bytes, drop n bytes) = rw (le-ltb (length bytes) n long) in
      let same = ok-same _ _ (sym e ∙ found) in
      let front = ap (λ (p : List ℕ × List ℕ). p.0) same in
      let back = ap (λ (p : List ℕ × List ℕ). p.1) same in (
        sym (take-append-drop n bytes) ∙ ap (λ (f : List ℕ). f ++ drop n bytes) (sym front) ∙ ap (λ (b : List ℕ). xs ++ b) (sym back),
        ap length front ∙ length-take-le n bytes long,
      )
]

all-at : (xs : List ℕ) (k d : ℕ) → AreLow xs → k < length xs → get_or xs k d < 2 ^ 8
all-at [] k d low within = absurd (omega arith)
all-at (b ∷ xs) zero d low within = low 0
all-at (b ∷ xs) (suc k) d low within = all-at xs k d (λ i. low (suc i)) (omega arith)

all-of : (xs : List ℕ) → AreLow xs → AreBytes xs
all-of xs low = λ k d within. all-at xs k d low within

-- ---- stacks

-- A stack that was read.
record StackRead (place : StackPlace) (bytes : List ℕ) (one : One StackPlace Item) : Type 0 where
  stack : List ℕ
  spelled : bytes ≡ stack_bytes stack ++ one.rest
  fits : length stack < 2 ^ 32
  thing : one.thing ≡ record { at = place.at; kind = item.Stack place.id stack }
  at : one.state.at ≡ place.at + length (stack_bytes stack)
  id : one.state.id ≡ place.id + 1
  left : one.state.left ≡ place.left - 1

stack-spelled : (n : ℕ) (bytes behind stack rest : List ℕ) → bytes ≡ fixed w32 n ++ behind → behind ≡ stack ++ rest → length stack ≡ n → bytes ≡ stack_bytes stack ++ rest
stack-spelled n bytes behind stack rest e there len =
    e ∙ rw (there, ← len) (sym (append_assoc (fixed w32 (length stack)) stack rest))

stack-form : (start : ℕ) (place : StackPlace) (bytes : List ℕ) (one : One StackPlace Item) → AreLow bytes → stack_at start place bytes ≡ Ok one → StackRead place bytes one
unfolding stack_at
stack-form start place bytes one low e =
    let size = bind_inv (or_else_fault (fixed_at w32 bytes) _) _ one e in
    let sized = form32 bytes size.0.1 size.0.0 low (or_else-inv (fixed_at w32 bytes) _ size.0 size.1) in
    let stack = bind_inv (or_else_fault (bytes_at size.0.0 size.0.1) _) _ one size.2 in
    let there = bytes-inv size.0.0 size.0.1 stack.0.1 stack.0.0 (or_else-inv (bytes_at size.0.0 size.0.1) _ stack.0 stack.1) in
    let same = ok-same _ one stack.2 in
    let rest : stack.0.1 ≡ one.rest = ap (λ (o : One StackPlace Item). o.rest) same in
    let spelled : bytes ≡ stack_bytes stack.0.0 ++ stack.0.1 = stack-spelled size.0.0 bytes size.0.1 stack.0.0 stack.0.1 sized.spelled there.0 there.1 in
    let ends : place.at + (length bytes - length stack.0.1) ≡ place.at + length (stack_bytes stack.0.0) =
    omega (arith, ap length spelled, length-append (stack_bytes stack.0.0) stack.0.1) in
    record {
      stack = stack.0.0;
      spelled = spelled ∙ ap (λ (r : List ℕ). stack_bytes stack.0.0 ++ r) rest;
      fits = omega (arith, sized.fits, there.1);
      thing = sym (ap (λ (o : One StackPlace Item). o.thing) same);
      at = sym (ap (λ (o : One StackPlace Item). o.state.at) same) ∙ ends;
      id = sym (ap (λ (o : One StackPlace Item). o.state.id) same);
      left = sym (ap (λ (o : One StackPlace Item). o.state.left) same);
    }

-- Stacks that were read.
record StacksRead (at id left : ℕ) (bytes : List ℕ) (many : Many StackPlace Item) : Type 0 where
  stacks : List (List ℕ)
  spelled : bytes ≡ flat_map stack_bytes stacks ++ many.rest
  count : length stacks ≡ left
  things : many.things ≡ stack_items at id stacks
  sizes : AllByRecursion (λ stack. length stack < 2 ^ 32) stacks

stack-shorter : (stack rest bytes : List ℕ) → bytes ≡ stack_bytes stack ++ rest → length rest < length bytes
stack-shorter stack rest bytes e =
    omega (arith, ap length e, length-append (stack_bytes stack) rest, length-append (fixed w32 (length stack)) stack, length-fixed32 (length stack))

same-items : (a b i j : ℕ) (stacks : List (List ℕ)) → a ≡ b → i ≡ j → stack_items a i stacks ≡ stack_items b j stacks
same-items a b i j stacks e f = rw (e, f)

stacks-more : (place : StackPlace) (bytes : List ℕ) (one : One StackPlace Item) (later many : Many StackPlace Item) → (place.left ≡ 0 → ⊥) → StackRead place bytes one → StacksRead one.state.at one.state.id one.state.left one.rest later → many.things ≡ one.thing ∷ later.things → many.rest ≡ later.rest → StacksRead place.at place.id place.left bytes many
stacks-more place bytes one later many some read others things rest =
    let first : Item = record { at = place.at; kind = item.Stack place.id read.stack } in
    record {
      stacks = read.stack ∷ others.stacks;
      spelled =
          read.spelled
          ∙ ap (λ (r : List ℕ). stack_bytes read.stack ++ r) (others.spelled ∙ ap (λ (r : List ℕ). flat_map stack_bytes others.stacks ++ r) (sym rest))
          ∙ sym (append_assoc (stack_bytes read.stack) (flat_map stack_bytes others.stacks) many.rest);
      count = omega (arith, others.count, read.left);
      things =
          things
          ∙ ap (λ (t : Item). t ∷ later.things) read.thing
          ∙ ap (λ (xs : List Item). first ∷ xs) (others.things ∙ same-items one.state.at (place.at + length (stack_bytes read.stack)) one.state.id (place.id + 1) others.stacks read.at read.id);
      sizes = (read.fits, others.sizes);
    }

stacks-form : (start : ℕ) (place : StackPlace) (more : ℕ) (bytes : List ℕ) (many : Many StackPlace Item) → AreLow bytes → length bytes < more → each_at no_stack (stack_at start) more place bytes ≡ Ok many → StacksRead place.at place.id place.left bytes many
stacks-form start place zero bytes many low few e = absurd (omega arith)
stacks-form start place (suc more) bytes many low few e = elim (cases_Bool (place.left == 0)) [
  | inl ends ↦
      let same = ok-same _ many (sym (each_at-end no_stack (stack_at start) more place bytes ends) ∙ e) in
      record {
        stacks = [];
        spelled = ap (λ (m : Many StackPlace Item). m.rest) same;
        count = sym (eqb-true place.left 0 ends);
        things = sym (ap (λ (m : Many StackPlace Item). m.things) same);
        sizes = tt;
      }
  | inr goes ↦
      let one = bind_inv (stack_at start place bytes) _ many (sym (each_at-goes no_stack (stack_at start) more place bytes goes) ∙ e) in
      let read = stack-form start place bytes one.0 low one.1 in
      let later = with_thing-inv one.0.thing (each_at no_stack (stack_at start) more one.0.state one.0.rest) many one.2 in
      let others = stacks-form start one.0.state more one.0.rest later.0 (low-behind bytes (stack_bytes read.stack) one.0.rest read.spelled low) (omega (arith, stack-shorter read.stack one.0.rest bytes read.spelled)) later.1 in
      stacks-more place bytes one.0 later.0 many (eqb-false place.left 0 goes) read others later.2 later.3
]

-- What is read in a body of stacks.
pub stack_body-form : (at : ℕ) (items : List Item) (bytes : List ℕ) → AreBytes bytes → stack_body_at at bytes ≡ Ok items → IsStackBody at items bytes
unfolding stack_body_at stacks_at
stack_body-form at items bytes fit e =
    let low = low-of bytes fit in
    let first = bind_inv (or_else_fault (fixed_at w32 bytes) _) _ items e in
    let numbered = form32 bytes first.0.1 first.0.0 low (or_else-inv (fixed_at w32 bytes) _ first.0 first.1) in
    let low1 = low-behind bytes (fixed w32 first.0.0) first.0.1 numbered.spelled low in
    let count = bind_inv (or_else_fault (fixed_at w32 first.0.1) _) _ items first.2 in
    let counted = form32 first.0.1 count.0.1 count.0.0 low1 (or_else-inv (fixed_at w32 first.0.1) _ count.0 count.1) in
    let low2 = low-behind first.0.1 (fixed w32 count.0.0) count.0.1 counted.spelled low1 in
    let fits = bind_inv (check (nat_le first.0.0 LAST_COUNT && nat_le count.0.0 LAST_COUNT) _) _ items count.2 in
    let both = and_parts (nat_le first.0.0 LAST_COUNT) (nat_le count.0.0 LAST_COUNT) (check-inv _ _ fits.0 fits.1) in
    let start : StackPlace = record { at = at + 8; id = first.0.0; left = count.0.0 } in
    let many = bind_inv (each_at no_stack (stack_at at) (suc (length count.0.1)) start count.0.1) _ items fits.2 in
    let ended = bind_inv (check (length many.0.rest == 0) _) _ items many.2 in
    let none = nil_from_length many.0.rest (eqb-true _ 0 (check-inv _ _ ended.0 ended.1)) in
    let read = stacks-form at start (suc (length count.0.1)) count.0.1 many.0 low2 (omega arith) many.1 in
    let flat = flat_map stack_bytes read.stacks in
    let spelled : bytes ≡ fixed w32 first.0.0 ++ (fixed w32 (length read.stacks) ++ flat) =
    numbered.spelled ∙ ap (λ (r : List ℕ). fixed w32 first.0.0 ++ r) (counted.spelled ∙ ap (λ (r : List ℕ). fixed w32 count.0.0 ++ r) (read.spelled ∙ ap (λ (r : List ℕ). flat ++ r) none ∙ append-nil flat) ∙ ap (λ (n : ℕ). fixed w32 n ++ flat) (sym read.count)) in
    record {
      first = first.0.0;
      stacks = read.stacks;
      spelled = spelled ∙ sym (append_assoc (fixed w32 first.0.0) (fixed w32 (length read.stacks)) flat);
      first_fits = omega (arith, leb-true first.0.0 LAST_COUNT both.0);
      count_fits = omega (arith, leb-true count.0.0 LAST_COUNT both.1, read.count);
      sizes_fit = read.sizes;
      hold = sym (ok-same many.0.things items ended.2) ∙ read.things;
      bytes_fit = fit;
    }

-- ---- points

-- A thread that was read.
record ThreadRead (left : ℕ) (bytes : List ℕ) (one : One ℕ (ℕ × ℕ)) : Type 0 where
  spelled : bytes ≡ thread_bytes one.thing ++ one.rest
  thread_fits : one.thing.0 < 2 ^ 64
  number_fits : one.thing.1 < 2 ^ 32
  left_after : one.state ≡ left - 1

thread-spelled : (name value : ℕ) (bytes behind end : List ℕ) (thread : ℕ × ℕ) (rest : List ℕ) → bytes ≡ fixed w64 name ++ behind → behind ≡ fixed w32 value ++ end → name ≡ thread.0 → value ≡ thread.1 → end ≡ rest → bytes ≡ thread_bytes thread ++ rest
thread-spelled name value bytes behind end thread rest e f same equal ends =
    e ∙ rw (f, same, equal, ends) (sym (append_assoc (fixed w64 thread.0) (fixed w32 thread.1) rest))

thread-form : (start left : ℕ) (bytes : List ℕ) (one : One ℕ (ℕ × ℕ)) → AreLow bytes → thread_at start left bytes ≡ Ok one → ThreadRead left bytes one
unfolding thread_at
thread-form start left bytes one low e =
    let thread = bind_inv (or_else_fault (fixed_at w64 bytes) _) _ one e in
    let named = form64 bytes thread.0.1 thread.0.0 low (or_else-inv (fixed_at w64 bytes) _ thread.0 thread.1) in
    let low1 = low-behind bytes (fixed w64 thread.0.0) thread.0.1 named.spelled low in
    let number = bind_inv (or_else_fault (fixed_at w32 thread.0.1) _) _ one thread.2 in
    let numbered = form32 thread.0.1 number.0.1 number.0.0 low1 (or_else-inv (fixed_at w32 thread.0.1) _ number.0 number.1) in
    let same = ok-same _ one number.2 in
    let name : thread.0.0 ≡ one.thing.0 = ap (λ (o : One ℕ (ℕ × ℕ)). o.thing.0) same in
    let value : number.0.0 ≡ one.thing.1 = ap (λ (o : One ℕ (ℕ × ℕ)). o.thing.1) same in
    let rest : number.0.1 ≡ one.rest = ap (λ (o : One ℕ (ℕ × ℕ)). o.rest) same in
    record {
      spelled = thread-spelled thread.0.0 number.0.0 bytes thread.0.1 number.0.1 one.thing one.rest named.spelled numbered.spelled name value rest;
      thread_fits = omega (arith, named.fits, name);
      number_fits = omega (arith, numbered.fits, value);
      left_after = sym (ap (λ (o : One ℕ (ℕ × ℕ)). o.state) same);
    }

-- Threads that were read.
record ThreadsRead (left : ℕ) (bytes : List ℕ) (many : Many ℕ (ℕ × ℕ)) : Type 0 where
  spelled : bytes ≡ flat_map thread_bytes many.things ++ many.rest
  count : length many.things ≡ left
  fit : AllByRecursion (λ thread. (thread.0 < 2 ^ 64) × (thread.1 < 2 ^ 32)) many.things

thread-shorter : (thread : ℕ × ℕ) (rest bytes : List ℕ) → bytes ≡ thread_bytes thread ++ rest → length rest < length bytes
thread-shorter thread rest bytes e =
    omega (arith, ap length e, length-append (thread_bytes thread) rest, length-append (fixed w64 thread.0) (fixed w32 thread.1), length-fixed64 thread.0)

threads-ended : (left : ℕ) (bytes : List ℕ) (many : Many ℕ (ℕ × ℕ)) → left ≡ 0 → (let none : Many ℕ (ℕ × ℕ) = record { things = []; state = left; rest = bytes } in none ≡ many) → ThreadsRead left bytes many
threads-ended left bytes many none same =
    subst (λ (m : Many ℕ (ℕ × ℕ)). ThreadsRead left bytes m) same (record { spelled = refl; count = sym none; fit = tt })

threads-more : (left : ℕ) (bytes : List ℕ) (one : One ℕ (ℕ × ℕ)) (later many : Many ℕ (ℕ × ℕ)) → left ≡ suc one.state → ThreadRead left bytes one → ThreadsRead one.state one.rest later → many.things ≡ one.thing ∷ later.things → many.rest ≡ later.rest → ThreadsRead left bytes many
threads-more left bytes one later many fewer read others things rest =
    let all : List (ℕ × ℕ) = one.thing ∷ later.things in
    record {
      spelled =
          read.spelled
          ∙ ap (λ (r : List ℕ). thread_bytes one.thing ++ r) others.spelled
          ∙ sym (append_assoc (thread_bytes one.thing) (flat_map thread_bytes later.things) later.rest)
          ∙ ap (λ (r : List ℕ). flat_map thread_bytes all ++ r) (sym rest)
          ∙ ap (λ (xs : List (ℕ × ℕ)). flat_map thread_bytes xs ++ many.rest) (sym things);
      count = omega (arith, ap length things, others.count, fewer);
      fit = subst (λ (xs : List (ℕ × ℕ)). AllByRecursion (λ thread. (thread.0 < 2 ^ 64) × (thread.1 < 2 ^ 32)) xs) (sym things) ((read.thread_fits, read.number_fits), others.fit);
    }

threads-form : (start left more : ℕ) (bytes : List ℕ) (many : Many ℕ (ℕ × ℕ)) → AreLow bytes → length bytes < more → each_at no_thread (thread_at start) more left bytes ≡ Ok many → ThreadsRead left bytes many
threads-form start left zero bytes many low few e = absurd (omega arith)
threads-form start left (suc more) bytes many low few e = elim (cases_Bool (left == 0)) [
  | inl ends ↦ threads-ended left bytes many (eqb-true left 0 ends) (ok-same _ many (sym (each_at-end no_thread (thread_at start) more left bytes ends) ∙ e))
  | inr goes ↦
      let one = bind_inv (thread_at start left bytes) _ many (sym (each_at-goes no_thread (thread_at start) more left bytes goes) ∙ e) in
      let read = thread-form start left bytes one.0 low one.1 in
      let later = with_thing-inv one.0.thing (each_at no_thread (thread_at start) more one.0.state one.0.rest) many one.2 in
      let others = threads-form start one.0.state more one.0.rest later.0 (low-behind bytes (thread_bytes one.0.thing) one.0.rest read.spelled low) (omega (arith, thread-shorter one.0.thing one.0.rest bytes read.spelled)) later.1 in
      let some : (left ≡ 0) → ⊥ = eqb-false left 0 goes in
      threads-more left bytes one.0 later.0 many (omega (arith, read.left_after)) read others later.2 later.3
]

-- What is read in the body of a point.
pub point_body-form : (at : ℕ) (items : List Item) (bytes : List ℕ) → AreBytes bytes → point_body_at at bytes ≡ Ok items → IsPointBody at items bytes
unfolding point_body_at threads_at
point_body-form at items bytes fit e =
    let low = low-of bytes fit in
    let stamp = bind_inv (or_else_fault (fixed_at w64 bytes) _) _ items e in
    let stamped = form64 bytes stamp.0.1 stamp.0.0 low (or_else-inv (fixed_at w64 bytes) _ stamp.0 stamp.1) in
    let low1 = low-behind bytes (fixed w64 stamp.0.0) stamp.0.1 stamped.spelled low in
    let count = bind_inv (or_else_fault (fixed_at w32 stamp.0.1) _) _ items stamp.2 in
    let counted = form32 stamp.0.1 count.0.1 count.0.0 low1 (or_else-inv (fixed_at w32 stamp.0.1) _ count.0 count.1) in
    let low2 = low-behind stamp.0.1 (fixed w32 count.0.0) count.0.1 counted.spelled low1 in
    let fits = bind_inv (check (nat_le count.0.0 LAST_COUNT) _) _ items count.2 in
    let threads = bind_inv (threads_at at count.0.0 count.0.1) _ items fits.2 in
    let many = bind_inv (each_at no_thread (thread_at at) (suc (length count.0.1)) count.0.0 count.0.1) _ threads.0 threads.1 in
    let ended = bind_inv (check (length many.0.rest == 0) _) _ threads.0 many.2 in
    let none = nil_from_length many.0.rest (eqb-true _ 0 (check-inv _ _ ended.0 ended.1)) in
    let found : many.0.things ≡ threads.0 = ok-same many.0.things threads.0 ended.2 in
    let read = threads-form at count.0.0 (suc (length count.0.1)) count.0.1 many.0 low2 (omega arith) many.1 in
    let flat = flat_map thread_bytes many.0.things in
    let spelled : bytes ≡ fixed w64 stamp.0.0 ++ (fixed w32 count.0.0 ++ flat) =
    stamped.spelled ∙ ap (λ (r : List ℕ). fixed w64 stamp.0.0 ++ r) (counted.spelled ∙ ap (λ (r : List ℕ). fixed w32 count.0.0 ++ r) (read.spelled ∙ ap (λ (r : List ℕ). flat ++ r) none ∙ append-nil flat)) in
    let build : List (ℕ × ℕ) → List Item = λ numbers. record { at = at; kind = item.Point stamp.0.0 numbers } ∷ [] in
    record {
      stamp = stamp.0.0;
      threads = many.0.things;
      spelled = spelled ∙ sym (append_assoc (fixed w64 stamp.0.0) (fixed w32 count.0.0) flat) ∙ ap (λ (n : ℕ). (fixed w64 stamp.0.0 ++ fixed w32 n) ++ flat) (sym read.count);
      stamp_fits = stamped.fits;
      count_fits = omega (arith, leb-true count.0.0 LAST_COUNT (check-inv _ _ fits.0 fits.1), read.count);
      threads_fit = read.fit;
      hold = sym (ok-same _ items threads.2) ∙ ap build (sym found);
      bytes_fit = fit;
    }

-- ---- blobs

-- A blob that was read.
record BlobRead (kind : BlockKind) (place : BlobPlace) (bytes : List ℕ) (one : One BlobPlace Item) : Type 0 where
  blob : Blob
  held : ItemKind
  begins : ℕ
  spelled : bytes ≡ blob_bytes blob ++ one.rest
  head : IsHead place.before blob.state blob.head
  sized : length blob.payload ≡ blob.state.size
  may : may_head kind blob.state ≡ true
  holds : held_at kind blob.state begins blob.payload ≡ Ok held
  thing : one.thing ≡ record { at = place.at; kind = held }
  at : one.state.at ≡ place.at + length (blob_bytes blob)
  before : one.state.before ≡ blob.state
  shorter : length one.rest < length bytes
  payload_low : AreLow blob.payload

blob-form : HeadForms → (kind : BlockKind) (place : BlobPlace) (bytes : List ℕ) (one : One BlobPlace Item) → AreLow bytes → blob_at kind place bytes ≡ Ok one → BlobRead kind place bytes one
unfolding blob_at
blob-form heads kind place bytes one low e =
    let head = bind_inv (or_else_fault (head_at place.before bytes) _) _ one e in
    let headed = or_else-inv (head_at place.before bytes) _ head.0 head.1 in
    let begun = heads.head place.before head.0.0 bytes head.0.1 low headed in
    let may = bind_inv (check (may_head kind head.0.0) _) _ one head.2 in
    let payload = bind_inv (or_else_fault (bytes_at head.0.0.size head.0.1) _) _ one may.2 in
    let there = bytes-inv head.0.0.size head.0.1 payload.0.1 payload.0.0 (or_else-inv (bytes_at head.0.0.size head.0.1) _ payload.0 payload.1) in
    let held = bind_inv (held_at kind head.0.0 (place.at + (length bytes - length head.0.1)) payload.0.0) _ one payload.2 in
    let same = ok-same _ one held.2 in
    let rest : payload.0.1 ≡ one.rest = ap (λ (o : One BlobPlace Item). o.rest) same in
    let spelled : bytes ≡ (begun.0 ++ payload.0.0) ++ payload.0.1 =
    begun.2 ∙ ap (λ (r : List ℕ). begun.0 ++ r) there.0 ∙ sym (append_assoc begun.0 payload.0.0 payload.0.1) in
    let ends : place.at + (length bytes - length payload.0.1) ≡ place.at + length (begun.0 ++ payload.0.0) =
    omega (arith, ap length spelled, length-append (begun.0 ++ payload.0.0) payload.0.1) in
    let left = head-left place.before head.0.0 bytes head.0.1 headed in
    record {
      blob = record { head = begun.0; state = head.0.0; payload = payload.0.0 };
      held = held.0;
      begins = place.at + (length bytes - length head.0.1);
      spelled = spelled ∙ ap (λ (r : List ℕ). (begun.0 ++ payload.0.0) ++ r) rest;
      head = begun.1;
      sized = there.1;
      may = check-inv _ _ may.0 may.1;
      holds = held.1;
      thing = sym (ap (λ (o : One BlobPlace Item). o.thing) same);
      at = sym (ap (λ (o : One BlobPlace Item). o.state.at) same) ∙ ends;
      before = sym (ap (λ (o : One BlobPlace Item). o.state.before) same);
      shorter = omega (arith, left, ap length there.0, length-append payload.0.0 payload.0.1, ap length rest);
      payload_low = low-front payload.0.0 payload.0.1 (low-behind bytes begun.0 (payload.0.0 ++ payload.0.1) (begun.2 ∙ ap (λ (r : List ℕ). begun.0 ++ r) there.0) low);
    }

-- Blobs that were read, to the end.
record BlobsRead (Holds : Blob → ItemKind → Type 0) (place : BlobPlace) (bytes : List ℕ) (items : List Item) : Type 0 where
  blobs : List Blob
  spelled : bytes ≡ flat_map blob_bytes blobs
  chained : AreChained place.before blobs
  hold : AreItems Holds place.at blobs items

blobs-ended : (Holds : Blob → ItemKind → Type 0) (place : BlobPlace) (bytes : List ℕ) (items : List Item) → bytes ≡ [] → [] ≡ items → BlobsRead Holds place bytes items
blobs-ended Holds place bytes items none nothing = record { blobs = []; spelled = none; chained = tt; hold = sym nothing }

blobs-more : (Holds : Blob → ItemKind → Type 0) (kind : BlockKind) (place : BlobPlace) (bytes : List ℕ) (one : One BlobPlace Item) (later items : List Item) (read : BlobRead kind place bytes one) → Holds read.blob read.held → BlobsRead Holds one.state one.rest later → items ≡ one.thing ∷ later → BlobsRead Holds place bytes items
blobs-more Holds kind place bytes one later items read holds others things =
    let rest : AreItems Holds (place.at + length (blob_bytes read.blob)) others.blobs later =
    subst (λ (n : ℕ). AreItems Holds n others.blobs later) read.at others.hold in
    record {
      blobs = read.blob ∷ others.blobs;
      spelled = read.spelled ∙ ap (λ (r : List ℕ). blob_bytes read.blob ++ r) others.spelled;
      chained = (read.head, read.sized, subst (λ (s : HeadState). AreChained s others.blobs) read.before others.chained);
      hold = (read.held, later, holds, rest, things ∙ ap (λ (t : Item). t ∷ later) read.thing);
    }

blobs-form : HeadForms → (Holds : Blob → ItemKind → Type 0) (kind : BlockKind) → ((blob : Blob) (held : ItemKind) (begins : ℕ) → may_head kind blob.state ≡ true → AreLow blob.payload → held_at kind blob.state begins blob.payload ≡ Ok held → Holds blob held) → (place : BlobPlace) (more : ℕ) (bytes : List ℕ) (many : Many BlobPlace Item) → AreLow bytes → length bytes < more → each_at at_end (blob_at kind) more place bytes ≡ Ok many → BlobsRead Holds place bytes many.things
blobs-form heads Holds kind takes place zero bytes many low few e = absurd (omega arith)
blobs-form heads Holds kind takes place (suc more) bytes many low few e = elim (cases_Bool (length bytes == 0)) [
  | inl ends ↦
      let same = ok-same _ many (sym (each_at-end at_end (blob_at kind) more place bytes ends) ∙ e) in
      blobs-ended Holds place bytes many.things (nil_from_length bytes (eqb-true (length bytes) 0 ends)) (ap (λ (m : Many BlobPlace Item). m.things) same)
  | inr goes ↦
      let one = bind_inv (blob_at kind place bytes) _ many (sym (each_at-goes at_end (blob_at kind) more place bytes goes) ∙ e) in
      let read = blob-form heads kind place bytes one.0 low one.1 in
      let later = with_thing-inv one.0.thing (each_at at_end (blob_at kind) more one.0.state one.0.rest) many one.2 in
      let others = blobs-form heads Holds kind takes one.0.state more one.0.rest later.0 (low-behind bytes (blob_bytes read.blob) one.0.rest read.spelled low) (omega (arith, read.shorter)) later.1 in
      blobs-more Holds kind place bytes one.0 later.0.things many.things read (takes read.blob read.held read.begins read.may read.payload_low read.holds) others later.2
]

-- The header of a body of blobs, and what is behind it.
record HeaderRead (size : ℕ) (body : List ℕ) : Type 0 where
  flags : ℕ
  least : ℕ
  greatest : ℕ
  more : List ℕ
  sized : 20 + length more ≡ size
  spelled : body ≡ fixed w16 size ++ (fixed w16 flags ++ (fixed w64 least ++ (fixed w64 greatest ++ (more ++ drop size body))))
  size_fits : size < 2 ^ 16
  flags_fit : flags < 2 ^ 16
  compressed : flags % 2 ≡ 1

-- So many bytes more, and the rest.
header-rest : (size : ℕ) (body r4 : List ℕ) (a b c d : List ℕ) → length a ≡ 2 → length b ≡ 2 → length c ≡ 8 → length d ≡ 8 → body ≡ a ++ (b ++ (c ++ (d ++ r4))) → 20 ≤ size → size ≤ length body → (20 + length (take (size - 20) r4) ≡ size) × (r4 ≡ take (size - 20) r4 ++ drop size body)
header-rest size body r4 a b c d la lb lc ld e above below =
    let front = a ++ (b ++ (c ++ (d ++ take (size - 20) r4))) in
    let all : length body ≡ 20 + length r4 = omega (arith, ap length e, length-append a (b ++ (c ++ (d ++ r4))), length-append b (c ++ (d ++ r4)), length-append c (d ++ r4), length-append d r4, la, lb, lc, ld) in
    let more : length (take (size - 20) r4) ≡ size - 20 = length-take-le (size - 20) r4 (omega arith) in
    let long : length front ≡ size = omega (arith, length-append a (b ++ (c ++ (d ++ take (size - 20) r4))), length-append b (c ++ (d ++ take (size - 20) r4)), length-append c (d ++ take (size - 20) r4), length-append d (take (size - 20) r4), la, lb, lc, ld, more) in
    let whole : body ≡ front ++ drop (size - 20) r4 =
    e
    ∙ ap (λ (r : List ℕ). a ++ (b ++ (c ++ (d ++ r)))) (sym (take-append-drop (size - 20) r4))
    ∙ sym (simp append_assoc) in
    let behind : drop size body ≡ drop (size - 20) r4 = ap (drop size) whole ∙ drop-behind size front (drop (size - 20) r4) long in (
      omega (arith, more),
      sym (take-append-drop (size - 20) r4) ∙ ap (λ (r : List ℕ). take (size - 20) r4 ++ r) (sym behind),
    )

header-stamps : (size flags : ℕ) (body r2 : List ℕ) → AreLow r2 → body ≡ fixed w16 size ++ (fixed w16 flags ++ r2) → 20 ≤ length body → 20 ≤ size → size ≤ length body → size < 2 ^ 16 → flags < 2 ^ 16 → flags % 2 ≡ 1 → HeaderRead size body
header-stamps size flags body r2 low two long above below size_fits flags_fit odd =
    let count : length body ≡ 4 + length r2 = omega (arith, ap length two, two-fixed size flags r2) in
    let first = form64 r2 (drop 8 r2) (little_number 8 r2) low (fixed_enough w64 r2 (omega arith)) in
    let low3 = low-behind r2 (fixed w64 (little_number 8 r2)) (drop 8 r2) first.spelled low in
    let second = form64 (drop 8 r2) (drop 8 (drop 8 r2)) (little_number 8 (drop 8 r2)) low3 (fixed_enough w64 (drop 8 r2) (omega (arith, length-drop 8 r2))) in
    let four : body ≡ fixed w16 size ++ (fixed w16 flags ++ (fixed w64 (little_number 8 r2) ++ (fixed w64 (little_number 8 (drop 8 r2)) ++ drop 8 (drop 8 r2)))) =
    two
    ∙ ap (λ (r : List ℕ). fixed w16 size ++ (fixed w16 flags ++ r)) (first.spelled ∙ ap (λ (r : List ℕ). fixed w64 (little_number 8 r2) ++ r) second.spelled) in
    let rest = header-rest size body (drop 8 (drop 8 r2)) (fixed w16 size) (fixed w16 flags) (fixed w64 (little_number 8 r2)) (fixed w64 (little_number 8 (drop 8 r2))) (length-fixed16 size) (length-fixed16 flags) (length-fixed64 _) (length-fixed64 _) four above below in
    record {
      flags = flags;
      least = little_number 8 r2;
      greatest = little_number 8 (drop 8 r2);
      more = take (size - 20) (drop 8 (drop 8 r2));
      sized = rest.0;
      spelled = four ∙ ap (λ (r : List ℕ). fixed w16 size ++ (fixed w16 flags ++ (fixed w64 (little_number 8 r2) ++ (fixed w64 (little_number 8 (drop 8 r2)) ++ r)))) rest.1;
      size_fits = size_fits;
      flags_fit = flags_fit;
      compressed = odd;
    }

header-form : (at size : ℕ) (body : List ℕ) → AreLow body → header_at at body ≡ Ok size → HeaderRead size body
unfolding header_at
header-form at size body low e =
    let long = bind_inv (check (nat_le HEADER_BYTES (length body)) _) _ size e in
    let sized = bind_inv (or_else_fault (fixed_at w16 body) _) _ size long.2 in
    let size16 = form16 body sized.0.1 sized.0.0 low (or_else-inv (fixed_at w16 body) _ sized.0 sized.1) in
    let low1 = low-behind body (fixed w16 sized.0.0) sized.0.1 size16.spelled low in
    let fits = bind_inv (check (nat_le HEADER_BYTES sized.0.0 && nat_le sized.0.0 (length body)) _) _ size sized.2 in
    let both = and_parts (nat_le HEADER_BYTES sized.0.0) (nat_le sized.0.0 (length body)) (check-inv _ _ fits.0 fits.1) in
    let flagged = bind_inv (or_else_fault (fixed_at w16 sized.0.1) _) _ size fits.2 in
    let flags16 = form16 sized.0.1 flagged.0.1 flagged.0.0 low1 (or_else-inv (fixed_at w16 sized.0.1) _ flagged.0 flagged.1) in
    let low2 = low-behind sized.0.1 (fixed w16 flagged.0.0) flagged.0.1 flags16.spelled low1 in
    let odd = bind_inv (check (flagged.0.0 % 2 == 1) _) _ size flagged.2 in
    let same : sized.0.0 ≡ size = ok-same sized.0.0 size odd.2 in
    let two : body ≡ fixed w16 sized.0.0 ++ (fixed w16 flagged.0.0 ++ flagged.0.1) = size16.spelled ∙ ap (λ (r : List ℕ). fixed w16 sized.0.0 ++ r) flags16.spelled in
    subst (λ (n : ℕ). HeaderRead n body) same
    (header-stamps sized.0.0 flagged.0.0 body flagged.0.1 low2 two (leb-true 20 (length body) (check-inv _ _ long.0 long.1)) (leb-true 20 sized.0.0 both.0) (leb-true sized.0.0 (length body) both.1) size16.fits flags16.fits (eqb-true (flagged.0.0 % 2) 1 (check-inv _ _ odd.0 odd.1)))

-- A body of blobs.
body-form : HeadForms → (Holds : Blob → ItemKind → Type 0) (kind : BlockKind) → ((blob : Blob) (held : ItemKind) (begins : ℕ) → may_head kind blob.state ≡ true → AreLow blob.payload → held_at kind blob.state begins blob.payload ≡ Ok held → Holds blob held) → (at : ℕ) (items : List Item) (bytes : List ℕ) → AreBytes bytes → blob_body_at kind at bytes ≡ Ok items → IsBlobBody Holds at items bytes
body-form heads Holds kind takes at items bytes fit e =
    let low = low-of bytes fit in
    let size = bind_inv (header_at at bytes) _ items e in
    let header = header-form at size.0 bytes low size.1 in
    let start : BlobPlace = record { at = at + size.0; before = zero_state } in
    let many = bind_inv (each_at at_end (blob_at kind) (suc (length bytes)) start (drop size.0 bytes)) _ items size.2 in
    let read = blobs-form heads Holds kind takes start (suc (length bytes)) (drop size.0 bytes) many.0 (low-drop size.0 bytes low) (omega (arith, length-drop size.0 bytes)) many.1 in
    let found : many.0.things ≡ items = ok-same many.0.things items many.2 in
    let flat = flat_map blob_bytes read.blobs in
    let spelled : bytes ≡ concat (fixed w16 (20 + length header.more) ∷ fixed w16 header.flags ∷ fixed w64 header.least ∷ fixed w64 header.greatest ∷ header.more ∷ flat ∷ []) =
    header.spelled
    ∙ ap (λ (r : List ℕ). fixed w16 size.0 ++ (fixed w16 header.flags ++ (fixed w64 header.least ++ (fixed w64 header.greatest ++ (header.more ++ r))))) (read.spelled ∙ sym (append-nil flat))
    ∙ ap (λ (n : ℕ). fixed w16 n ++ (fixed w16 header.flags ++ (fixed w64 header.least ++ (fixed w64 header.greatest ++ (header.more ++ (flat ++ [])))))) (sym header.sized) in
    record {
      flags = header.flags;
      least = header.least;
      greatest = header.greatest;
      more = header.more;
      blobs = read.blobs;
      spelled = spelled;
      size_fits = subst (λ (n : ℕ). n < 2 ^ 16) (sym header.sized) header.size_fits;
      flags_fit = header.flags_fit;
      compressed = header.compressed;
      chained = read.chained;
      hold = subst (λ (n : ℕ). AreItems Holds (at + n) read.blobs items) (sym header.sized) (subst (λ (xs : List Item). AreItems Holds (at + size.0) read.blobs xs) found read.hold);
      bytes_fit = fit;
    }

-- What is read in a body of events.
pub event_body-form : HeadForms → (at : ℕ) (items : List Item) (bytes : List ℕ) → AreBytes bytes → blob_body_at block.Event at bytes ≡ Ok items → IsBlobBody HoldsEvent at items bytes
event_body-form heads =
    body-form heads HoldsEvent block.Event (λ blob held begins may low e. (ltb-true 0 blob.state.metadata may, sym (ok-same _ held e)))

-- What is read in a body of definitions.
meta-holds : MetaForms → (blob : Blob) (held : ItemKind) (begins : ℕ) → AreLow blob.payload → held_at block.Metadata blob.state begins blob.payload ≡ Ok held → HoldsMeta blob held
meta-holds metas blob held begins low e =
    let meta = bind_inv (or_else_fault (meta_at blob.payload) (refusal begins BadMeta)) _ held e in
    (meta.0.0, meta.0.1, metas.meta blob.payload meta.0.0 meta.0.1 (all-of blob.payload low) (or_else-inv (meta_at blob.payload) _ meta.0 meta.1), sym (ok-same _ held meta.2))

pub meta_body-form : HeadForms → MetaForms → (at : ℕ) (items : List Item) (bytes : List ℕ) → AreBytes bytes → blob_body_at block.Metadata at bytes ≡ Ok items → IsBlobBody HoldsMeta at items bytes
meta_body-form heads metas =
    body-form heads HoldsMeta block.Metadata (λ blob held begins may low e. meta-holds metas blob held begins low e)
