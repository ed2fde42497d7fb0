-- A block more at the end of a stream, and what it holds.
use Rattle.std.proofs.Common.{◌≡◌, ℕ, ◌+◌, ◌*◌, ◌^◌, ◌<◌, ◌≤◌, List, [], ◌∷◌, ◌++◌, length, refl, ap, sym, ◌∙◌, arith, subst, length-append, append_assoc}
use Rattle.std.proofs.lemmas.List.{append-nil, length-replicate}
use Rattle.std.specs.Prelude.{replicate}
use Rattle.std.specs.List.{flat_map, AllByRecursion}
use Rattle.std.specs.Int.{w32, w64}
use Rattle.ep_defs.specs.declared.item.Item.{Item}
use Rattle.ep_defs.specs.declared.item.ItemKind.{ItemKind}
use Rattle.ep_defs.specs.declared.item.ItemKind.TheVariants as item
use Rattle.nt_object.specs.declared.object.BlockKind.{BlockKind}
use Rattle.pt_num.specs.Numbers.{fixed}
use Rattle.nt_object.specs.Object.{Block, block_bytes, padding_begins, to_multiple_of_4, CanStand}
use Rattle.nt_object.specs.Stream.{start_len, blocks_bytes, CanFollow}
use Rattle.nt_write.specs.Trace.{body_begins, BlocksHold}
use Rattle.nt_blocks.specs.declared.limits.TheConstants.{READ_BYTES}
use Rattle.nt_blocks.specs.Bodies.{IsBody, stack_bytes, stack_body, stack_items, IsStackBody, thread_bytes, point_body, IsPointBody}
use Rattle.ep_defs.specs.Entry.{PointEntry}
use Rattle.nt_blocks.specs.Ordered.{kinds_of}
use Rattle.nt_write.specs.Layout.{with_block}
use Rattle.nt_write.specs.Writable.{CanPoint, IsStack}
use Rattle.nt_write.proofs.Bytes.{AreLow, bytes-of, low-of, low-stack_body, low-point_body}
use Rattle.pt_num.proofs.Lengths.{length-fixed32, length-fixed64}

-- ---- a block more

-- The lengths of the blocks before an offset, one after another.
offset-more : (at : ℕ) (first rest : List ℕ) → at + length first + length rest ≡ at + length (first ++ rest)
offset-more at first rest = omega (arith, length-append first rest)

-- No blocks take no bytes.
offset-none : (at : ℕ) → at + 0 ≡ at
offset-none at = omega arith

-- A block that can stand behind the others may follow them.
pub follow-more : (at : ℕ) (blocks : List Block) (block : Block) → CanFollow at blocks → CanStand (at + length (blocks_bytes blocks)) block → CanFollow at (blocks ++ block ∷ [])
follow-more at [] block h stand = (subst (λ (n : ℕ). CanStand n block) (offset-none at) stand, tt)
follow-more at (b ∷ blocks) block h stand =
    (h.0, follow-more (at + length (block_bytes b)) blocks block h.1 (subst (λ (n : ℕ). CanStand n block) (sym (offset-more at (block_bytes b) (blocks_bytes blocks))) stand))

-- The items of one block more come behind those of the others.
pub hold-more : (at : ℕ) (blocks : List Block) (items : List Item) (block : Block) (more : List Item) → BlocksHold at blocks items → IsBody block.kind (body_begins (at + length (blocks_bytes blocks)) block) more block.body → BlocksHold at (blocks ++ block ∷ []) (items ++ more)
hold-more at [] items block more h body =
    (more, [], subst (λ (n : ℕ). IsBody block.kind (body_begins n block) more block.body) (offset-none at) body, refl, ap (λ (is : List Item). is ++ more) h ∙ sym (append-nil more))
hold-more at (b ∷ blocks) items block more h body =
    let next = at + length (block_bytes b) in
    let rest = hold-more next blocks h.1 block more h.3 (subst (λ (n : ℕ). IsBody block.kind (body_begins n block) more block.body) (sym (offset-more at (block_bytes b) (blocks_bytes blocks))) body) in
    (h.0, h.1 ++ more, h.2, rest, ap (λ (is : List Item). is ++ more) h.4 ∙ append_assoc h.0 h.1 more)

-- What holds of all members and of one more holds of all with it.
pub all-more : {A : Type 0} (P : A → Type 0) (xs : List A) (x : A) → AllByRecursion P xs → P x → AllByRecursion P (xs ++ x ∷ [])
all-more P [] x h p = (p, tt)
all-more P (y ∷ xs) x h p = (h.0, all-more P xs x h.1 p)

-- Blocks that can stand at the start of a stream, and the items that they hold.
pub record AreBlocks (blocks : List Block) (items : List Item) : Type 0 where
  pub follow : CanFollow start_len blocks
  pub hold : BlocksHold start_len blocks items
  pub not_large : AllByRecursion (λ block. length block.body ≤ READ_BYTES) blocks

-- A stream can have no blocks.
pub no_blocks : AreBlocks [] []
no_blocks = record { follow = tt; hold = refl; not_large = tt }

-- Where the body of the next block begins.
pub next_body : BlockKind → List Block → ℕ
next_body kind blocks =
    let at = start_len + length (blocks_bytes blocks) in
    padding_begins at kind + length {A = ℕ} (replicate (to_multiple_of_4 (padding_begins at kind)) 0)

-- A block whose body holds some items is put at the end.
pub block-more : (kind : BlockKind) (body : List ℕ) (blocks : List Block) (items more : List Item) → AreBlocks blocks items → length body ≤ READ_BYTES → IsBody kind (next_body kind blocks) more body → AreBlocks (with_block kind body blocks) (items ++ more)
unfolding next_body
block-more kind body blocks items more h small is =
    let at : ℕ = start_len + length (blocks_bytes blocks) in
    let block : Block = record { kind = kind; padding = replicate (to_multiple_of_4 (padding_begins at kind)) 0; body = body } in
    let stand : CanStand at block = record { padding = length-replicate (to_multiple_of_4 (padding_begins at kind)) 0; size = omega arith } in
    record {
      follow = follow-more start_len blocks block h.follow stand;
      hold = hold-more start_len blocks items block more h.hold is;
      not_large = all-more (λ block. length block.body ≤ READ_BYTES) blocks block h.not_large small;
    }

-- ---- points

-- Each thread of a point takes 12 bytes.
threads-len : (threads : List (ℕ × ℕ)) → length (flat_map thread_bytes threads) ≡ 12 * length threads
threads-len [] = refl
threads-len (thread ∷ threads) =
    omega (arith, length-append (thread_bytes thread) (flat_map thread_bytes threads), length-append (fixed w64 thread.0) (fixed w32 thread.1), length-fixed64 thread.0, length-fixed32 thread.1, threads-len threads)

-- The length of the body of a point.
pub point-len : (stamp : ℕ) (threads : List (ℕ × ℕ)) → length (point_body stamp threads) ≡ 12 + 12 * length threads
point-len stamp threads =
    omega (arith, length-append (fixed w64 stamp ++ fixed w32 (length threads)) (flat_map thread_bytes threads), length-append (fixed w64 stamp) (fixed w32 (length threads)), length-fixed64 stamp, length-fixed32 (length threads), threads-len threads)

-- A point that can be written is the body of a point.
pub point-is : (at : ℕ) (point : PointEntry) → CanPoint point → IsPointBody at (record { at = at; kind = item.Point point.stamp point.threads } ∷ []) (point_body point.stamp point.threads)
point-is at point h = record {
  stamp = point.stamp;
  threads = point.threads;
  spelled = refl;
  stamp_fits = h.stamp;
  count_fits = omega (arith, h.few);
  threads_fit = h.fit;
  hold = refl;
  bytes_fit = bytes-of (point_body point.stamp point.threads) (low-point_body point.stamp point.threads);
}

-- ---- stacks

-- The kinds of stacks under the ids from this one on.
abbrev pub stack_kinds : ℕ → List (List ℕ) → List ItemKind
stack_kinds id [] = []
stack_kinds id (stack ∷ stacks) = item.Stack id stack ∷ stack_kinds (id + 1) stacks

-- Their items have these kinds.
pub stack-kinds : (at id : ℕ) (stacks : List (List ℕ)) → kinds_of (stack_items at id stacks) ≡ stack_kinds id stacks
stack-kinds at id [] = refl
stack-kinds at id (stack ∷ stacks) = ap (λ (ks : List ItemKind). item.Stack id stack ∷ ks) (stack-kinds (at + length (stack_bytes stack)) (id + 1) stacks)

-- Stacks whose ids fit are the body of a stack block.
pub stacks-are : (at first : ℕ) (stacks : List (List ℕ)) → 0 < first → first + length stacks ≤ 2 ^ 31 → 0 < length stacks → AllByRecursion IsStack stacks → IsStackBody at (stack_items (at + 8) first stacks) (stack_body first stacks)
stacks-are at first stacks one few some short = record {
  first = first;
  stacks = stacks;
  spelled = refl;
  first_fits = omega arith;
  count_fits = omega arith;
  sizes_fit = sizes stacks short;
  hold = refl;
  bytes_fit = bytes-of (stack_body first stacks) (low-stack_body first stacks (lows stacks short));
}
  where
    sizes : (xs : List (List ℕ)) → AllByRecursion IsStack xs → AllByRecursion (λ stack. length stack < 2 ^ 32) xs
    sizes [] h = tt
    sizes (x ∷ xs) h = (omega (arith, h.0.short), sizes xs h.1)

    lows : (xs : List (List ℕ)) → AllByRecursion IsStack xs → AllByRecursion AreLow xs
    lows [] h = tt
    lows (x ∷ xs) h = (low-of x h.0.bytes, lows xs h.1)

-- The length of what one member more adds at the end.
flat_map-len-more : {A : Type 0} (f : A → List ℕ) (xs : List A) (x : A) → length (flat_map f (xs ++ x ∷ [])) ≡ length (flat_map f xs) + length (f x)
flat_map-len-more f [] x = omega (arith, length-append (f x) [])
flat_map-len-more f (y ∷ xs) x =
    omega (arith, length-append (f y) (flat_map f (xs ++ x ∷ [])), length-append (f y) (flat_map f xs), flat_map-len-more f xs x)

-- The 8 bytes of the body's own header, and the stacks.
stack_body-len : (first : ℕ) (stacks : List (List ℕ)) → length (stack_body first stacks) ≡ 8 + length (flat_map stack_bytes stacks)
stack_body-len first stacks =
    omega (arith, length-append (fixed w32 first ++ fixed w32 (length stacks)) (flat_map stack_bytes stacks), length-append (fixed w32 first) (fixed w32 (length stacks)), length-fixed32 first, length-fixed32 (length stacks))

-- The body of no stacks.
pub stack_body-len-none : (first : ℕ) → length (stack_body first []) ≡ 8
stack_body-len-none first = stack_body-len first []

-- One stack more at the end of its body.
pub stack-len-more : (first : ℕ) (stacks : List (List ℕ)) (stack : List ℕ) → length (stack_body first (stacks ++ stack ∷ [])) ≡ length (stack_body first stacks) + (4 + length stack)
stack-len-more first stacks stack =
    omega (arith, stack_body-len first (stacks ++ stack ∷ []), stack_body-len first stacks, flat_map-len-more stack_bytes stacks stack, length-append (fixed w32 (length stack)) stack, length-fixed32 (length stack))
