-- A block more at the end of a stream.
use Rattle.std.proofs.Common.{◌≡◌, ℕ, ◌+◌, ◌-◌, ◌%◌, Bool, List, [], ◌∷◌, ◌++◌, length, ap, sym, ◌∙◌, subst, arith, length-append}
use Rattle.std.specs.Prelude.{replicate, IsTrue}
use Rattle.pt_num.proofs.Joined.{flat_map-push}
use Rattle.pt_io.specs.Taken.{IsPrefix, TookPartOf}
use Rattle.nt_object.specs.declared.object.BlockKind.{BlockKind}
use Rattle.nt_write.specs.declared.output.Output.{Output}
use Rattle.nt_object.specs.Object.{Block, block_bytes, block_name}
use Rattle.nt_object.specs.Stream.{start_len, blocks_bytes}
use Rattle.nt_object.specs.Object.{padded}
use Rattle.nt_write.specs.Layout.{with_block, with_block_of}
use Rattle.nt_write.specs.Writing.{HasWritten, TookAll, TookSome}
use Rattle.nt_write.proofs.Prefixes.{prefix-same, took-more, took-part}

-- The bytes of a block more.
pub with_block-bytes : (kind : BlockKind) (body : List ℕ) (blocks : List Block) → blocks_bytes (with_block kind body blocks) ≡ blocks_bytes blocks ++ block_bytes (padded (start_len + length (blocks_bytes blocks)) kind body)
with_block-bytes kind body blocks =
    flat_map-push block_bytes blocks (padded (start_len + length (blocks_bytes blocks)) kind body)

-- A remainder may be taken before a sum.
remainder-first : (at k : ℕ) → (at % 4 + 3 + 12 + k + 1 + 4) % 4 ≡ (at + 3 + 12 + k + 1 + 4) % 4
remainder-first at k = omega arith

-- How a block is padded depends on the offset modulo 4 alone.
pub padded-aligned : (alignment at : ℕ) (kind : BlockKind) (body : List ℕ) → alignment ≡ at % 4 → padded alignment kind body ≡ padded at kind body
padded-aligned alignment at kind body e =
    ap (λ n. padded n kind body) e
    ∙ ap (λ n. let block : Block = record { kind = kind; padding = replicate ((4 - n) % 4) 0; body = body } in block) (remainder-first at (length (block_name kind)))

-- The alignment after some bytes more.
pub alignment-more : (at n m total : ℕ) → total ≡ n + m → ((at + n) % 4 + m) % 4 ≡ (at + total) % 4
alignment-more at n m total e = omega arith

-- The block that was put together is the one that is to stand at this offset.
pub block-put : (d items cleared body : List ℕ) (alignment from : ℕ) (kind : BlockKind) → d ≡ items → items ≡ cleared ++ block_bytes (padded from kind body) → cleared ≡ [] → from ≡ alignment → d ≡ block_bytes (padded alignment kind body)
block-put d items cleared body alignment from kind e put cleared-is from-is =
    e
    ∙ put
    ∙ ap (λ x. x ++ block_bytes (padded from kind body)) cleared-is
    ∙ ap (λ n. block_bytes (padded n kind body)) from-is

-- The bytes of the blocks with the one that was put together.
pub blocks-put : (kind : BlockKind) (body piece : List ℕ) (blocks : List Block) (alignment : ℕ) → alignment ≡ (start_len + length (blocks_bytes blocks)) % 4 → piece ≡ block_bytes (padded alignment kind body) → blocks_bytes blocks ++ piece ≡ blocks_bytes (with_block kind body blocks)
blocks-put kind body piece blocks alignment aligned e =
    ap (λ x. blocks_bytes blocks ++ x) (e ∙ ap block_bytes (padded-aligned alignment (start_len + length (blocks_bytes blocks)) kind body aligned))
    ∙ sym (with_block-bytes kind body blocks)

-- A block that the sink took whole.
pub block-written : {S : Type 0} (tells : S → Bool) (taken : S → List ℕ) (start : List ℕ) (blocks : List Block) (kind : BlockKind) (body piece : List ℕ) (old new : Output S) → HasWritten tells taken start blocks old → piece ≡ block_bytes (padded old.alignment kind body) → tells new.sink ≡ tells old.sink → (IsTrue (tells old.sink) → taken new.sink ≡ taken old.sink ++ piece) → new.alignment ≡ (old.alignment + length piece) % 4 → HasWritten tells taken start (with_block kind body blocks) new
block-written tells taken start blocks kind body piece old new h e told took alignment =
    let whole = blocks-put kind body piece blocks old.alignment h.alignment e in
    record {
      took =
          subst (λ (bytes : List ℕ). TookAll tells taken start bytes new.sink) whole
          (took-more tells taken start (blocks_bytes blocks) piece old.sink new.sink h.took told took);
      alignment =
          alignment
          ∙ ap (λ n. (n + length piece) % 4) h.alignment
          ∙ alignment-more start_len (length (blocks_bytes blocks)) (length piece) (length (blocks_bytes (with_block kind body blocks))) (ap length (sym whole) ∙ length-append (blocks_bytes blocks) piece);
    }

-- A block of which the sink took a part.
pub block-broken : {S : Type 0} (tells : S → Bool) (taken : S → List ℕ) (start : List ℕ) (blocks : List Block) (kind : BlockKind) (body piece : List ℕ) (old : Output S) (new : S) → HasWritten tells taken start blocks old → piece ≡ block_bytes (padded old.alignment kind body) → tells new ≡ tells old.sink → (IsTrue (tells old.sink) → TookPartOf piece (taken old.sink) (taken new)) → TookSome tells taken start (blocks_bytes (with_block kind body blocks)) new
block-broken tells taken start blocks kind body piece old new h e told took =
    subst (λ (bytes : List ℕ). TookSome tells taken start bytes new) (blocks-put kind body piece blocks old.alignment h.alignment e)
    (took-part tells taken start (blocks_bytes blocks) piece old.sink new h.took told took)

-- A block more begins with the blocks before.
pub with_block-extends : (kind : BlockKind) (body : List ℕ) (blocks : List Block) → IsPrefix (blocks_bytes blocks) (blocks_bytes (with_block kind body blocks))
with_block-extends kind body blocks =
    (block_bytes (padded (start_len + length (blocks_bytes blocks)) kind body), sym (with_block-bytes kind body blocks))

-- The same, where the body holds something.
pub with_block_of-extends : {A : Type 0} (kind : BlockKind) (xs : List A) (body : List ℕ) (blocks : List Block) → IsPrefix (blocks_bytes blocks) (blocks_bytes (with_block_of kind xs body blocks))
with_block_of-extends kind [] body blocks = prefix-same (blocks_bytes blocks)
with_block_of-extends kind (x ∷ xs) body blocks = with_block-extends kind body blocks
