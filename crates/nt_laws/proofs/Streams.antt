-- Whole streams are read whole.
use Rattle.std.proofs.Common.{◌≡◌, ℕ, zero, suc, ◌+◌, ◌≤◌, true, false, Ok, List, [], ◌∷◌, ◌++◌, length, refl, ap, sym, ◌∙◌, arith, append_assoc, length-append}
use Rattle.std.specs.Prelude.{IsTrue}
use Rattle.std.specs.List.{AllByRecursion}
use Rattle.std.proofs.lemmas.List.{append-nil}
use Rattle.ep_defs.specs.declared.session.TraceInfo.{TraceInfo}
use Rattle.ep_defs.specs.Session.{is_info}
use Rattle.ep_defs.specs.declared.item.Item.{Item}
use Rattle.pt_num.specs.Numbers.{fixed}
use Rattle.nt_object.specs.declared.object.BlockKind.{BlockKind}
use Rattle.nt_object.specs.Object.{trace_object, Block, block_bytes}
use Rattle.nt_object.specs.Stream.{CanFollow, blocks_bytes, start_len, stream_head}
use Rattle.nt_blocks.specs.declared.limits.TheConstants.{READ_BYTES}
use Rattle.nt_blocks.specs.Bodies.{IsBody}
use Rattle.nt_blocks.specs.Refusals.{body_at}
use Rattle.nt_blocks.specs.Verdict.{Good, Object, object_at, objects_at, verdict}
use Rattle.nt_write.specs.Trace.{BlocksHold, IsTrace, trace_item}
use Rattle.nt_laws.proofs.Units.{unit-there}
use Rattle.nt_laws.proofs.Objects.{block_behind, block-found, block-parts, parts-of, trace_behind, trace-found, trace-parts}

-- What a body holds is read.
pub record BodiesRead : Type 0 where
  pub body : (kind : BlockKind) (at : ℕ) (items : List Item) (bytes : List ℕ) → IsBody kind at items bytes → body_at kind at bytes ≡ Ok items

-- An object that is found stands before those behind it.
pub object-step : (more : ℕ) (has_trace : _) (items : List Item) (at : ℕ) (bytes : List ℕ) (object : Object) → object_at has_trace (at + 1) bytes ≡ Ok object → objects_at (suc more) has_trace items at (5 ∷ bytes) ≡ objects_at more true (items ++ object.items) object.next object.rest
unfolding objects_at
object-step more has_trace items at bytes object found = rw (objects_at, found)

-- The end tag ends a stream.
ended : (more : ℕ) (items : List Item) (at : ℕ) → objects_at (suc more) true items at (1 ∷ []) ≡ Good items
unfolding objects_at
ended more items at = refl

-- Blocks that hold items are read up to the stream's end.
blocks-read : BodiesRead → (blocks : List Block) (others items : List Item) (at more : ℕ) → CanFollow at blocks → BlocksHold at blocks others → AllByRecursion (λ block. length block.body ≤ READ_BYTES) blocks → length (blocks_bytes blocks ++ 1 ∷ []) ≤ more → objects_at more true items at (blocks_bytes blocks ++ 1 ∷ []) ≡ Good (items ++ others)
blocks-read reads [] others items at zero follow hold small few = absurd (omega arith)
blocks-read reads [] others items at (suc more) follow hold small few =
    ended more items at ∙ ap Good (sym (ap (λ (more : List Item). items ++ more) hold ∙ append-nil items))
blocks-read reads (b ∷ blocks) others items at zero follow hold small few = absurd (omega (arith, length-append (blocks_bytes (b ∷ blocks)) (1 ∷ [])))
blocks-read reads (b ∷ blocks) others items at (suc more) follow hold small few =
    let rest = blocks_bytes blocks ++ 1 ∷ [] in
    let parts = parts-of b at hold.0 follow.0 small.0 (reads.body b.kind _ hold.0 b.body hold.2) in
    let spelled : blocks_bytes (b ∷ blocks) ++ 1 ∷ [] ≡ 5 ∷ block_behind b rest = append_assoc (block_bytes b) (blocks_bytes blocks) (1 ∷ []) ∙ block-parts b rest in
    let fewer : length (blocks_bytes blocks ++ 1 ∷ []) ≤ more =
    omega (arith, few, ap length spelled, ap length (block-parts b rest), length-append (block_bytes b) rest) in
    ap (objects_at (suc more) true items at) spelled
    ∙ object-step more true items at (block_behind b rest) _ (block-found b at rest hold.0 parts)
    ∙ blocks-read reads blocks hold.1 (items ++ hold.0) (at + length (block_bytes b)) more follow.1 hold.3 small.1 fewer
    ∙ ap Good (append_assoc items hold.0 hold.1 ∙ ap (λ (more : List Item). items ++ more) (sym hold.4))

-- Behind the head a stream is read up to its end.
trace-read : BodiesRead → (info : TraceInfo) (blocks : List Block) (others : List Item) (more : ℕ) → IsTrue (is_info info) → CanFollow start_len blocks → BlocksHold start_len blocks others → AllByRecursion (λ block. length block.body ≤ READ_BYTES) blocks → length (trace_object info ++ (blocks_bytes blocks ++ 1 ∷ [])) ≤ more → objects_at more false [] 32 (trace_object info ++ (blocks_bytes blocks ++ 1 ∷ [])) ≡ Good (trace_item info ∷ others)
trace-read reads info blocks others zero fits follow hold small few = absurd (omega (arith, length-append (trace_object info) (blocks_bytes blocks ++ 1 ∷ []), length-append (blocks_bytes blocks) (1 ∷ [])))
trace-read reads info blocks others (suc more) fits follow hold small few =
    let rest = blocks_bytes blocks ++ 1 ∷ [] in
    let parts = trace-parts info rest in
    ap (objects_at (suc more) false [] 32) parts
    ∙ object-step more false [] 32 (trace_behind info rest) _ (trace-found info rest fits)
    ∙ blocks-read reads blocks others (trace_item info ∷ []) start_len more follow hold small (omega (arith, few, ap length parts, length-append (trace_object info) rest))

-- The head is there.
pub headed : (rest : List ℕ) → verdict (stream_head ++ rest) ≡ objects_at (length (stream_head ++ rest)) false [] 32 rest
unfolding fixed
headed rest = rw (verdict, unit-there stream_head rest 32 refl)

-- The parts of a stream, one after another.
pub stream-grouped : (head trace blocks : List ℕ) → head ++ trace ++ blocks ++ 1 ∷ [] ≡ head ++ (trace ++ (blocks ++ 1 ∷ []))
stream-grouped head trace blocks = simp append_assoc

-- A well-formed stream is read whole.
pub stream-read : BodiesRead → (info : TraceInfo) (items : List Item) (bytes : List ℕ) → IsTrace info items bytes → verdict bytes ≡ Good items
stream-read reads info items bytes trace =
    let rest = trace_object info ++ (blocks_bytes trace.blocks ++ 1 ∷ []) in
    let spelled : bytes ≡ stream_head ++ rest = trace.stream.spelled ∙ stream-grouped stream_head (trace_object info) (blocks_bytes trace.blocks) in
    ap verdict spelled
    ∙ headed rest
    ∙ trace-read reads info trace.blocks trace.others (length (stream_head ++ rest)) trace.stream.info_fits trace.stream.placed trace.bodies trace.not_large (omega (arith, length-append stream_head rest))
    ∙ ap Good (sym trace.hold)
