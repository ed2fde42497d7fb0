-- A stream that is cut is found to go on.
use Rattle.std.proofs.Common.{◌≡◌, ℕ, zero, suc, ◌+◌, ◌<◌, ◌≤◌, Bool, true, false, ◌⊎◌, inl, inr, Result, Ok, Err, List, [], ◌∷◌, ◌++◌, length, refl, ap, sym, ◌∙◌, arith, append_assoc, length-append, codes}
use Rattle.std.specs.Prelude.{IsTrue}
use Rattle.std.specs.Int.{w32}
use Rattle.std.specs.List.{AllByRecursion}
use Rattle.std.proofs.lemmas.Bool.{le-leb, lt-ltb, cond-true}
use Rattle.ep_defs.specs.declared.session.TraceInfo.{TraceInfo}
use Rattle.ep_defs.specs.Session.{is_info}
use Rattle.ep_defs.specs.declared.item.Item.{Item}
use Rattle.ep_defs.specs.declared.item.ItemKind.TheVariants as item
use Rattle.pt_num.specs.Numbers.{fixed}
use Rattle.pt_num.specs.Steps.{◌>>=◌}
use Rattle.pt_num.proofs.Lengths.{length-fixed32}
use Rattle.nt_object.specs.declared.object.BlockKind.{BlockKind}
use Rattle.nt_object.specs.declared.object.BlockKind.TheVariants as block
use Rattle.nt_object.specs.declared.head.ObjectKind.TheVariants as kind
use Rattle.nt_object.specs.Object.{trace_object, trace_payload, block_name, Block, block_bytes, to_multiple_of_4}
use Rattle.nt_object.specs.Stream.{CanFollow, blocks_bytes, start_len, stream_head}
use Rattle.nt_object.specs.Reading.{number_in}
use Rattle.nt_object.proofs.Fronts.{body_grouped}
use Rattle.nt_blocks.specs.declared.limits.TheConstants.{READ_BYTES}
use Rattle.nt_blocks.specs.Refusals.{body_at}
use Rattle.nt_blocks.specs.Verdict.{Cut, More, Verdict, closed, info_in, named_at, object_at, objects_at, or_refused, payload_at, unit, verdict}
use Rattle.nt_write.specs.Trace.{BlocksHold, IsTrace, trace_item}
use Rattle.nt_laws.specs.Reading.{IsBegun}
use Rattle.nt_laws.proofs.Units.{next, passed, unit-there}
use Rattle.nt_laws.proofs.Infos.{payload-long}
use Rattle.nt_laws.proofs.Objects.{Parts, begun, block-begun, block-found, block-parts, block_behind, block_payload, ended, length-begun, parts-of, trace-begun, trace-found, trace-parts, trace_behind}
use Rattle.nt_laws.proofs.Streams.{BodiesRead, headed, object-step, stream-grouped}

-- ---- a cut

-- The part has all of this front, and goes on behind it.
abbrev GoesOn : List ℕ → List ℕ → List ℕ → List ℕ → Type 0
GoesOn front whole part rest = (more : List ℕ) × (part ≡ front ++ more) × (whole ≡ more ++ rest)

-- A first element, and what follows it.
heads : (x y : ℕ) (xs ys : List ℕ) → x ∷ xs ≡ y ∷ ys → (x ≡ y) × (xs ≡ ys)
heads x y xs ys e = (ap first e, ap others e)
  where
    first : List ℕ → ℕ
    first [] = x
    first (z ∷ zs) = z

    others : List ℕ → List ℕ
    others [] = xs
    others (z ∷ zs) = zs

-- A part ends within the front, or behind it.
split : (front whole part rest : List ℕ) → front ++ whole ≡ part ++ rest → (length part < length front) ⊎ GoesOn front whole part rest
split [] whole part rest e = inr (part, refl, e)
split (x ∷ front) whole [] rest e = inl (omega arith)
split (x ∷ front) whole (y ∷ part) rest e =
    let same = heads x y (front ++ whole) (part ++ rest) e in
    elim (split front whole part rest same.1) [
      | inl short ↦ inl (omega arith)
      | inr goes ↦ inr (goes.0, (λ i. sym same.0 i ∷ goes.1 i), goes.2)
    ]

-- A unit is not there.
unit-cut : (part : List ℕ) (n : ℕ) → length part < n → unit n part ≡ Err Cut
unit-cut part n short = cond-true _ _ _ (lt-ltb (length part) n short)

-- What stops the first step stops all.
stops : {E A B : Type 0} (first : Result A E) (fault : E) (f : A → Result B E) → first ≡ Err fault → (first >>= f) ≡ Err fault
stops first fault f there = ap (λ (r : Result _ _). r >>= f) there

-- The last unit is there, or not.
closed-cut : (items : List Item) (at : ℕ) (rest part left : List ℕ) → 6 ∷ rest ≡ part ++ left → (closed items at part ≡ Err Cut) ⊎ GoesOn (6 ∷ []) rest part left
closed-cut items at rest part left e =
    elim (split (6 ∷ []) rest part left e) [
      | inl short ↦ inl (stops _ _ _ (unit-cut part 1 short))
      | inr goes ↦ inr goes
    ]

-- ---- an object

-- The payload of a block is cut, or whole.
payload-cut : (k : BlockKind) (at : ℕ) (size padding body rest part left : List ℕ) (items : List Item) → length size ≡ 4 → number_in size 0 ≡ length body → length body ≤ READ_BYTES → length padding ≡ to_multiple_of_4 (at + 4) → body_at k (at + 4 + length padding) body ≡ Ok items → size ++ (padding ++ (body ++ 6 ∷ rest)) ≡ part ++ left → (payload_at (kind.Block k) at part ≡ Err Cut) ⊎ ((more : List ℕ) × (part ≡ size ++ (padding ++ (body ++ 6 ∷ more))) × (rest ≡ more ++ left))
payload-cut k at size padding body rest part left items four sized small padded held e =
    let fits = le-leb (number_in size 0) READ_BYTES (omega (arith, sized, small)) in
    let with_size : List ℕ → List ℕ = λ more. size ++ more in
    let with_padding : List ℕ → List ℕ = λ more. size ++ (padding ++ more) in
    elim (split size (padding ++ (body ++ 6 ∷ rest)) part left e) [
      | inl short ↦ inl (stops _ _ _ (unit-cut part 4 (omega (arith, short, four))))
      | inr one ↦
          elim (split padding (body ++ 6 ∷ rest) one.0 left one.2) [
            | inl short ↦
                inl
                (ap (payload_at (kind.Block k) at) one.1
                ∙ next _ _ _ (unit-there size one.0 4 four)
                ∙ passed _ _ _ fits
                ∙ stops _ _ _ (unit-cut one.0 (to_multiple_of_4 (at + 4)) (omega (arith, short, padded))))
            | inr two ↦
                elim (split body (6 ∷ rest) two.0 left two.2) [
                  | inl short ↦
                      inl
                      (ap (payload_at (kind.Block k) at) (one.1 ∙ ap with_size two.1)
                      ∙ next _ _ _ (unit-there size (padding ++ two.0) 4 four)
                      ∙ passed _ _ _ fits
                      ∙ next _ _ _ (unit-there padding two.0 (to_multiple_of_4 (at + 4)) padded)
                      ∙ stops _ _ _ (unit-cut two.0 (number_in size 0) (omega (arith, short, sized))))
                  | inr three ↦
                      elim (closed-cut items (at + 4 + length padding + length body) rest three.0 left three.2) [
                        | inl short ↦
                            inl
                            (ap (payload_at (kind.Block k) at) (one.1 ∙ ap with_size two.1 ∙ ap with_padding three.1)
                            ∙ next _ _ _ (unit-there size (padding ++ (body ++ three.0)) 4 four)
                            ∙ passed _ _ _ fits
                            ∙ next _ _ _ (unit-there padding (body ++ three.0) (to_multiple_of_4 (at + 4)) padded)
                            ∙ next _ _ _ (unit-there body three.0 (number_in size 0) (sym sized))
                            ∙ next _ _ _ (ap or_refused held)
                            ∙ short)
                        | inr last ↦
                            let with_body : List ℕ → List ℕ = λ more. size ++ (padding ++ (body ++ more)) in
                            inr (last.0, one.1 ∙ ap with_size two.1 ∙ ap with_padding three.1 ∙ ap with_body last.1, last.2)
                      ]
                ]
          ]
    ]

-- The name of a block's type is cut.
name-cut : (k : BlockKind) (at : ℕ) (part : List ℕ) → length part < length (ended (block_name k)) → object_at true at (begun 2 (block_name k) ++ part) ≡ Err Cut
unfolding begun fixed
name-cut block.Event at part short = rw (object_at, unit-there (begun 2 (codes "EventBlock")) part 14 refl, named_at, unit-cut part 11 short)
name-cut block.Metadata at part short = rw (object_at, unit-there (begun 2 (codes "MetadataBlock")) part 14 refl, named_at, unit-cut part 14 short)
name-cut block.Stack at part short = rw (object_at, unit-there (begun 2 (codes "StackBlock")) part 14 refl, named_at, unit-cut part 11 short)
name-cut block.Point at part short = rw (object_at, unit-there (begun 2 (codes "SPBlock")) part 14 refl, named_at, unit-cut part 8 short)

-- A block is cut, or whole.
block-cut : (b : Block) (at : ℕ) (rest part left : List ℕ) (items : List Item) → Parts at b items → block_behind b rest ≡ part ++ left → (object_at true (at + 1) part ≡ Err Cut) ⊎ ((more : List ℕ) × (part ≡ block_behind b more) × (rest ≡ more ++ left))
block-cut b at rest part left items parts e =
    let name = block_name b.kind in
    let size = fixed w32 (length b.body) in
    let place = at + 1 + 14 + length name + 1 in
    let with_head : List ℕ → List ℕ = λ more. begun 2 name ++ more in
    let with_name : List ℕ → List ℕ = λ more. begun 2 name ++ (ended name ++ more) in
    elim (split (begun 2 name) (ended name ++ (block_payload b ++ 6 ∷ rest)) part left e) [
      | inl short ↦ inl (stops _ _ _ (unit-cut part 14 (omega (arith, short, length-begun 2 name))))
      | inr one ↦
          elim (split (ended name) (block_payload b ++ 6 ∷ rest) one.0 left one.2) [
            | inl short ↦ inl (ap (object_at true (at + 1)) one.1 ∙ name-cut b.kind (at + 1) one.0 short)
            | inr two ↦
                elim (payload-cut b.kind place size b.padding b.body rest two.0 left items (length-fixed32 (length b.body)) parts.sized parts.small parts.padded parts.held (sym (body_grouped size b.padding b.body (6 ∷ rest)) ∙ two.2)) [
                  | inl short ↦ inl (ap (object_at true (at + 1)) (one.1 ∙ ap with_head two.1) ∙ block-begun b.kind (at + 1) two.0 ∙ short)
                  | inr all ↦
                      inr (all.0, one.1 ∙ ap with_head two.1 ∙ ap with_name (all.1 ∙ sym (body_grouped size b.padding b.body (6 ∷ all.0))), all.2)
                ]
          ]
    ]

-- The name of the Trace object's type is cut.
trace_name-cut : (at : ℕ) (part : List ℕ) → length part < 6 → object_at false at (begun 4 (codes "Trace") ++ part) ≡ Err Cut
unfolding begun fixed
trace_name-cut at part short = rw (object_at, unit-there (begun 4 (codes "Trace")) part 14 refl, named_at, unit-cut part 6 short)

-- The Trace object is cut, or whole.
trace-cut : (info : TraceInfo) (rest part left : List ℕ) → IsTrue (is_info info) → trace_behind info rest ≡ part ++ left → (object_at false 33 part ≡ Err Cut) ⊎ ((more : List ℕ) × (part ≡ trace_behind info more) × (rest ≡ more ++ left))
trace-cut info rest part left fits e =
    let name = codes "Trace" in
    let payload = trace_payload info in
    let with_head : List ℕ → List ℕ = λ more. begun 4 name ++ more in
    let with_name : List ℕ → List ℕ = λ more. begun 4 name ++ (ended name ++ more) in
    elim (split (begun 4 name) (ended name ++ (payload ++ 6 ∷ rest)) part left e) [
      | inl short ↦ inl (stops _ _ _ (unit-cut part 14 (omega (arith, short, length-begun 4 name))))
      | inr one ↦
          elim (split (ended name) (payload ++ 6 ∷ rest) one.0 left one.2) [
            | inl short ↦ inl (ap (object_at false 33) one.1 ∙ trace_name-cut 33 one.0 short)
            | inr two ↦
                elim (split payload (6 ∷ rest) two.0 left two.2) [
                  | inl short ↦
                      inl
                      (ap (object_at false 33) (one.1 ∙ ap with_head two.1)
                      ∙ trace-begun 33 two.0
                      ∙ stops _ _ _ (unit-cut two.0 48 (omega (arith, short, payload-long info fits))))
                  | inr three ↦
                      elim (closed-cut (record { at = 53; kind = item.Trace (info_in payload) } ∷ []) 101 rest three.0 left three.2) [
                        | inl short ↦
                            inl
                            (ap (object_at false 33) (one.1 ∙ ap with_head two.1 ∙ ap with_name three.1)
                            ∙ trace-begun 33 (payload ++ three.0)
                            ∙ next _ _ _ (unit-there payload three.0 48 (payload-long info fits))
                            ∙ short)
                        | inr last ↦
                            let with_payload : List ℕ → List ℕ = λ more. begun 4 name ++ (ended name ++ (payload ++ more)) in
                            inr (last.0, one.1 ∙ ap with_head two.1 ∙ ap with_name three.1 ∙ ap with_payload last.1, last.2)
                      ]
                ]
          ]
    ]

-- ---- a stream

-- The beginning of a stream is found, with the first of these items.
record Begins (found : Verdict) (items : List Item) : Type 0 where
  pub first : List Item
  pub others : List Item
  pub more : found ≡ More first
  pub all : items ≡ first ++ others

-- An object that is cut stops reading.
object-stop : (fuel : ℕ) (has_trace : Bool) (items : List Item) (at : ℕ) (part : List ℕ) → object_at has_trace (at + 1) part ≡ Err Cut → objects_at (suc fuel) has_trace items at (5 ∷ part) ≡ More items
unfolding objects_at
object-stop fuel has_trace items at part cut = rw (objects_at, cut)

-- No bytes are left.
nothing-left : (fuel : ℕ) (has_trace : Bool) (items : List Item) (at : ℕ) → objects_at fuel has_trace items at [] ≡ More items
unfolding objects_at
nothing-left zero has_trace items at = refl
nothing-left (suc fuel) has_trace items at = refl

-- No object is read any more.
no-fuel : (has_trace : Bool) (items : List Item) (at : ℕ) (part : List ℕ) → objects_at zero has_trace items at part ≡ More items
unfolding objects_at
no-fuel has_trace items at part = refl

-- Blocks that are cut are read as far as they go.
blocks-cut : BodiesRead → (blocks : List Block) (others items : List Item) (at fuel : ℕ) (part left : List ℕ) → CanFollow at blocks → BlocksHold at blocks others → AllByRecursion (λ block. length block.body ≤ READ_BYTES) blocks → blocks_bytes blocks ++ 1 ∷ [] ≡ part ++ left → 0 < length left → Begins (objects_at fuel true items at part) (items ++ others)
blocks-cut reads blocks others items at zero part left follow hold small e some =
    record { first = items; others = others; more = no-fuel true items at part; all = refl }
blocks-cut reads blocks others items at (suc fuel) [] left follow hold small e some =
    record { first = items; others = others; more = nothing-left (suc fuel) true items at; all = refl }
blocks-cut reads [] others items at (suc fuel) (p ∷ part) left follow hold small e some =
    absurd (omega (arith, ap length e, length-append part left, some))
blocks-cut reads (b ∷ blocks) others items at (suc fuel) (p ∷ part) left follow hold small e some =
    let rest = blocks_bytes blocks ++ 1 ∷ [] in
    let parts = parts-of b at hold.0 follow.0 small.0 (reads.body b.kind _ hold.0 b.body hold.2) in
    let same = heads 5 p (block_behind b rest) (part ++ left) (sym (block-parts b rest) ∙ sym (append_assoc (block_bytes b) (blocks_bytes blocks) (1 ∷ [])) ∙ e) in
    let tagged : objects_at (suc fuel) true items at (p ∷ part) ≡ objects_at (suc fuel) true items at (5 ∷ part) = ap (λ (tag : ℕ). objects_at (suc fuel) true items at (tag ∷ part)) (sym same.0) in
    elim (block-cut b at rest part left hold.0 parts same.1) [
      | inl cut ↦ record { first = items; others = others; more = tagged ∙ object-stop fuel true items at part cut; all = refl }
      | inr goes ↦
          let later = blocks-cut reads blocks hold.1 (items ++ hold.0) (at + length (block_bytes b)) fuel goes.0 left follow.1 hold.3 small.1 goes.2 some in
          let found : objects_at (suc fuel) true items at (5 ∷ part) ≡ objects_at fuel true (items ++ hold.0) (at + length (block_bytes b)) goes.0 =
          ap (λ (bytes : List ℕ). objects_at (suc fuel) true items at (5 ∷ bytes)) goes.1 ∙ object-step fuel true items at (block_behind b goes.0) _ (block-found b at goes.0 hold.0 parts) in
          record {
            first = later.first;
            others = later.others;
            more = tagged ∙ found ∙ later.more;
            all = ap (λ (more : List Item). items ++ more) hold.4 ∙ sym (append_assoc items hold.0 hold.1) ∙ later.all;
          }
    ]

-- What is cut behind the head is read as far as it goes.
behind-cut : BodiesRead → (info : TraceInfo) (blocks : List Block) (others : List Item) (fuel : ℕ) (part left : List ℕ) → IsTrue (is_info info) → CanFollow start_len blocks → BlocksHold start_len blocks others → AllByRecursion (λ block. length block.body ≤ READ_BYTES) blocks → trace_object info ++ (blocks_bytes blocks ++ 1 ∷ []) ≡ part ++ left → 0 < length left → Begins (objects_at fuel false [] 32 part) (trace_item info ∷ others)
behind-cut reads info blocks others zero part left fits follow hold small e some =
    record { first = []; others = trace_item info ∷ others; more = no-fuel false [] 32 part; all = refl }
behind-cut reads info blocks others (suc fuel) [] left fits follow hold small e some =
    record { first = []; others = trace_item info ∷ others; more = nothing-left (suc fuel) false [] 32; all = refl }
behind-cut reads info blocks others (suc fuel) (p ∷ part) left fits follow hold small e some =
    let rest = blocks_bytes blocks ++ 1 ∷ [] in
    let same = heads 5 p (trace_behind info rest) (part ++ left) (sym (trace-parts info rest) ∙ e) in
    let tagged : objects_at (suc fuel) false [] 32 (p ∷ part) ≡ objects_at (suc fuel) false [] 32 (5 ∷ part) = ap (λ (tag : ℕ). objects_at (suc fuel) false [] 32 (tag ∷ part)) (sym same.0) in
    elim (trace-cut info rest part left fits same.1) [
      | inl cut ↦ record { first = []; others = trace_item info ∷ others; more = tagged ∙ object-stop fuel false [] 32 part cut; all = refl }
      | inr goes ↦
          let later = blocks-cut reads blocks others (trace_item info ∷ []) start_len fuel goes.0 left follow hold small goes.2 some in
          let found : objects_at (suc fuel) false [] 32 (5 ∷ part) ≡ objects_at fuel true (trace_item info ∷ []) start_len goes.0 =
          ap (λ (bytes : List ℕ). objects_at (suc fuel) false [] 32 (5 ∷ bytes)) goes.1 ∙ object-step fuel false [] 32 (trace_behind info goes.0) _ (trace-found info goes.0 fits) in
          record { first = later.first; others = later.others; more = tagged ∙ found ∙ later.more; all = later.all }
    ]

-- The head is cut.
head-cut : (part : List ℕ) → length part < 32 → verdict part ≡ More []
head-cut part short = rw (verdict, unit-cut part 32 short)

-- The head takes 32 bytes.
length-head : length stream_head ≡ 32
unfolding fixed
length-head = refl

-- A stream that is cut anywhere is found to go on, with the first of its items.
pub stream-cut : BodiesRead → (info : TraceInfo) (items : List Item) (part left : List ℕ) → IsTrace info items (part ++ left) → 0 < length left → IsBegun items part
stream-cut reads info items part left trace some =
    let rest = trace_object info ++ (blocks_bytes trace.blocks ++ 1 ∷ []) in
    let spelled : stream_head ++ rest ≡ part ++ left = sym (trace.stream.spelled ∙ stream-grouped stream_head (trace_object info) (blocks_bytes trace.blocks)) in
    elim (split stream_head rest part left spelled) [
      | inl short ↦ record { first = []; others = items; more = head-cut part (omega (arith, short, length-head)); all = refl }
      | inr goes ↦
          let later = behind-cut reads info trace.blocks trace.others (length (stream_head ++ goes.0)) goes.0 left trace.stream.info_fits trace.stream.placed trace.bodies trace.not_large goes.2 some in
          record { first = later.first; others = later.others; more = ap verdict goes.1 ∙ headed goes.0 ∙ later.more; all = trace.hold ∙ later.all }
    ]
