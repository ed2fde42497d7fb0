-- Objects that are there.
use Rattle.std.proofs.Common.{◌≡◌, ℕ, ◌+◌, ◌≤◌, true, false, Result, Ok, List, [], ◌∷◌, ◌++◌, length, refl, ap, sym, ◌∙◌, arith, append_assoc, length-append, codes}
use Rattle.std.specs.Prelude.{IsTrue}
use Rattle.std.specs.Int.{w32}
use Rattle.std.proofs.lemmas.Bool.{le-leb}
use Rattle.std.proofs.lemmas.List.{append-nil}
use Rattle.ep_defs.specs.declared.session.TraceInfo.{TraceInfo}
use Rattle.ep_defs.specs.Session.{is_info}
use Rattle.ep_defs.specs.declared.item.Item.{Item}
use Rattle.ep_defs.specs.declared.item.ItemKind.TheVariants as item
use Rattle.pt_num.specs.Numbers.{fixed}
use Rattle.pt_num.proofs.Lengths.{length-fixed32}
use Rattle.nt_object.specs.Stream.{start_len}
use Rattle.nt_object.specs.declared.object.BlockKind.{BlockKind}
use Rattle.nt_object.specs.declared.object.BlockKind.TheVariants as block
use Rattle.nt_object.specs.declared.head.ObjectKind.TheVariants as kind
use Rattle.nt_object.specs.Object.{object, trace_payload, trace_object, block_name, Block, block_bytes, padding_begins, to_multiple_of_4, CanStand}
use Rattle.nt_object.specs.Reading.{number_in}
use Rattle.nt_object.proofs.Fronts.{body_grouped}
use Rattle.nt_blocks.specs.declared.limits.TheConstants.{READ_BYTES}
use Rattle.nt_blocks.specs.Refusals.{body_at}
use Rattle.nt_blocks.specs.Verdict.{Object, Stop, named_at, object_at, or_refused, payload_at}
use Rattle.nt_write.specs.Trace.{body_begins, trace_item}
use Rattle.nt_laws.proofs.Units.{closed-there, next, passed, unit-there}
use Rattle.nt_laws.proofs.Infos.{info-there, number-there, payload-long}

-- ---- the parts of an object

-- The 14 bytes behind the first tag of an object.
unfoldable pub begun : ℕ → List ℕ → List ℕ
begun version name = 5 ∷ 1 ∷ [] ++ fixed w32 version ++ fixed w32 version ++ fixed w32 (length name)

-- A name with the tag behind it.
abbrev pub ended : List ℕ → List ℕ
ended name = name ++ 6 ∷ []

-- Behind its first tag an object has these 14 bytes, its name with a tag, and its payload with the last tag.
abbrev pub behind_tag : ℕ → List ℕ → List ℕ → List ℕ → List ℕ
behind_tag version name payload rest = begun version name ++ (ended name ++ (payload ++ 6 ∷ rest))

-- The parts of an object, one after another.
object-grouped : (tags first second long name six payload rest : List ℕ) → tags ++ first ++ second ++ long ++ name ++ (six ++ payload) ++ six ++ rest ≡ (tags ++ first ++ second ++ long) ++ ((name ++ six) ++ (payload ++ (six ++ rest)))
object-grouped tags first second long name six payload rest = simp append_assoc

-- An object that others follow, by its parts.
pub object-parts : (version : ℕ) (name payload rest : List ℕ) → object version name payload ++ rest ≡ 5 ∷ behind_tag version name payload rest
unfolding begun
object-parts version name payload rest =
    object-grouped (5 ∷ 5 ∷ 1 ∷ []) (fixed w32 version) (fixed w32 version) (fixed w32 (length name)) name (6 ∷ []) payload rest

-- Two tags and three numbers.
pub length-begun : (version : ℕ) (name : List ℕ) → length (begun version name) ≡ 14
unfolding begun fixed
length-begun version name = refl

-- ---- the head

-- The head of a Trace object is there.
pub trace-begun : (at : ℕ) (rest : List ℕ) → object_at false at (begun 4 (codes "Trace") ++ (ended (codes "Trace") ++ rest)) ≡ payload_at kind.Trace (at + 14 + 5 + 1) rest
unfolding begun fixed
trace-begun at rest =
    rw (object_at, unit-there (begun 4 (codes "Trace")) (ended (codes "Trace") ++ rest) 14 refl, named_at, unit-there (ended (codes "Trace")) rest 6 refl)

-- The head of a block is there.
pub block-begun : (k : BlockKind) (at : ℕ) (rest : List ℕ) → object_at true at (begun 2 (block_name k) ++ (ended (block_name k) ++ rest)) ≡ payload_at (kind.Block k) (at + 14 + length (block_name k) + 1) rest
unfolding begun fixed
block-begun block.Event at rest =
    rw (object_at, unit-there (begun 2 (codes "EventBlock")) (ended (codes "EventBlock") ++ rest) 14 refl, named_at, unit-there (ended (codes "EventBlock")) rest 11 refl)
block-begun block.Metadata at rest =
    rw (object_at, unit-there (begun 2 (codes "MetadataBlock")) (ended (codes "MetadataBlock") ++ rest) 14 refl, named_at, unit-there (ended (codes "MetadataBlock")) rest 14 refl)
block-begun block.Stack at rest =
    rw (object_at, unit-there (begun 2 (codes "StackBlock")) (ended (codes "StackBlock") ++ rest) 14 refl, named_at, unit-there (ended (codes "StackBlock")) rest 11 refl)
block-begun block.Point at rest =
    rw (object_at, unit-there (begun 2 (codes "SPBlock")) (ended (codes "SPBlock") ++ rest) 14 refl, named_at, unit-there (ended (codes "SPBlock")) rest 8 refl)

-- ---- the payload

-- The payload of a Trace object is there.
trace-payload : (at : ℕ) (info : TraceInfo) (rest : List ℕ) → IsTrue (is_info info) → payload_at kind.Trace at (trace_payload info ++ 6 ∷ rest) ≡ Ok (record { items = record { at = at; kind = item.Trace info } ∷ []; next = at + 48 + 1; rest = rest })
trace-payload at info rest fits =
    let told : TraceInfo → Object = λ info. record { items = record { at = at; kind = item.Trace info } ∷ []; next = at + 48 + 1; rest = rest } in
    let found : TraceInfo → Result Object Stop = λ info. Ok (told info) in
    next _ _ _ (unit-there (trace_payload info) (6 ∷ rest) 48 (payload-long info fits))
    ∙ closed-there _ (at + 48) rest
    ∙ ap found (info-there info fits)

-- The payload of a block is there.
block-payload : (k : BlockKind) (at : ℕ) (size padding body rest : List ℕ) (items : List Item) → length size ≡ 4 → number_in size 0 ≡ length body → length body ≤ READ_BYTES → length padding ≡ to_multiple_of_4 (at + 4) → body_at k (at + 4 + length padding) body ≡ Ok items → payload_at (kind.Block k) at (size ++ (padding ++ (body ++ 6 ∷ rest))) ≡ Ok (record { items = items; next = at + 4 + length padding + length body + 1; rest = rest })
block-payload k at size padding body rest items four sized small padded held =
    next _ _ _ (unit-there size (padding ++ (body ++ 6 ∷ rest)) 4 four)
    ∙ passed _ _ _ (le-leb (number_in size 0) READ_BYTES (omega (arith, sized, small)))
    ∙ next _ _ _ (unit-there padding (body ++ 6 ∷ rest) (to_multiple_of_4 (at + 4)) padded)
    ∙ next _ _ _ (unit-there body (6 ∷ rest) (number_in size 0) (sym sized))
    ∙ next _ _ _ (ap or_refused held)
    ∙ closed-there items (at + 4 + length padding + length body) rest

-- ---- whole objects

-- The bytes of a Trace object behind its first tag, and those that follow.
abbrev pub trace_behind : TraceInfo → List ℕ → List ℕ
trace_behind info rest = behind_tag 4 (codes "Trace") (trace_payload info) rest

-- A Trace object begins with its tag.
pub trace-parts : (info : TraceInfo) (rest : List ℕ) → trace_object info ++ rest ≡ 5 ∷ trace_behind info rest
trace-parts info rest = object-parts 4 (codes "Trace") (trace_payload info) rest

-- A Trace object is found.
pub trace-found : (info : TraceInfo) (rest : List ℕ) → IsTrue (is_info info) → object_at false 33 (trace_behind info rest) ≡ Ok (record { items = trace_item info ∷ []; next = start_len; rest = rest })
trace-found info rest fits = trace-begun 33 (trace_payload info ++ 6 ∷ rest) ∙ trace-payload 53 info rest fits

-- The size of a body, its padding and the body.
abbrev pub block_payload : Block → List ℕ
block_payload b = fixed w32 (length b.body) ++ b.padding ++ b.body

-- The bytes of a block behind its first tag, and those that follow.
abbrev pub block_behind : Block → List ℕ → List ℕ
block_behind b rest = behind_tag 2 (block_name b.kind) (block_payload b) rest

-- A block begins with its tag.
pub block-parts : (b : Block) (rest : List ℕ) → block_bytes b ++ rest ≡ 5 ∷ block_behind b rest
block-parts b rest = object-parts 2 (block_name b.kind) (block_payload b) rest

-- How many bytes a block takes.
length-block : (b : Block) → length (block_bytes b) ≡ 21 + length (block_name b.kind) + length b.padding + length b.body
length-block b =
    let name = block_name b.kind in
    let parts = ap (length {A = ℕ}) (sym (append-nil (block_bytes b)) ∙ block-parts b []) in
    omega (
      arith,
      parts,
      length-append (begun 2 name) ((name ++ 6 ∷ []) ++ (block_payload b ++ 6 ∷ [])),
      length-append (name ++ 6 ∷ []) (block_payload b ++ 6 ∷ []),
      length-append name (6 ∷ []),
      length-append (block_payload b) (6 ∷ []),
      length-append (fixed w32 (length b.body) ++ b.padding) b.body,
      length-append (fixed w32 (length b.body)) b.padding,
      length-begun 2 name,
      length-fixed32 (length b.body),
    )

-- The payload of a block that stands at this offset, by its parts.
pub record Parts (at : ℕ) (b : Block) (items : List Item) : Type 0 where
  pub sized : number_in (fixed w32 (length b.body)) 0 ≡ length b.body
  pub small : length b.body ≤ READ_BYTES
  pub padded : length b.padding ≡ to_multiple_of_4 (at + 1 + 14 + length (block_name b.kind) + 1 + 4)
  pub held : body_at b.kind (at + 1 + 14 + length (block_name b.kind) + 1 + 4 + length b.padding) b.body ≡ Ok items

pub parts-of : (b : Block) (at : ℕ) (items : List Item) → CanStand at b → length b.body ≤ READ_BYTES → body_at b.kind (body_begins at b) b.body ≡ Ok items → Parts at b items
parts-of b at items stands small held =
    let same : padding_begins at b.kind ≡ at + 1 + 14 + length (block_name b.kind) + 1 + 4 = omega arith in
    record {
      sized = number-there (fixed w32 (length b.body)) [] [] 0 (length b.body) stands.size refl (sym (append-nil (fixed w32 (length b.body))));
      small = small;
      padded = stands.padding ∙ ap to_multiple_of_4 same;
      held = ap (λ (n : ℕ). body_at b.kind (n + length b.padding) b.body) (sym same) ∙ held;
    }

-- A block is found.
pub block-found : (b : Block) (at : ℕ) (rest : List ℕ) (items : List Item) → Parts at b items → object_at true (at + 1) (block_behind b rest) ≡ Ok (record { items = items; next = at + length (block_bytes b); rest = rest })
block-found b at rest items parts =
    let size = fixed w32 (length b.body) in
    let place = at + 1 + 14 + length (block_name b.kind) + 1 in
    let ends : place + 4 + length b.padding + length b.body + 1 ≡ at + length (block_bytes b) = omega (arith, length-block b) in
    let found : ℕ → Result Object Stop = λ n. Ok (record { items = items; next = n; rest = rest }) in
    block-begun b.kind (at + 1) (block_payload b ++ 6 ∷ rest)
    ∙ ap (payload_at (kind.Block b.kind) place) (body_grouped size b.padding b.body (6 ∷ rest))
    ∙ block-payload b.kind place size b.padding b.body rest items (length-fixed32 (length b.body)) parts.sized parts.small parts.padded parts.held
    ∙ ap found ends
