-- What is put is taken back, and no written form begins another.
use Rattle.std.proofs.Common.{◌≡◌, ℕ, ◌+◌, ◌^◌, ◌<◌, ◌≤◌, Bool, true, eqb, List, [], ◌∷◌, ◌++◌, length, take, drop, get_or, codes, Option, Some, refl, ap, ◌∙◌, sym, arith, append_assoc}
use Rattle.std.specs.Prelude.{nat_lt, not, IsTrue}
use Rattle.std.specs.Int.{Width, w16, w32, w64}
use Rattle.std.specs.List.{flat_map, list_all}
use Rattle.std.proofs.lemmas.Bool.{le-ltb, cond-false, eqb-true, eq-eqb, and_parts, ltb-true}
use Rattle.std.proofs.lemmas.List.{take_at, drop_at, append_cancel_left}
use Rattle.ep_defs.specs.declared.session.TraceInfo.{TraceInfo}
use Rattle.ep_defs.specs.Session.{is_info}
use Rattle.pt_num.specs.Numbers.{fixed}
use Rattle.nt_object.specs.declared.object.BlockKind.{BlockKind}
use Rattle.nt_object.specs.declared.object.BlockKind.TheVariants as block
use Rattle.nt_object.specs.declared.head.ObjectKind.{ObjectKind}
use Rattle.nt_object.specs.declared.head.ObjectKind.TheVariants as kind
use Rattle.nt_object.specs.declared.head.ObjectHead.{ObjectHead}
use Rattle.nt_object.specs.declared.head.ObjectHead.TheVariants as head
use Rattle.nt_object.specs.Object.{object, trace_payload, trace_object, block_name, Block, block_bytes, padding_begins, to_multiple_of_4, CanStand}
use Rattle.nt_object.specs.Stream.{stream_head, stream_start}
use Rattle.nt_object.specs.Making.{begun_object}
use Rattle.nt_object.specs.Reading.{number_in, begins_well, kind_named, version_of, after_name, named_at, object_head_at}

-- ---- what is put is taken back

-- The head of an object whose parts are right.
head_taken : (bytes : List ℕ) (k : ObjectKind) (n : ℕ) → 16 + n ≤ length bytes → get_or bytes 0 0 ≡ 5 → begins_well bytes ≡ true → number_in bytes 11 ≡ n → kind_named (take n (drop 15 bytes)) ≡ Some k → get_or bytes (15 + n) 0 ≡ 6 → number_in bytes 3 ≡ version_of k → number_in bytes 7 ≡ version_of k → object_head_at bytes ≡ head.Head k (16 + n)
head_taken bytes k n long first begins name_len named ended version least =
    cond-false _ _ _ (le-ltb (length bytes) 1 (omega arith))
    ∙ cond-false _ _ _ (ap not (eq-eqb (get_or bytes 0 0) 5 first))
    ∙ cond-false _ _ _ (le-ltb (length bytes) 15 (omega arith))
    ∙ cond-false _ _ _ (ap not begins)
    ∙ cond-false _ _ _ (le-ltb (length bytes) (16 + number_in bytes 11) (omega (arith, name_len)))
    ∙ ap (λ (m : ℕ). named_at m bytes) name_len
    ∙ ap (λ (found : Option ObjectKind). after_name found n bytes) named
    ∙ cond-false _ _ _ (ap not (eq-eqb (get_or bytes (15 + n) 0) 6 ended))
    ∙ cond-false _ _ _ (ap not (eq-eqb (number_in bytes 3) (version_of k) version))
    ∙ cond-false _ _ _ (ap not (eq-eqb (number_in bytes 7) (version_of k) least))

-- What an object begins with, and its rest.
begun_grouped : (version : ℕ) (name payload rest : List ℕ) → object version name payload ++ rest ≡ begun_object version name ++ (payload ++ 6 ∷ rest)
begun_grouped version name payload rest = simp append_assoc

-- A Trace object is taken.
trace_begun : (rest : List ℕ) → object_head_at (begun_object 4 (codes "Trace") ++ rest) ≡ head.Head kind.Trace 21
unfolding fixed
trace_begun rest = head_taken (begun_object 4 (codes "Trace") ++ rest) kind.Trace 5 (omega arith) refl refl refl refl refl refl refl

-- A block is taken.
block_begun : (k : BlockKind) (rest : List ℕ) → object_head_at (begun_object 2 (block_name k) ++ rest) ≡ head.Head (kind.Block k) (16 + length (block_name k))
unfolding fixed
block_begun block.Event rest = head_taken (begun_object 2 (codes "EventBlock") ++ rest) (kind.Block block.Event) 10 (omega arith) refl refl refl refl refl refl refl
block_begun block.Metadata rest = head_taken (begun_object 2 (codes "MetadataBlock") ++ rest) (kind.Block block.Metadata) 13 (omega arith) refl refl refl refl refl refl refl
block_begun block.Stack rest = head_taken (begun_object 2 (codes "StackBlock") ++ rest) (kind.Block block.Stack) 10 (omega arith) refl refl refl refl refl refl refl
block_begun block.Point rest = head_taken (begun_object 2 (codes "SPBlock") ++ rest) (kind.Block block.Point) 7 (omega arith) refl refl refl refl refl refl refl

-- A Trace object that is put is taken back.
pub trace_taken : (info : TraceInfo) (rest : List ℕ) → object_head_at (trace_object info ++ rest) ≡ head.Head kind.Trace 21
trace_taken info rest =
    ap object_head_at (begun_grouped 4 (codes "Trace") (trace_payload info) rest) ∙ trace_begun (trace_payload info ++ 6 ∷ rest)

-- The start of a stream has a Trace object after the 32 bytes of its head.
pub start_taken : (info : TraceInfo) (rest : List ℕ) → object_head_at (drop 32 (stream_start info ++ rest)) ≡ head.Head kind.Trace 21
unfolding fixed
start_taken info rest =
    let after : drop 32 (stream_start info ++ rest) ≡ trace_object info ++ rest = ap (λ (bytes : List ℕ). drop 32 bytes) (append_assoc stream_head (trace_object info) rest) in
    ap object_head_at after ∙ trace_taken info rest

-- A block that is put is taken back.
pub block_taken : (b : Block) (rest : List ℕ) → object_head_at (block_bytes b ++ rest) ≡ head.Head (kind.Block b.kind) (16 + length (block_name b.kind))
block_taken b rest =
    let payload : List ℕ = fixed w32 (length b.body) ++ b.padding ++ b.body in
    ap object_head_at (begun_grouped 2 (block_name b.kind) payload rest) ∙ block_begun b.kind (payload ++ 6 ∷ rest)

-- ---- no written form begins another

-- The kind that an object's head is taken as.
kind_of : ObjectHead → ObjectKind
kind_of (head.Head k used) = k
kind_of head.Short = kind.Trace
kind_of (head.BadObject at) = kind.Trace
kind_of (head.BadVersion at) = kind.Trace

-- The kind of a block, where it is one.
block_of : ObjectKind → BlockKind
block_of kind.Trace = block.Event
block_of (kind.Block k) = k

-- No block begins as a Trace object does.
pub kinds_differ : (info : TraceInfo) (b : Block) (more rest : List ℕ) → trace_object info ++ more ≡ block_bytes b ++ rest → ⊥
unfolding kind_of
kinds_differ info b more rest e =
    let same : kind.Trace ≡ kind.Block b.kind = ap kind_of (sym (trace_taken info more) ∙ ap object_head_at e ∙ block_taken b rest) in
    absurd (cc)

-- Lists of one length begin alike where they are followed alike.
same_front : (a b more rest : List ℕ) → length a ≡ length b → a ++ more ≡ b ++ rest → (a ≡ b) × (more ≡ rest)
same_front a b more rest long e = (
  sym (take_at a more (length a) refl) ∙ ap (λ (bytes : List ℕ). take (length a) bytes) e ∙ take_at b rest (length a) (sym long),
  sym (drop_at a more (length a) refl) ∙ ap (λ (bytes : List ℕ). drop (length a) bytes) e ∙ drop_at b rest (length a) (sym long),
)

-- Numbers of this width and below this bound are the same where their bytes begin alike.
abbrev AreSame : Width → ℕ → Type 0
AreSame w bound = (n m : ℕ) (more other : List ℕ) → n < bound → m < bound → fixed w n ++ more ≡ fixed w m ++ other → (n ≡ m) × (more ≡ other)

-- Numbers of 16 bits, as many in both, are the same where their bytes begin alike.
same_dates : (same : AreSame w16 (2 ^ 16)) (a b more rest : List ℕ) → length a ≡ length b → list_all (λ n. nat_lt n (2 ^ 16)) a ≡ true → list_all (λ n. nat_lt n (2 ^ 16)) b ≡ true → flat_map (fixed w16) a ++ more ≡ flat_map (fixed w16) b ++ rest → (a ≡ b) × (more ≡ rest)
same_dates same [] [] more rest long first second e = (refl, e)
same_dates same [] (m ∷ b) more rest long first second e = absurd (omega (arith, long))
same_dates same (n ∷ a) [] more rest long first second e = absurd (omega (arith, long))
same_dates same (n ∷ a) (m ∷ b) more rest long first second e =
    let left = and_parts (nat_lt n (2 ^ 16)) (list_all (λ n. nat_lt n (2 ^ 16)) a) first in
    let right = and_parts (nat_lt m (2 ^ 16)) (list_all (λ n. nat_lt n (2 ^ 16)) b) second in
    let grouped = sym (append_assoc (fixed w16 n) (flat_map (fixed w16) a) more) ∙ e ∙ append_assoc (fixed w16 m) (flat_map (fixed w16) b) rest in
    let heads = same n m (flat_map (fixed w16) a ++ more) (flat_map (fixed w16) b ++ rest) (ltb-true n (2 ^ 16) left.0) (ltb-true m (2 ^ 16) right.0) grouped in
    let tails = same_dates same a b more rest (omega (arith, long)) left.1 right.1 heads.1 in
    (λ i. heads.0 i ∷ tails.0 i, tails.1)

-- The numbers of a trace fit their types.
record Fits (info : TraceInfo) : Type 0 where
  pub eight : length info.date ≡ 8
  pub dates : list_all (λ n. nat_lt n (2 ^ 16)) info.date ≡ true
  pub sync_fits : info.sync < 2 ^ 64
  pub frequency_fits : info.frequency < 2 ^ 64
  pub pointer_fits : info.pointer_size < 2 ^ 32
  pub process_fits : info.process_id < 2 ^ 32
  pub processors_fit : info.processors < 2 ^ 32
  pub rate_fits : info.rate < 2 ^ 32

-- The test of a trace's facts finds what doesn't fit.
fits : (info : TraceInfo) → IsTrue (is_info info) → Fits info
fits info h =
    let small : ℕ → Bool = λ n. nat_lt n (2 ^ 32) in
    let with_ids = and_parts _ (list_all small (info.pointer_size ∷ info.process_id ∷ info.processors ∷ info.rate ∷ [])) h in
    let with_frequency = and_parts _ (nat_lt info.frequency (2 ^ 64)) with_ids.0 in
    let with_sync = and_parts _ (nat_lt info.sync (2 ^ 64)) with_frequency.0 in
    let with_dates = and_parts (eqb (length info.date) 8) (list_all (λ n. nat_lt n (2 ^ 16)) info.date) with_sync.0 in
    let pointer = and_parts (small info.pointer_size) (list_all small (info.process_id ∷ info.processors ∷ info.rate ∷ [])) with_ids.1 in
    let process = and_parts (small info.process_id) (list_all small (info.processors ∷ info.rate ∷ [])) pointer.1 in
    let processors = and_parts (small info.processors) (list_all small (info.rate ∷ [])) process.1 in
    let rate = and_parts (small info.rate) true processors.1 in
    record {
      eight = eqb-true (length info.date) 8 with_dates.0;
      dates = with_dates.1;
      sync_fits = ltb-true info.sync (2 ^ 64) with_sync.1;
      frequency_fits = ltb-true info.frequency (2 ^ 64) with_frequency.1;
      pointer_fits = ltb-true info.pointer_size (2 ^ 32) pointer.0;
      process_fits = ltb-true info.process_id (2 ^ 32) process.0;
      processors_fit = ltb-true info.processors (2 ^ 32) processors.0;
      rate_fits = ltb-true info.rate (2 ^ 32) rate.0;
    }

-- The parts of a payload, one after another.
payload_grouped : (date sync frequency pointer process processors rate more : List ℕ) → (date ++ sync ++ frequency ++ pointer ++ process ++ processors ++ rate) ++ more ≡ date ++ (sync ++ (frequency ++ (pointer ++ (process ++ (processors ++ (rate ++ more))))))
payload_grouped date sync frequency pointer process processors rate more = simp append_assoc

-- The payloads of Trace objects are the same where their bytes begin alike.
same_payload : AreSame w16 (2 ^ 16) → AreSame w32 (2 ^ 32) → AreSame w64 (2 ^ 64) → (info other : TraceInfo) (more rest : List ℕ) → Fits info → Fits other → trace_payload info ++ more ≡ trace_payload other ++ rest → (info ≡ other) × (more ≡ rest)
same_payload same16 same32 same64 info other more rest left right e =
    let parts = sym (payload_grouped (flat_map (fixed w16) info.date) (fixed w64 info.sync) (fixed w64 info.frequency) (fixed w32 info.pointer_size) (fixed w32 info.process_id) (fixed w32 info.processors) (fixed w32 info.rate) more) ∙ e ∙ payload_grouped (flat_map (fixed w16) other.date) (fixed w64 other.sync) (fixed w64 other.frequency) (fixed w32 other.pointer_size) (fixed w32 other.process_id) (fixed w32 other.processors) (fixed w32 other.rate) rest in
    let dates = same_dates same16 info.date other.date _ _ (left.eight ∙ sym right.eight) left.dates right.dates parts in
    let syncs = same64 info.sync other.sync _ _ left.sync_fits right.sync_fits dates.1 in
    let frequencies = same64 info.frequency other.frequency _ _ left.frequency_fits right.frequency_fits syncs.1 in
    let pointers = same32 info.pointer_size other.pointer_size _ _ left.pointer_fits right.pointer_fits frequencies.1 in
    let processes = same32 info.process_id other.process_id _ _ left.process_fits right.process_fits pointers.1 in
    let processors = same32 info.processors other.processors _ _ left.processors_fit right.processors_fit processes.1 in
    let rates = same32 info.rate other.rate _ _ left.rate_fits right.rate_fits processors.1 in (
      λ i. record {
        date = dates.0 i;
        sync = syncs.0 i;
        frequency = frequencies.0 i;
        pointer_size = pointers.0 i;
        process_id = processes.0 i;
        processors = processors.0 i;
        rate = rates.0 i;
      },
      rates.1,
    )

-- What follows an equal first byte is the same.
tails : (more rest : List ℕ) → 6 ∷ more ≡ 6 ∷ rest → more ≡ rest
tails more rest e = ap (λ (bytes : List ℕ). drop 1 bytes) e

-- No start of a stream begins another.
pub same_start : AreSame w16 (2 ^ 16) → AreSame w32 (2 ^ 32) → AreSame w64 (2 ^ 64) → (info other : TraceInfo) (more rest : List ℕ) → IsTrue (is_info info) → IsTrue (is_info other) → stream_start info ++ more ≡ stream_start other ++ rest → (info ≡ other) × (more ≡ rest)
same_start same16 same32 same64 info other more rest first second e =
    let begun : List ℕ = begun_object 4 (codes "Trace") in
    let payload : TraceInfo → List ℕ → List ℕ = λ info more. trace_payload info ++ 6 ∷ more in
    let objects = append_cancel_left stream_head _ _ (sym (append_assoc stream_head (trace_object info) more) ∙ e ∙ append_assoc stream_head (trace_object other) rest) in
    let payloads = append_cancel_left begun (payload info more) (payload other rest) (sym (begun_grouped 4 (codes "Trace") (trace_payload info) more) ∙ objects ∙ begun_grouped 4 (codes "Trace") (trace_payload other) rest) in
    let same = same_payload same16 same32 same64 info other (6 ∷ more) (6 ∷ rest) (fits info first) (fits other second) payloads in
    (same.0, tails more rest same.1)

-- The size, the padding and the body, one after another.
pub body_grouped : (size padding body more : List ℕ) → (size ++ padding ++ body) ++ more ≡ size ++ (padding ++ (body ++ more))
body_grouped size padding body more = simp append_assoc

-- No block begins another that may stand at the same offset.
pub same_block : AreSame w32 (2 ^ 32) → (at : ℕ) (b c : Block) (more rest : List ℕ) → CanStand at b → CanStand at c → block_bytes b ++ more ≡ block_bytes c ++ rest → (b ≡ c) × (more ≡ rest)
unfolding kind_of block_of
same_block same32 at b c more rest first second e =
    let payload : Block → List ℕ = λ b. fixed w32 (length b.body) ++ b.padding ++ b.body in
    let kinds : b.kind ≡ c.kind = ap (λ (taken : ObjectHead). block_of (kind_of taken)) (sym (block_taken b more) ∙ ap object_head_at e ∙ block_taken c rest) in
    let begun : begun_object 2 (block_name b.kind) ≡ begun_object 2 (block_name c.kind) = ap (λ (k : BlockKind). begun_object 2 (block_name k)) kinds in
    let payloads = append_cancel_left (begun_object 2 (block_name b.kind)) (payload b ++ 6 ∷ more) (payload c ++ 6 ∷ rest)
    (sym (begun_grouped 2 (block_name b.kind) (payload b) more) ∙ e ∙ begun_grouped 2 (block_name c.kind) (payload c) rest ∙ ap (λ (bytes : List ℕ). bytes ++ (payload c ++ 6 ∷ rest)) (sym begun)) in
    let parts = sym (body_grouped (fixed w32 (length b.body)) b.padding b.body (6 ∷ more)) ∙ payloads ∙ body_grouped (fixed w32 (length c.body)) c.padding c.body (6 ∷ rest) in
    let sizes = same32 (length b.body) (length c.body) _ _ first.size second.size parts in
    let due : length b.padding ≡ length c.padding = first.padding ∙ ap (λ (k : BlockKind). to_multiple_of_4 (padding_begins at k)) kinds ∙ sym second.padding in
    let paddings = same_front b.padding c.padding _ _ due sizes.1 in
    let bodies = same_front b.body c.body (6 ∷ more) (6 ∷ rest) sizes.0 paddings.1 in
    (λ i. record { kind = kinds i; padding = paddings.0 i; body = bodies.0 i }, tails more rest bodies.1)
