-- What a blob, and blobs one after another, are read as.
use Rattle.std.proofs.Common.{◌≡◌, ℕ, zero, suc, ◌+◌, ◌-◌, ◌<◌, ◌≤◌, true, false, Result, Ok, Err, List, [], ◌∷◌, ◌++◌, length, take, drop, refl, sym, ap, subst, ◌∙◌, append_assoc, eq-eqb, arith, length-drop}
use Rattle.std.specs.Prelude.{IfErr}
use Rattle.std.proofs.lemmas.Bool.{lt-ltb, le-ltb, ne_eqb}
use Rattle.std.proofs.lemmas.List.{append-nil, drop-drop}
use Rattle.ep_defs.specs.declared.item.Item.{Item}
use Rattle.ep_defs.specs.declared.item.ItemKind.{ItemKind}
use Rattle.pt_num.specs.Steps.{◌>>=◌}
use Rattle.pt_num.specs.Fields.{Fault, Short, TooWide, bytes_at}
use Rattle.nt_object.specs.declared.object.BlockKind.{BlockKind}
use Rattle.nt_head.specs.declared.head.HeadState.{HeadState}
use Rattle.nt_head.specs.Head.{zero_state}
use Rattle.nt_head.specs.declared.take.HeadStop.{HeadStop}
use Rattle.nt_head.specs.declared.take.HeadStop.TheVariants as stop
use Rattle.nt_head.specs.Places.{Stops}
use Rattle.nt_head.specs.Reading.{head_at}
use Rattle.nt_blocks.specs.declared.take.Blob.{Blob}
use Rattle.nt_blocks.specs.declared.take.BodyFault.{BodyFault}
use Rattle.nt_blocks.specs.declared.take.BodyFault.TheVariants as fault
use Rattle.nt_blocks.specs.Each.{One, each_at}
use Rattle.nt_blocks.specs.Refusals.{BadHead, BlobPlace, Refusal, at_end, blob_at, blob_body_at, header_at, held_at, may_head, refusal}
use Rattle.nt_blocks.specs.Taking.{Appends, IsFault, StandsWithin}
use Rattle.nt_blocks.specs.state.Taken.{ReadsBlob, ReadsHead}
use Rattle.nt_blocks.proofs.Turns.{with_things, turn_first, turn_more, turn_stops, turn_ends}

-- ---- faults

-- A fault of the first step is that of all.
pub fault_first : {A B : Type 0} (read : Result A Refusal) (next : A → Result B Refusal) (at : ℕ) (why : BodyFault) → IsFault read at why → IsFault (read >>= next) at why
fault_first read next at (fault.BadBlock place) e = rw e
fault_first read next at (fault.BadHead place) e = rw e
fault_first read next at (fault.BadMeta place) e = rw e
fault_first read next at (fault.Uncompressed place) e = rw e
fault_first read next at fault.OutOfMemory e = tt

-- What is read alike has the same fault.
pub fault_same : {A : Type 0} (read other : Result A Refusal) (at : ℕ) (why : BodyFault) → other ≡ read → IsFault read at why → IsFault other at why
fault_same {A} read other at why same e = subst (λ (r : Result A Refusal). IsFault r at why) (sym same) e

-- A fault within fewer bytes stands within more.
pub stands_more : (few most : ℕ) (why : BodyFault) → few ≤ most → StandsWithin few why → StandsWithin most why
stands_more few most (fault.BadBlock place) more within = omega (arith, within)
stands_more few most (fault.BadHead place) more within = omega (arith, within)
stands_more few most (fault.BadMeta place) more within = omega (arith, within)
stands_more few most (fault.Uncompressed place) more within = omega (arith, within)
stands_more few most fault.OutOfMemory more within = tt

-- ---- one blob

-- A payload that is there.
payload-there : (bytes : List ℕ) (used size : ℕ) → used + size ≤ length bytes → bytes_at size (drop used bytes) ≡ Ok (take size (drop used bytes), drop size (drop used bytes))
payload-there bytes used size within =
    let long = le-ltb (length (drop used bytes)) size (omega (arith, length-drop used bytes)) in rw long

payload-cut : (bytes : List ℕ) (used size : ℕ) → length bytes < used + size → used ≤ length bytes → bytes_at size (drop used bytes) ≡ Err Short
payload-cut bytes used size past within =
    let short = lt-ltb (length (drop used bytes)) size (omega (arith, length-drop used bytes)) in rw short

-- A header that may be there, with a payload that holds something.
pub blob_found : (kind : BlockKind) (at here used : ℕ) (before head : HeadState) (bytes : List ℕ) (held : ItemKind) → ReadsHead kind before bytes head used → ((place : ℕ) → held_at kind head place (take head.size (drop used bytes)) ≡ Ok held) → blob_at kind (record { at = at + here; before = before }) bytes ≡ Ok (record { thing = record { at = at + here; kind = held }; state = record { at = at + (here + (used + head.size)); before = head }; rest = drop (used + head.size) bytes })
unfolding blob_at
blob_found kind at here used before head bytes held reads holds =
    let ends : at + here + (length bytes - length (drop head.size (drop used bytes))) ≡ at + (here + (used + head.size)) = omega (arith, length-drop used bytes, length-drop head.size (drop used bytes), reads.within) in
    rw (reads.read, reads.may, payload-there bytes used head.size reads.within, holds, ends, drop-drop head.size used bytes)

-- A payload that holds nothing.
pub blob_unheld : (kind : BlockKind) (at here used : ℕ) (before head : HeadState) (bytes : List ℕ) (why : BodyFault) → ReadsHead kind before bytes head used → IsFault (held_at kind head (at + (here + used)) (take head.size (drop used bytes))) at why → IsFault (blob_at kind (record { at = at + here; before = before }) bytes) at why
unfolding blob_at
blob_unheld kind at here used before head bytes why reads holds =
    let begins : at + here + (length bytes - length (drop used bytes)) ≡ at + (here + used) = omega (arith, length-drop used bytes, reads.within) in
    rw (reads.read, reads.may, payload-there bytes used head.size reads.within, begins) (fault_first _ _ at why holds)

-- A header that is cut or too wide.
pub blob_headless : (kind : BlockKind) (at : ℕ) (before : HeadState) (bytes : List ℕ) (why : Fault) → head_at before bytes ≡ Err why → blob_at kind (record { at = at; before = before }) bytes ≡ Err (refusal at BadHead)
unfolding blob_at
blob_headless kind at before bytes why read = rw read

-- What is taken as no header is read as none.
pub head-none : (before : HeadState) (bytes : List ℕ) (answer : Result ℕ HeadStop) → IfErr answer (λ why. Stops (head_at before) bytes 0 why) → ((used : ℕ) → answer ≡ Ok used → ⊥) → (why : Fault) × (head_at before bytes ≡ Err why)
head-none before bytes (Ok used) e other = absurd (other used refl)
head-none before bytes (Err stop.Short) e other = (Short, e)
head-none before bytes (Err (stop.BadVar at)) e other = (TooWide (drop at bytes), e.1)

-- A header that such a blob may not have.
pub blob_unfit : (kind : BlockKind) (at used : ℕ) (before head : HeadState) (bytes : List ℕ) → head_at before bytes ≡ Ok (head, drop used bytes) → may_head kind head ≡ false → blob_at kind (record { at = at; before = before }) bytes ≡ Err (refusal at BadHead)
unfolding blob_at
blob_unfit kind at used before head bytes read may = rw (read, may)

-- A payload that runs past the bytes.
pub blob_cut : (kind : BlockKind) (at used : ℕ) (before head : HeadState) (bytes : List ℕ) → head_at before bytes ≡ Ok (head, drop used bytes) → may_head kind head ≡ true → used ≤ length bytes → length bytes < used + head.size → blob_at kind (record { at = at; before = before }) bytes ≡ Err (refusal at BadHead)
unfolding blob_at
blob_cut kind at used before head bytes read may within past = rw (read, may, payload-cut bytes used head.size past within)

-- ---- blobs

-- This many items are appended, and reading goes on here.
pub record Going (kind : BlockKind) (at : ℕ) (body : List ℕ) (old : List Item) (here : ℕ) (before : HeadState) (rest : List ℕ) (items : List Item) : Type 0 where
  pub size : ℕ
  pub more : ℕ
  pub found : List Item
  pub headed : header_at at body ≡ Ok size
  pub added : items ≡ old ++ found
  pub enough : length rest ≤ more
  pub ends : here + length rest ≡ length body
  pub read : each_at at_end (blob_at kind) (suc (length body)) (record { at = at + size; before = zero_state }) (drop size body)
      ≡ with_things found (each_at at_end (blob_at kind) (suc more) (record { at = at + here; before = before }) rest)

-- Before the first blob nothing is appended.
pub going_start : (kind : BlockKind) (at size : ℕ) (body : List ℕ) (old : List Item) → header_at at body ≡ Ok size → size ≤ length body → Going kind at body old size zero_state (drop size body) old
going_start kind at size body old headed within =
    record {
      size = size;
      more = length body;
      found = [];
      headed = headed;
      added = sym (append-nil old);
      enough = omega (arith, length-drop size body);
      ends = omega (arith, length-drop size body);
      read = turn_first _;
    }

-- There is a number of turns left.
pub left-turns : (more few : ℕ) → few < more → (later : ℕ) × (more ≡ suc later) × (few ≤ later)
left-turns zero few within = absurd (omega arith)
left-turns (suc later) few within = (later, refl, omega arith)

-- A blob more is appended, and reading goes on after it.
pub going_step : (kind : BlockKind) (at here : ℕ) (body : List ℕ) (old items new : List Item) (before : HeadState) (rest : List ℕ) (blob : Blob) → Going kind at body old here before rest items → 0 < length rest → ReadsBlob kind at here before rest blob → new ≡ items ++ record { at = at + here; kind = blob.kind } ∷ [] → Going kind at body old (here + blob.used) blob.head (drop blob.used rest) new
going_step kind at here body old items new before rest blob going some reads e =
    let turns = left-turns going.more (length (drop blob.used rest)) (omega (arith, length-drop blob.used rest, reads.some, reads.within, going.enough)) in
    let one : One BlobPlace Item = record {
      thing = record { at = at + here; kind = blob.kind };
      state = record { at = at + (here + blob.used); before = blob.head };
      rest = drop blob.used rest;
    } in
    let next = turn_more at_end (blob_at kind) going.more (record { at = at + here; before = before }) rest _ going.found one going.read (ne_eqb (length rest) 0 (λ none. omega arith)) reads.read in
    record {
      size = going.size;
      more = turns.0;
      found = going.found ++ record { at = at + here; kind = blob.kind } ∷ [];
      headed = going.headed;
      added = e ∙ ap (λ (xs : List Item). xs ++ record { at = at + here; kind = blob.kind } ∷ []) going.added ∙ append_assoc old going.found _;
      enough = turns.2;
      ends = omega (arith, length-drop blob.used rest, reads.within, going.ends);
      read = rw turns.1 at next;
    }

-- Where no bytes are left all items are appended.
pub going_end : (kind : BlockKind) (at here : ℕ) (body : List ℕ) (old items : List Item) (before : HeadState) (rest : List ℕ) → Going kind at body old here before rest items → length rest ≡ 0 → Appends (blob_body_at kind at body) old items
going_end kind at here body old items before rest going none =
    let all = turn_ends at_end (blob_at kind) going.more (record { at = at + here; before = before }) rest _ going.found going.read (eq-eqb (length rest) 0 none) in
    record { found = going.found; reads = rw (going.headed, all); added = going.added }

-- A fault of a blob is that of the body.
pub going_stop : (kind : BlockKind) (at here : ℕ) (body : List ℕ) (old items : List Item) (before : HeadState) (rest : List ℕ) (why : BodyFault) → Going kind at body old here before rest items → 0 < length rest → IsFault (blob_at kind (record { at = at + here; before = before }) rest) at why → IsFault (blob_body_at kind at body) at why
going_stop kind at here body old items before rest (fault.BadBlock place) going some e =
    rw (going.headed, turn_stops at_end (blob_at kind) going.more (record { at = at + here; before = before }) rest _ going.found _ going.read (ne_eqb (length rest) 0 (λ none. omega arith)) e)
going_stop kind at here body old items before rest (fault.BadHead place) going some e =
    rw (going.headed, turn_stops at_end (blob_at kind) going.more (record { at = at + here; before = before }) rest _ going.found _ going.read (ne_eqb (length rest) 0 (λ none. omega arith)) e)
going_stop kind at here body old items before rest (fault.BadMeta place) going some e =
    rw (going.headed, turn_stops at_end (blob_at kind) going.more (record { at = at + here; before = before }) rest _ going.found _ going.read (ne_eqb (length rest) 0 (λ none. omega arith)) e)
going_stop kind at here body old items before rest (fault.Uncompressed place) going some e =
    rw (going.headed, turn_stops at_end (blob_at kind) going.more (record { at = at + here; before = before }) rest _ going.found _ going.read (ne_eqb (length rest) 0 (λ none. omega arith)) e)
going_stop kind at here body old items before rest fault.OutOfMemory going some e = tt
