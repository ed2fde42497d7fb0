-- Each body is read as the items that it holds.
use Rattle.std.proofs.Common.{◌≡◌, ◌==◌, ℕ, suc, ◌+◌, ◌-◌, ◌%◌, ◌^◌, ◌<◌, ◌≤◌, Bool, true, false, Result, Ok, List, [], ◌∷◌, ◌++◌, length, take, drop, refl, sym, ap, ◌∙◌, append_assoc, eq-eqb, arith, length-append}
use Rattle.std.specs.Prelude.{◌&&◌, nat_le}
use Rattle.std.specs.Int.{w16, w32, w64}
use Rattle.std.specs.List.{AllByRecursion, flat_map}
use Rattle.std.proofs.lemmas.Bool.{lt-ltb, le-ltb, le-leb, ne_eqb, and_from}
use Rattle.std.proofs.lemmas.List.{append-nil, take-append-le, take_all}
use Rattle.ep_defs.specs.declared.event.EventDef.{EventDef}
use Rattle.ep_defs.specs.declared.item.Item.{Item}
use Rattle.ep_defs.specs.declared.item.ItemKind.{ItemKind}
use Rattle.ep_defs.specs.declared.item.ItemKind.TheVariants as item
use Rattle.pt_num.specs.Numbers.{fixed}
use Rattle.pt_num.specs.Fields.{bytes_at, fixed_at}
use Rattle.pt_num.proofs.Lengths.{length-fixed16, length-fixed32, length-fixed64}
use Rattle.nt_meta.specs.Meta.{IsMeta}
use Rattle.nt_meta.specs.Reading.{meta_at}
use Rattle.nt_object.specs.declared.object.BlockKind.{BlockKind}
use Rattle.nt_object.specs.declared.object.BlockKind.TheVariants as block
use Rattle.nt_head.specs.declared.head.HeadState.{HeadState}
use Rattle.nt_head.specs.Head.{IsHead, zero_state}
use Rattle.nt_head.specs.Reading.{head_at}
use Rattle.nt_blocks.specs.declared.limits.TheConstants.{LAST_COUNT}
use Rattle.nt_blocks.specs.Bodies.{AreChained, AreItems, Blob, HoldsEvent, HoldsMeta, IsBlobBody, IsPointBody, IsStackBody, blob_bytes, stack_bytes, stack_items, thread_bytes}
use Rattle.nt_blocks.specs.Each.{One, Many, each_at}
use Rattle.nt_blocks.specs.Refusals.{BlobPlace, Refusal, StackPlace, at_end, blob_at, blob_body_at, header_at, held_at, may_head, point_body_at, stack_at, stack_body_at, stacks_at, thread_at, threads_at}
use Rattle.nt_blocks.proofs.Shorter.{head-left}
use Rattle.nt_blocks.proofs.TakeBlobs.{left-turns}
use Rattle.nt_blocks.proofs.TakeLists.{no_stack, no_thread}
use Rattle.nt_blocks.proofs.Turns.{each_at-end, each_at-step}

-- ---- what holds of the parts

-- Numbers are read back.
pub record NumbersBack : Type 0 where
  pub short : (n : ℕ) (rest : List ℕ) → n < 2 ^ 16 → fixed_at w16 (fixed w16 n ++ rest) ≡ Ok (n, rest)
  pub middle : (n : ℕ) (rest : List ℕ) → n < 2 ^ 32 → fixed_at w32 (fixed w32 n ++ rest) ≡ Ok (n, rest)
  pub long : (n : ℕ) (rest : List ℕ) → n < 2 ^ 64 → fixed_at w64 (fixed w64 n ++ rest) ≡ Ok (n, rest)

-- So are headers.
pub record HeadsBack : Type 0 where
  pub head : (before now : HeadState) (bytes rest : List ℕ) → IsHead before now bytes → head_at before (bytes ++ rest) ≡ Ok (now, rest)

-- And definitions.
pub record MetasBack : Type 0 where
  pub meta : (bytes : List ℕ) (id : ℕ) (def : EventDef) → IsMeta id def bytes → meta_at bytes ≡ Ok (id, def)

-- All bytes are read, as these things.
pub record ReadsAll {S A : Type 0} (read : Result (Many S A) Refusal) (things : List A) : Type 0 where
  pub state : S
  pub reads : read ≡ Ok (record { things = things; state = state; rest = [] })

-- Two numbers of two bytes.
pub two-fixed : (a b : ℕ) (rest : List ℕ) → length (fixed w16 a ++ (fixed w16 b ++ rest)) ≡ 4 + length rest
two-fixed a b rest =
    omega (arith, length-append (fixed w16 a) (fixed w16 b ++ rest), length-append (fixed w16 b) rest, length-fixed16 a, length-fixed16 b)

take-front : (xs rest : List ℕ) → take (length xs) (xs ++ rest) ≡ xs
take-front xs rest = take-append-le (length xs) xs rest (omega arith) ∙ take_all (length xs) xs (omega arith)

drop-front : (xs rest : List ℕ) → drop (length xs) (xs ++ rest) ≡ rest
drop-front [] rest = refl
drop-front (x ∷ xs) rest = drop-front xs rest

-- This many bytes are read back.
bytes-back : (xs rest : List ℕ) → bytes_at (length xs) (xs ++ rest) ≡ Ok (xs, rest)
bytes-back xs rest =
    let long = le-ltb (length (xs ++ rest)) (length xs) (omega (arith, length-append xs rest)) in
    rw (long, take-front xs rest, drop-front xs rest)

-- What ends a list of things.
nothing-left : (start at id : ℕ) (more : ℕ) → ReadsAll (each_at no_stack (stack_at start) (suc more) (record { at = at; id = id; left = 0 }) []) []
nothing-left start at id more =
    let place : StackPlace = record { at = at; id = id; left = 0 } in
    record { state = place; reads = each_at-end no_stack (stack_at start) more place [] refl }

-- One thing before others.
more-read : {S A : Type 0} (done : S → List ℕ → Bool) (step : S → List ℕ → Result (One S A) Refusal) (more : ℕ) (state : S) (bytes : List ℕ) (one : One S A) (things : List A) → done state bytes ≡ false → step state bytes ≡ Ok one → ReadsAll (each_at done step more one.state one.rest) things → ReadsAll (each_at done step (suc more) state bytes) (one.thing ∷ things)
more-read done step more state bytes one things goes taken all =
    record { state = all.state; reads = each_at-step done step more state bytes one goes taken ∙ rw all.reads }

-- ---- stacks

stack-back : NumbersBack → (start : ℕ) (place : StackPlace) (stack rest : List ℕ) → length stack < 2 ^ 32 → stack_at start place (stack_bytes stack ++ rest) ≡ Ok (record { thing = record { at = place.at; kind = item.Stack place.id stack }; state = record { at = place.at + length (stack_bytes stack); id = place.id + 1; left = place.left - 1 }; rest = rest })
unfolding stack_at
stack-back numbers start place stack rest fits =
    let ends : place.at + (length (fixed w32 (length stack) ++ (stack ++ rest)) - length rest) ≡ place.at + length (fixed w32 (length stack) ++ stack) =
    omega (arith, length-append (fixed w32 (length stack)) (stack ++ rest), length-append stack rest, length-append (fixed w32 (length stack)) stack) in
    rw (append_assoc (fixed w32 (length stack)) stack rest, numbers.middle (length stack) (stack ++ rest) fits, bytes-back stack rest, ends)

stacks-back : NumbersBack → (start at id : ℕ) (stacks : List (List ℕ)) (more : ℕ) → AllByRecursion (λ stack. length stack < 2 ^ 32) stacks → length (flat_map stack_bytes stacks) ≤ more → ReadsAll (each_at no_stack (stack_at start) (suc more) (record { at = at; id = id; left = length stacks }) (flat_map stack_bytes stacks)) (stack_items at id stacks)
stacks-back numbers start at id [] more fit few = nothing-left start at id more
stacks-back numbers start at id (stack ∷ stacks) more fit few =
    let size = length-fixed32 (length stack) in
    let turns = left-turns more (length (flat_map stack_bytes stacks)) (omega (arith, length-append (stack_bytes stack) (flat_map stack_bytes stacks), length-append (fixed w32 (length stack)) stack)) in
    let place : StackPlace = record { at = at; id = id; left = length (stack ∷ stacks) } in
    let fewer : length (stack ∷ stacks) - 1 ≡ length stacks = omega arith in
    let later = stacks-back numbers start (at + length (stack_bytes stack)) (id + 1) stacks turns.0 fit.1 turns.2 in
    let one : One StackPlace Item = record {
      thing = record { at = at; kind = item.Stack id stack };
      state = record { at = at + length (stack_bytes stack); id = id + 1; left = length (stack ∷ stacks) - 1 };
      rest = flat_map stack_bytes stacks;
    } in
    more-read no_stack (stack_at start) more place (stack_bytes stack ++ flat_map stack_bytes stacks) one (stack_items (at + length (stack_bytes stack)) (id + 1) stacks) (ne_eqb (length (stack ∷ stacks)) 0 (λ none. omega arith)) (stack-back numbers start place stack (flat_map stack_bytes stacks) fit.0)
    (rw (turns.1, fewer) later)

-- A body of stacks.
pub stack_body-back : NumbersBack → (at : ℕ) (items : List Item) (bytes : List ℕ) → IsStackBody at items bytes → stack_body_at at bytes ≡ Ok items
unfolding stack_body_at stacks_at
stack_body-back numbers at items bytes body =
    let flat = flat_map stack_bytes body.stacks in
    let count = length body.stacks in
    let all = stacks-back numbers at (at + 8) body.first body.stacks (length flat) body.sizes_fit (omega arith) in
    rw (body.spelled, append_assoc (fixed w32 body.first) (fixed w32 count) flat, numbers.middle body.first (fixed w32 count ++ flat) (omega (arith, body.first_fits)), numbers.middle count flat (omega (arith, body.count_fits)), and_from _ _ (le-leb body.first LAST_COUNT (omega (arith, body.first_fits))) (le-leb count LAST_COUNT (omega (arith, body.count_fits))), all.reads, body.hold)

-- ---- points

thread-back : NumbersBack → (start left : ℕ) (thread : ℕ × ℕ) (rest : List ℕ) → thread.0 < 2 ^ 64 → thread.1 < 2 ^ 32 → thread_at start left (thread_bytes thread ++ rest) ≡ Ok (record { thing = thread; state = left - 1; rest = rest })
unfolding thread_at
thread-back numbers start left thread rest thread_fits number_fits =
    rw (append_assoc (fixed w64 thread.0) (fixed w32 thread.1) rest, numbers.long thread.0 (fixed w32 thread.1 ++ rest) thread_fits, numbers.middle thread.1 rest number_fits)

threads-back : NumbersBack → (start : ℕ) (threads : List (ℕ × ℕ)) (more : ℕ) → AllByRecursion (λ thread. (thread.0 < 2 ^ 64) × (thread.1 < 2 ^ 32)) threads → length (flat_map thread_bytes threads) ≤ more → ReadsAll (each_at no_thread (thread_at start) (suc more) (length threads) (flat_map thread_bytes threads)) threads
threads-back numbers start [] more fit few = record { state = 0; reads = each_at-end no_thread (thread_at start) more 0 [] refl }
threads-back numbers start (thread ∷ threads) more fit few =
    let size = length-fixed64 thread.0 in
    let turns = left-turns more (length (flat_map thread_bytes threads)) (omega (arith, length-append (thread_bytes thread) (flat_map thread_bytes threads), length-append (fixed w64 thread.0) (fixed w32 thread.1))) in
    let fewer : length (thread ∷ threads) - 1 ≡ length threads = omega arith in
    let later = threads-back numbers start threads turns.0 fit.1 turns.2 in
    let one : One ℕ (ℕ × ℕ) = record { thing = thread; state = length (thread ∷ threads) - 1; rest = flat_map thread_bytes threads } in
    more-read no_thread (thread_at start) more (length (thread ∷ threads)) (thread_bytes thread ++ flat_map thread_bytes threads) one threads (ne_eqb (length (thread ∷ threads)) 0 (λ none. omega arith)) (thread-back numbers start (length (thread ∷ threads)) thread (flat_map thread_bytes threads) fit.0.0 fit.0.1)
    (rw (turns.1, fewer) later)

-- The body of a point.
pub point_body-back : NumbersBack → (at : ℕ) (items : List Item) (bytes : List ℕ) → IsPointBody at items bytes → point_body_at at bytes ≡ Ok items
unfolding point_body_at threads_at
point_body-back numbers at items bytes body =
    let flat = flat_map thread_bytes body.threads in
    let count = length body.threads in
    let all = threads-back numbers at body.threads (length flat) body.threads_fit (omega arith) in
    rw (body.spelled, append_assoc (fixed w64 body.stamp) (fixed w32 count) flat, numbers.long body.stamp (fixed w32 count ++ flat) body.stamp_fits, numbers.middle count flat (omega (arith, body.count_fits)), le-leb count LAST_COUNT (omega (arith, body.count_fits)), all.reads, body.hold)

-- ---- blobs

blob-back : HeadsBack → (kind : BlockKind) (at : ℕ) (before : HeadState) (blob : Blob) (held : ItemKind) (rest : List ℕ) → IsHead before blob.state blob.head → length blob.payload ≡ blob.state.size → may_head kind blob.state ≡ true → ((place : ℕ) → held_at kind blob.state place blob.payload ≡ Ok held) → blob_at kind (record { at = at; before = before }) (blob_bytes blob ++ rest) ≡ Ok (record { thing = record { at = at; kind = held }; state = record { at = at + length (blob_bytes blob); before = blob.state }; rest = rest })
unfolding blob_at
blob-back heads kind at before blob held rest is sized may holds =
    let ends : at + (length (blob.head ++ (blob.payload ++ rest)) - length rest) ≡ at + length (blob.head ++ blob.payload) =
    omega (arith, length-append blob.head (blob.payload ++ rest), length-append blob.payload rest, length-append blob.head blob.payload) in
    let there : bytes_at blob.state.size (blob.payload ++ rest) ≡ Ok (blob.payload, rest) = rw sized at (bytes-back blob.payload rest) in
    rw (append_assoc blob.head blob.payload rest, heads.head before blob.state blob.head (blob.payload ++ rest) is, may, there, holds, ends)

-- A blob has bytes.
blob-some : HeadsBack → (before : HeadState) (blob : Blob) → IsHead before blob.state blob.head → 0 < length (blob_bytes blob)
blob-some heads before blob is =
    let left = head-left before blob.state (blob.head ++ blob.payload) blob.payload (heads.head before blob.state blob.head blob.payload is) in
    omega (arith, left)

blobs-back : HeadsBack → (Holds : Blob → ItemKind → Type 0) (kind : BlockKind) → ((blob : Blob) (held : ItemKind) → Holds blob held → (may_head kind blob.state ≡ true) × ((place : ℕ) → held_at kind blob.state place blob.payload ≡ Ok held)) → (at : ℕ) (before : HeadState) (blobs : List Blob) (items : List Item) (more : ℕ) → AreChained before blobs → AreItems Holds at blobs items → length (flat_map blob_bytes blobs) ≤ more → ReadsAll (each_at at_end (blob_at kind) (suc more) (record { at = at; before = before }) (flat_map blob_bytes blobs)) items
blobs-back heads Holds kind gives at before [] items more chained hold few =
    let place : BlobPlace = record { at = at; before = before } in
    let none : ReadsAll (each_at at_end (blob_at kind) (suc more) place []) [] = record { state = place; reads = each_at-end at_end (blob_at kind) more place [] refl } in
    rw hold none
blobs-back heads Holds kind gives at before (blob ∷ blobs) items more chained hold few =
    let some = blob-some heads before blob chained.0 in
    let turns = left-turns more (length (flat_map blob_bytes blobs)) (omega (arith, length-append (blob_bytes blob) (flat_map blob_bytes blobs))) in
    let given = gives blob hold.0 hold.2 in
    let later = blobs-back heads Holds kind gives (at + length (blob_bytes blob)) blob.state blobs hold.1 turns.0 chained.2 hold.3 turns.2 in
    let place : BlobPlace = record { at = at; before = before } in
    let one : One BlobPlace Item = record {
      thing = record { at = at; kind = hold.0 };
      state = record { at = at + length (blob_bytes blob); before = blob.state };
      rest = flat_map blob_bytes blobs;
    } in
    rw hold.4
    (more-read at_end (blob_at kind) more place (blob_bytes blob ++ flat_map blob_bytes blobs) one hold.1 (ne_eqb (length (blob_bytes blob ++ flat_map blob_bytes blobs)) 0 (λ none. omega (arith, length-append (blob_bytes blob) (flat_map blob_bytes blobs)))) (blob-back heads kind at before blob hold.0 (flat_map blob_bytes blobs) chained.0 chained.1 given.0 given.1)
    (rw turns.1 later))

-- The header of a body of blobs, by its numbers.
header-parts : (at size flags : ℕ) (body rest last : List ℕ) → 20 ≤ length body → fixed_at w16 body ≡ Ok (size, rest) → (nat_le 20 size && nat_le size (length body)) ≡ true → fixed_at w16 rest ≡ Ok (flags, last) → (flags % 2 == 1) ≡ true → header_at at body ≡ Ok size
unfolding header_at
header-parts at size flags body rest last long sized fits flagged odd = rw (le-leb 20 (length body) long, sized, fits, flagged, odd)

-- The header of a body of blobs.
header-back : NumbersBack → (at flags : ℕ) (front more rest : List ℕ) → length front ≡ 16 → 20 + length more < 2 ^ 16 → flags < 2 ^ 16 → flags % 2 ≡ 1 → header_at at (fixed w16 (20 + length more) ++ (fixed w16 flags ++ (front ++ (more ++ rest)))) ≡ Ok (20 + length more)
header-back numbers at flags front more rest long size_fits flags_fit odd =
    let size : length (fixed w16 (20 + length more) ++ (fixed w16 flags ++ (front ++ (more ++ rest)))) ≡ 20 + length more + length rest =
    omega (arith, length-append front (more ++ rest), length-append more rest, long, two-fixed (20 + length more) flags (front ++ (more ++ rest))) in
    header-parts at (20 + length more) flags _ (fixed w16 flags ++ (front ++ (more ++ rest))) (front ++ (more ++ rest)) (omega arith)
    (numbers.short (20 + length more) (fixed w16 flags ++ (front ++ (more ++ rest))) size_fits)
    (and_from _ _ (le-leb 20 (20 + length more) (omega arith)) (le-leb (20 + length more) _ (omega arith)))
    (numbers.short flags (front ++ (more ++ rest)) flags_fit)
    (eq-eqb (flags % 2) 1 odd)

-- After this many bytes.
pub drop-behind : (n : ℕ) (front rest : List ℕ) → length front ≡ n → drop n (front ++ rest) ≡ rest
drop-behind n front rest e = rw (← e) (drop-front front rest)

-- A header, and the blobs after it.
body-read : (kind : BlockKind) (at size : ℕ) (body flat : List ℕ) (items : List Item) → header_at at body ≡ Ok size → drop size body ≡ flat → ReadsAll (each_at at_end (blob_at kind) (suc (length body)) (record { at = at + size; before = zero_state }) flat) items → blob_body_at kind at body ≡ Ok items
body-read kind at size body flat items headed dropped all = rw (headed, dropped, all.reads)

-- A body of blobs.
blob_body-back : NumbersBack → HeadsBack → (Holds : Blob → ItemKind → Type 0) (kind : BlockKind) → ((blob : Blob) (held : ItemKind) → Holds blob held → (may_head kind blob.state ≡ true) × ((place : ℕ) → held_at kind blob.state place blob.payload ≡ Ok held)) → (at : ℕ) (items : List Item) (bytes : List ℕ) → IsBlobBody Holds at items bytes → blob_body_at kind at bytes ≡ Ok items
blob_body-back numbers heads Holds kind gives at items bytes body =
    let stamps = fixed w64 body.least ++ fixed w64 body.greatest in
    let flat = flat_map blob_bytes body.blobs in
    let long : length (fixed w64 body.least ++ fixed w64 body.greatest) ≡ 16 = omega (arith, length-append (fixed w64 body.least) (fixed w64 body.greatest), length-fixed64 body.least, length-fixed64 body.greatest) in
    let front = fixed w16 (20 + length body.more) ++ (fixed w16 body.flags ++ (stamps ++ body.more)) in
    let spelled : bytes ≡ fixed w16 (20 + length body.more) ++ (fixed w16 body.flags ++ (stamps ++ (body.more ++ flat))) =
    body.spelled ∙ (rw (append-nil flat, append_assoc (fixed w64 body.least) (fixed w64 body.greatest) (body.more ++ flat))) in
    let behind : bytes ≡ front ++ flat =
    spelled ∙ sym (rw (append_assoc (fixed w16 (20 + length body.more)) (fixed w16 body.flags ++ (stamps ++ body.more)) flat, append_assoc (fixed w16 body.flags) (stamps ++ body.more) flat, append_assoc stamps body.more flat)) in
    let size : length front ≡ 20 + length body.more = omega (arith, two-fixed (20 + length body.more) body.flags (stamps ++ body.more), length-append stamps body.more, long) in
    let few : length flat ≤ length bytes = omega (arith, ap length behind, length-append front flat) in
    body-read kind at (20 + length body.more) bytes flat items
    (rw spelled (header-back numbers at body.flags stamps body.more flat long body.size_fits body.flags_fit body.compressed))
    (rw behind (drop-behind (20 + length body.more) front flat size))
    (blobs-back heads Holds kind gives (at + (20 + length body.more)) zero_state body.blobs items (length bytes) body.chained body.hold few)

-- A body of events.
pub event_body-back : NumbersBack → HeadsBack → (at : ℕ) (items : List Item) (bytes : List ℕ) → IsBlobBody HoldsEvent at items bytes → blob_body_at block.Event at bytes ≡ Ok items
event_body-back numbers heads at items bytes body =
    blob_body-back numbers heads HoldsEvent block.Event (λ blob held holds. (lt-ltb 0 blob.state.metadata holds.0, λ place. rw holds.1)) at items bytes body

-- A body of definitions.
pub meta_body-back : NumbersBack → HeadsBack → MetasBack → (at : ℕ) (items : List Item) (bytes : List ℕ) → IsBlobBody HoldsMeta at items bytes → blob_body_at block.Metadata at bytes ≡ Ok items
meta_body-back numbers heads metas at items bytes body =
    blob_body-back numbers heads HoldsMeta block.Metadata (λ blob held holds. (refl, λ place. rw (metas.meta blob.payload holds.0 holds.1 holds.2, holds.3))) at items bytes body
