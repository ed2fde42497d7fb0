-- A chain of chunks: its records chunk by chunk, and a record more in it.
use Rattle.std.proofs.Common.{◌≡◌, ℕ, zero, suc, ◌+◌, ◌-◌, ◌<◌, ◌≤◌, Bool, true, false, List, [], ◌∷◌, ◌++◌, Some, length, take, drop, refl, ap, sym, ◌∙◌, subst, append_assoc, arith, length-append}
use Rattle.std.specs.Prelude.{nat_lt, ◌==◌, ◌||◌, ◌↔◌, not, if◌then◌else◌, slice_get, slice_set, slice_index_or, IsTrue}
use Rattle.std.specs.List.{All}
use Rattle.std.proofs.lemmas.List.{append-nil, set_at, get_or_at}
use Rattle.std.proofs.lemmas.List.Concat.{flat_map-append, flat_map-cons}
use Rattle.std.proofs.lemmas.List.Elements.{All-nil, All-cons, All-head, All-tail, All-push}
use Rattle.std.proofs.lemmas.Bool.{true≢false, false≢true, or_parts, eqb-false, ltb-true, ltb-false, ne_eqb}
use Rattle.std.proofs.lemmas.Option.{same_Some, none-some}
use Rattle.ep_defs.specs.declared.limits.TheConstants.{CHUNK_BYTES}
use Rattle.ep_chunk.specs.Record.{Record, size_of, total_size}
use Rattle.ep_chunk.proofs.Holding.{total_size-push}
use Rattle.ep_model.specs.Budget.{Pending, needs_chunk, pending_with}
use Rattle.ep_slot.specs.Chain.{records_of, last_size, pending_of, with_last, HasRecords}

-- ---- one of its chunks

-- The records of a chain, about one of its chunks.
pub split_chain : (chain : List (List Record)) (place : ℕ) (chunk : List Record) → slice_get chain place ≡ Some chunk → records_of chain ≡ records_of (take place chain) ++ (chunk ++ records_of (drop (place + 1) chain))
split_chain [] place chunk is = absurd (none-some chunk is)
split_chain (first ∷ chain) zero chunk is =
    flat_map-cons (λ (c : List Record). c) first chain ∙ ap (λ (c : List Record). c ++ records_of chain) (same_Some first chunk is)
split_chain (first ∷ chain) (suc place) chunk is =
    let e : suc place + 1 ≡ suc (place + 1) = omega arith in
    let later : records_of chain ≡ records_of (take place chain) ++ (chunk ++ records_of (drop (place + 1) chain)) = split_chain chain place chunk is in
    flat_map-cons (λ (c : List Record). c) first chain
    ∙ ap (λ (rs : List Record). first ++ rs) later
    ∙ sym (append_assoc first (records_of (take place chain)) (chunk ++ records_of (drop (place + 1) chain)))
    ∙ ap (λ (rs : List Record). rs ++ (chunk ++ records_of (drop (place + 1) chain))) (sym (flat_map-cons (λ (c : List Record). c) first (take place chain)))
    ∙ ap (λ (n : ℕ). records_of (take (suc place) (first ∷ chain)) ++ (chunk ++ records_of (drop n (first ∷ chain)))) (sym e)

-- The records up to and with one of its chunks.
pub take_chain : (chain : List (List Record)) (place : ℕ) (chunk : List Record) → slice_get chain place ≡ Some chunk → records_of (take (place + 1) chain) ≡ records_of (take place chain) ++ chunk
take_chain [] place chunk is = absurd (none-some chunk is)
take_chain (first ∷ chain) zero chunk is =
    flat_map-cons (λ (c : List Record). c) first (take 0 chain) ∙ append-nil first ∙ same_Some first chunk is
take_chain (first ∷ chain) (suc place) chunk is =
    let e : suc place + 1 ≡ suc (place + 1) = omega arith in
    let later : records_of (take (place + 1) chain) ≡ records_of (take place chain) ++ chunk = take_chain chain place chunk is in
    ap (λ (n : ℕ). records_of (take n (first ∷ chain))) e
    ∙ flat_map-cons (λ (c : List Record). c) first (take (place + 1) chain)
    ∙ ap (λ (rs : List Record). first ++ rs) later
    ∙ sym (append_assoc first (records_of (take place chain)) chunk)
    ∙ ap (λ (rs : List Record). rs ++ chunk) (sym (flat_map-cons (λ (c : List Record). c) first (take place chain)))

-- ---- its last chunk

-- A chain by its last chunk.
pub record Ends (chain : List (List Record)) : Type 0 where
  pub front : List (List Record)
  pub last : List Record
  pub is : chain ≡ front ++ last ∷ []

pub ends : (chain : List (List Record)) → 0 < length chain → Ends chain
ends [] h = absurd (omega arith)
ends (chunk ∷ []) h = record { front = []; last = chunk; is = refl }
ends (chunk ∷ next ∷ chunks) h =
    let e = ends (next ∷ chunks) (omega arith) in
    record { front = chunk ∷ e.front; last = e.last; is = ap (λ (xs : List (List Record)). chunk ∷ xs) e.is }

with_last-is : (front : List (List Record)) (last : List Record) (r : Record) → with_last (front ++ last ∷ []) r ≡ front ++ (last ++ r ∷ []) ∷ []
with_last-is [] last r = refl
with_last-is (chunk ∷ []) last r = refl
with_last-is (chunk ∷ next ∷ front) last r = ap (λ (xs : List (List Record)). chunk ∷ xs) (with_last-is (next ∷ front) last r)

last_size-is : (front : List (List Record)) (last : List Record) → last_size (front ++ last ∷ []) ≡ total_size last
last_size-is [] last = refl
last_size-is (chunk ∷ []) last = refl
last_size-is (chunk ∷ next ∷ front) last = last_size-is (next ∷ front) last

-- The chunk that was lent is the last one.
pub last-is : (chain : List (List Record)) (chunk : List Record) (e : Ends chain) → chunk ≡ slice_index_or chain (length chain - 1) chunk → chunk ≡ e.last
last-is chain chunk e h =
    let len : length e.front ≡ length chain - 1 = omega (arith, ap (length {A = List Record}) e.is, length-append e.front (e.last ∷ [])) in
    h ∙ ap (λ (xs : List (List Record)). slice_index_or xs (length chain - 1) chunk) e.is ∙ get_or_at e.front e.last [] chunk (length chain - 1) len

set-last : (chain : List (List Record)) (e : Ends chain) (chunk : List Record) → slice_set chain (length chain - 1) chunk ≡ e.front ++ chunk ∷ []
set-last chain e chunk =
    let len : length e.front ≡ length chain - 1 = omega (arith, ap (length {A = List Record}) e.is, length-append e.front (e.last ∷ [])) in
    ap (λ (xs : List (List Record)). slice_set xs (length chain - 1) chunk) e.is ∙ set_at e.front e.last [] chunk (length chain - 1) len

-- A last chunk that was left as it was.
pub set-same : (chain : List (List Record)) (chunk left : List Record) → 0 < length chain → chunk ≡ slice_index_or chain (length chain - 1) chunk → left ≡ chunk → slice_set chain (length chain - 1) left ≡ chain
set-same chain chunk left some h same =
    let e = ends chain some in
    set-last chain e left ∙ ap (λ (x : List Record). e.front ++ x ∷ []) (same ∙ last-is chain chunk e h) ∙ sym e.is

-- A last chunk that got a record.
pub set-more : (chain : List (List Record)) (chunk left : List Record) (r : Record) → 0 < length chain → chunk ≡ slice_index_or chain (length chain - 1) chunk → left ≡ chunk ++ r ∷ [] → slice_set chain (length chain - 1) left ≡ with_last chain r
set-more chain chunk left r some h more =
    let e = ends chain some in
    set-last chain e left
    ∙ ap (λ (x : List Record). e.front ++ x ∷ []) (more ∙ ap (λ (x : List Record). x ++ r ∷ []) (last-is chain chunk e h))
    ∙ sym (with_last-is e.front e.last r)
    ∙ ap (λ (xs : List (List Record)). with_last xs r) (sym e.is)

-- Whichever came of it.
pub set-either : (chain : List (List Record)) (chunk left : List Record) (r : Record) (kept : Bool) → 0 < length chain → chunk ≡ slice_index_or chain (length chain - 1) chunk → left ≡ (if kept then chunk ++ r ∷ [] else chunk) → slice_set chain (length chain - 1) left ≡ (if kept then with_last chain r else chain)
set-either chain chunk left r kept some h =
    elim kept as (λ v. left ≡ (if v then chunk ++ r ∷ [] else chunk) → slice_set chain (length chain - 1) left ≡ (if v then with_last chain r else chain)) [
      | true ↦ λ e. set-more chain chunk left r some h e
      | false ↦ λ e. set-same chain chunk left some h e
    ]

-- A record is kept in the last chunk where it needs no other.
pub room-is : (chain : List (List Record)) (chunk : List Record) (size : ℕ) (kept : Bool) → 0 < length chain → chunk ≡ slice_index_or chain (length chain - 1) chunk → (IsTrue kept ↔ (total_size chunk + size ≤ CHUNK_BYTES)) → kept ≡ not (needs_chunk (pending_of chain) size)
room-is chain chunk size kept some h fits =
    let e = ends chain some in
    let same : total_size chunk ≡ last_size chain =
    ap total_size (last-is chain chunk e h) ∙ sym (last_size-is e.front e.last) ∙ ap last_size (sym e.is)
    in
    let any : (length chain == 0) ≡ false = ne_eqb (length chain) 0 (λ z. omega arith) in
    let lacks : Bool = nat_lt CHUNK_BYTES (last_size chain + size) in
    let by_room : kept ≡ not lacks =
    elim (nat_lt CHUNK_BYTES (last_size chain + size)) as (λ v. nat_lt CHUNK_BYTES (last_size chain + size) ≡ v → kept ≡ not v) [
      | true ↦ λ is. elim kept as (λ k. (IsTrue k ↔ (total_size chunk + size ≤ CHUNK_BYTES)) → k ≡ false) [
        | true ↦ λ f. let lt = ltb-true CHUNK_BYTES (last_size chain + size) is in let le = f.0 refl in absurd (omega arith)
        | false ↦ λ f. refl
      ]
          fits
      | false ↦ λ is. let le = ltb-false CHUNK_BYTES (last_size chain + size) is in fits.1 (omega arith)
    ]
    refl
    in
    by_room ∙ ap (λ (v : Bool). not (v || lacks)) (sym any)

-- ---- a record kept in the last chunk

some-chunk : (chain : List (List Record)) (size : ℕ) → needs_chunk (pending_of chain) size ≡ false → 0 < length chain
some-chunk chain size h =
    let parts = or_parts (length chain == 0) (nat_lt CHUNK_BYTES (last_size chain + size)) h in
    let ne = eqb-false (length chain) 0 parts.0 in
    omega arith

abbrev counted : ℕ → ℕ → Pending
counted chunks used = record { chunks = chunks; used = used }

pub kept-records : (chain : List (List Record)) (r : Record) (size : ℕ) → needs_chunk (pending_of chain) size ≡ false → records_of (with_last chain r) ≡ records_of chain ++ r ∷ []
kept-records chain r size h =
    let e = ends chain (some-chunk chain size h) in
    ap (λ (xs : List (List Record)). records_of (with_last xs r)) e.is
    ∙ ap records_of (with_last-is e.front e.last r)
    ∙ flat_map-append (λ (chunk : List Record). chunk) e.front ((e.last ++ r ∷ []) ∷ [])
    ∙ ap (λ (xs : List Record). records_of e.front ++ xs) (append-nil (e.last ++ r ∷ []) ∙ ap (λ (xs : List Record). xs ++ r ∷ []) (sym (append-nil e.last)))
    ∙ sym (append_assoc (records_of e.front) (e.last ++ []) (r ∷ []))
    ∙ ap (λ (xs : List Record). xs ++ r ∷ []) (sym (flat_map-append (λ (chunk : List Record). chunk) e.front (e.last ∷ [])) ∙ ap records_of (sym e.is))

pub kept-pending : (chain : List (List Record)) (r : Record) → needs_chunk (pending_of chain) (size_of r) ≡ false → pending_of (with_last chain r) ≡ pending_with (pending_of chain) (size_of r)
kept-pending chain r h =
    let e = ends chain (some-chunk chain (size_of r) h) in
    let is : with_last chain r ≡ e.front ++ (e.last ++ r ∷ []) ∷ [] = ap (λ (xs : List (List Record)). with_last xs r) e.is ∙ with_last-is e.front e.last r in
    let len : length (with_last chain r) ≡ length chain =
    omega (
      arith,
      ap (length {A = List Record}) is,
      ap (length {A = List Record}) e.is,
      length-append e.front ((e.last ++ r ∷ []) ∷ []),
      length-append e.front (e.last ∷ []),
    )
    in
    let before : last_size chain ≡ total_size e.last = ap last_size e.is ∙ last_size-is e.front e.last in
    let after : last_size (with_last chain r) ≡ total_size (e.last ++ r ∷ []) = ap last_size is ∙ last_size-is e.front (e.last ++ r ∷ []) in
    let size : last_size (with_last chain r) ≡ last_size chain + size_of r = omega (arith, total_size-push e.last r) in
    ap (λ (n : ℕ). counted n (last_size (with_last chain r))) len
    ∙ ap (λ (n : ℕ). counted (length chain) n) size
    ∙ ap (λ (v : Bool). if v then counted (length chain + 1) (size_of r) else counted (length chain) (last_size chain + size_of r)) (sym h)

pub kept-filled : (chain : List (List Record)) (r : Record) (size : ℕ) → needs_chunk (pending_of chain) size ≡ false → All HasRecords chain → All HasRecords (with_last chain r)
kept-filled chain r size h filled =
    let e = ends chain (some-chunk chain size h) in
    let is : with_last chain r ≡ e.front ++ (e.last ++ r ∷ []) ∷ [] = ap (λ (xs : List (List Record)). with_last xs r) e.is ∙ with_last-is e.front e.last r in
    let front : All HasRecords e.front = front-filled e.front (e.last ∷ []) (subst (All HasRecords) e.is filled) in
    subst (All HasRecords) (sym is) (All-push HasRecords e.front (e.last ++ r ∷ []) front (omega (arith, length-append e.last (r ∷ []))))
  where
    front-filled : (front more : List (List Record)) → All HasRecords (front ++ more) → All HasRecords front
    front-filled [] more all = All-nil HasRecords
    front-filled (chunk ∷ front) more all =
        All-cons HasRecords chunk front (All-head HasRecords chunk (front ++ more) all)
        (front-filled front more (All-tail HasRecords chunk (front ++ more) all))

-- ---- a record that begins a chunk

pub begun-pending : (chain : List (List Record)) (r : Record) → needs_chunk (pending_of chain) (size_of r) ≡ true → pending_of (chain ++ (r ∷ []) ∷ []) ≡ pending_with (pending_of chain) (size_of r)
begun-pending chain r h =
    let len : length (chain ++ (r ∷ []) ∷ []) ≡ length chain + 1 = omega (arith, length-append chain ((r ∷ []) ∷ [])) in
    let one : total_size (r ∷ []) ≡ size_of r = omega arith in
    ap (λ (n : ℕ). counted n (last_size (chain ++ (r ∷ []) ∷ []))) len
    ∙ ap (λ (n : ℕ). counted (length chain + 1) n) (last_size-is chain (r ∷ []) ∙ one)
    ∙ ap (λ (v : Bool). if v then counted (length chain + 1) (size_of r) else counted (length chain) (last_size chain + size_of r)) (sym h)

pub begun-filled : (chain : List (List Record)) (r : Record) → All HasRecords chain → All HasRecords (chain ++ (r ∷ []) ∷ [])
begun-filled chain r filled = All-push HasRecords chain (r ∷ []) filled (omega arith)

-- ---- how many chunks

-- There are no more chunks than records.
pub few-chunks : (chain : List (List Record)) → All HasRecords chain → length chain ≤ length (records_of chain)
few-chunks [] filled = omega arith
few-chunks (chunk ∷ chain) filled =
    let one : 0 < length chunk = All-head HasRecords chunk chain filled in
    let others = few-chunks chain (All-tail HasRecords chunk chain filled) in
    omega (arith, length-append chunk (records_of chain))

-- Where no chunk is needed and where one is.
not-needed : (needs : Bool) → true ≡ not needs → needs ≡ false
not-needed needs = elim needs as (λ v. true ≡ not v → v ≡ false) [ true ↦ λ e. absurd (true≢false e) | false ↦ λ e. refl ]

pub needed : (needs : Bool) → false ≡ not needs → needs ≡ true
needed needs = elim needs as (λ v. false ≡ not v → v ≡ true) [ true ↦ λ e. refl | false ↦ λ e. absurd (false≢true e) ]

-- A record that was kept in the last chunk, since no other is needed.
pub record KeptLast (old new : List (List Record)) (r : Record) : Type 0 where
  pub fits : needs_chunk (pending_of old) (size_of r) ≡ false
  pub is : new ≡ with_last old r

pub kept-last : (old new : List (List Record)) (r : Record) (kept : Bool) → kept ≡ true → kept ≡ not (needs_chunk (pending_of old) (size_of r)) → new ≡ (if kept then with_last old r else old) → KeptLast old new r
kept-last old new r kept stays room after =
    record { fits = not-needed (needs_chunk (pending_of old) (size_of r)) (sym stays ∙ room); is = after ∙ ap (λ (v : Bool). if v then with_last old r else old) stays }

-- A chain that is not empty has a chunk.
pub some-length : (chain : List (List Record)) → (chain ≡ [] → true ≡ false) → 0 < length chain
some-length [] h = absurd (true≢false (h refl))
some-length (chunk ∷ chain) h = omega arith
