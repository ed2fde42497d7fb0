-- How what a link gave grows by a read, up to the bytes of a message.
use Rattle.std.proofs.Common.{◌≡◌, ℕ, ◌+◌, ◌≤◌, ◌⊎◌, inl, inr, List, [], ◌++◌, length, take, drop, arith, sym, subst, ◌∙◌, ap, append_assoc}
use Rattle.std.proofs.lemmas.List.{append-nil, take_all, take-append-le, take_at, drop_at, drop_all, length-take-le}
use Rattle.std.proofs.Math.Seq.{take-append-add}
use Rattle.pt_io.specs.declared.source.Source.{Ghosts as Source}
use Rattle.ipc_reverse.specs.declared.limits.TheConstants.{ADVERT_BYTES}
use Rattle.ipc_reverse.specs.Received.{GaveNext}

-- These bytes were read so far.
pub record HasRead {S : Type 0} (source : Source S) (old now : S) (bytes : List ℕ) : Type 0 where
  pub given : source.given now ≡ source.given old ++ bytes
  pub left : source.left old ≡ bytes ++ source.left now

-- A piece more was read behind the first so many bytes of a buffer.
pub read_more : {S : Type 0} (source : Source S) (old now next : S) (bytes piece post : List ℕ) (there count : ℕ) → there ≤ length bytes → count ≤ length piece → HasRead source old now (take there bytes)
    → source.given next ≡ source.given now ++ take count piece → source.left now ≡ take count piece ++ source.left next
    → HasRead source old next (take (there + count) (take there bytes ++ (piece ++ post)))
read_more source old now next bytes piece post there count within few read given left =
    let size : length (take there bytes) ≡ there = length-take-le there bytes within in
    let grown : take (there + count) (take there bytes ++ (piece ++ post)) ≡ take there bytes ++ take count piece =
    ap (λ n. take (n + count) (take there bytes ++ (piece ++ post))) (sym size) ∙ take-append-add (take there bytes) (piece ++ post) count
    ∙ ap (λ xs. take there bytes ++ xs) (take-append-le count piece post few) in
    subst (HasRead source old next) (sym grown) (record {
      given = given ∙ ap (λ xs. xs ++ take count piece) read.given ∙ append_assoc (source.given old) (take there bytes) (take count piece);
      left = read.left ∙ ap (λ xs. take there bytes ++ xs) left ∙ sym (append_assoc (take there bytes) (take count piece) (source.left next));
    })

-- What a link gave and what it has left is as it was.
pub whole_on : (given now left after piece before : List ℕ) → now ≡ given ++ piece → left ≡ piece ++ after → given ++ left ≡ before → now ++ after ≡ before
whole_on given now left after piece before gave leaves whole =
    ap (λ xs. xs ++ after) gave ∙ append_assoc given piece after ∙ ap (λ xs. given ++ xs) (sym leaves) ∙ whole

-- A read that gave nothing, at the link's end.
pub none_more : {S : Type 0} (source : Source S) (old now next : S) (bytes piece : List ℕ) (count : ℕ) → HasRead source old now bytes → source.given next ≡ source.given now ++ take count piece
    → source.left now ≡ take count piece ++ source.left next → (count ≡ 0 → source.left now ≡ []) → count ≡ 0 → HasRead source old next bytes × (source.left next ≡ [])
none_more source old now next bytes piece count read given left end none =
    let nothing : take count piece ≡ [] = ap (λ n. take n piece) none in
    let rest : source.left now ≡ source.left next = left ∙ ap (λ xs. xs ++ source.left next) nothing in (
      record {
        given = given ∙ ap (λ xs. source.given now ++ xs) nothing ∙ append-nil (source.given now) ∙ read.given;
        left = read.left ∙ ap (λ xs. bytes ++ xs) rest;
      },
      sym rest ∙ end none,
    )

-- All bytes of a message were read, or all that the link had.
front : {S : Type 0} (source : Source S) (old now : S) (bytes : List ℕ) → HasRead source old now bytes → length bytes ≤ ADVERT_BYTES → (length bytes ≡ ADVERT_BYTES) ⊎ (source.left now ≡ [])
    → bytes ≡ take ADVERT_BYTES (source.left old)
front source old now bytes read few (inl all) = sym (ap (take ADVERT_BYTES) read.left ∙ take_at bytes (source.left now) ADVERT_BYTES all)
front source old now bytes read few (inr end) =
    sym (ap (take ADVERT_BYTES) (read.left ∙ ap (λ xs. bytes ++ xs) end ∙ append-nil bytes) ∙ take_all ADVERT_BYTES bytes few)

behind : {S : Type 0} (source : Source S) (old now : S) (bytes : List ℕ) → HasRead source old now bytes → length bytes ≤ ADVERT_BYTES → (length bytes ≡ ADVERT_BYTES) ⊎ (source.left now ≡ [])
    → source.left now ≡ drop ADVERT_BYTES (source.left old)
behind source old now bytes read few (inl all) = sym (ap (drop ADVERT_BYTES) read.left ∙ drop_at bytes (source.left now) ADVERT_BYTES all)
behind source old now bytes read few (inr end) =
    end ∙ sym (ap (drop ADVERT_BYTES) (read.left ∙ ap (λ xs. bytes ++ xs) end ∙ append-nil bytes) ∙ drop_all ADVERT_BYTES bytes few)

gave_next : {S : Type 0} (source : Source S) (old now : S) (bytes : List ℕ) → HasRead source old now bytes → length bytes ≤ ADVERT_BYTES → (length bytes ≡ ADVERT_BYTES) ⊎ (source.left now ≡ [])
    → GaveNext source old now ADVERT_BYTES
gave_next source old now bytes read few full = record {
  given = read.given ∙ ap (λ xs. source.given old ++ xs) (front source old now bytes read few full);
  left = behind source old now bytes read few full;
}

-- The first so many bytes of a buffer are as few as these.
first-few : (bytes : List ℕ) (there : ℕ) → length bytes ≡ ADVERT_BYTES → there ≤ ADVERT_BYTES → length (take there bytes) ≡ there
first-few bytes there size few = length-take-le there bytes (omega (arith, size, few))

full-by : (bytes rest : List ℕ) (there : ℕ) → length (take there bytes) ≡ there → (there ≡ ADVERT_BYTES) ⊎ (rest ≡ []) → (length (take there bytes) ≡ ADVERT_BYTES) ⊎ (rest ≡ [])
full-by bytes rest there long (inl all) = inl (long ∙ all)
full-by bytes rest there long (inr end) = inr end

-- What a buffer has of a message at the end.
pub filled_gave : {S : Type 0} (source : Source S) (old now : S) (bytes : List ℕ) (there : ℕ) → length bytes ≡ ADVERT_BYTES → there ≤ ADVERT_BYTES → HasRead source old now (take there bytes)
    → (there ≡ ADVERT_BYTES) ⊎ (source.left now ≡ []) → GaveNext source old now ADVERT_BYTES
filled_gave source old now bytes there size few read full =
    let long = first-few bytes there size few in
    gave_next source old now (take there bytes) read (omega (arith, long, few)) (full-by bytes (source.left now) there long full)

pub filled_front : {S : Type 0} (source : Source S) (old now : S) (bytes : List ℕ) (there : ℕ) → length bytes ≡ ADVERT_BYTES → there ≤ ADVERT_BYTES → HasRead source old now (take there bytes)
    → (there ≡ ADVERT_BYTES) ⊎ (source.left now ≡ []) → take there bytes ≡ take ADVERT_BYTES (source.left old)
filled_front source old now bytes there size few read full =
    let long = first-few bytes there size few in
    front source old now (take there bytes) read (omega (arith, long, few)) (full-by bytes (source.left now) there long full)
