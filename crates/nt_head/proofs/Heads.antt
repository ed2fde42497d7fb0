-- The header that is written for a blob says what it is to say.
use Rattle.std.proofs.Common.{◌≡◌, ℕ, ◌+◌, ◌-◌, ◌%◌, ◌^◌, ◌<◌, ◌≤◌, Bool, true, false, eqb, nat_eq, List, [], ◌∷◌, length, refl, sym, inl, inr, arith, subst, length-append}
use Rattle.std.specs.Prelude.{◌&&◌, not, unwrap_or}
use Rattle.std.specs.Option.{option_map_or}
use Rattle.std.specs.Bool.{then_some}
use Rattle.std.specs.List.{concat}
use Rattle.std.specs.Int.{w32, w64}
use Rattle.std.specs.Cmp.Lexicographic.{bytes_decides}
use Rattle.std.proofs.lemmas.Bool.{true≢false, eqb-true, ne_eqb, eq-eqb, not-false, or_parts, cases_eq}
use Rattle.std.specs.Cmp.Lexicographic.{pointwise}
use Rattle.nt_head.specs.declared.head.HeadState.{HeadState}
use Rattle.pt_num.specs.Numbers.{IsVar, short_var}
use Rattle.pt_num.specs.Pieces.{InTurn, Exactly, IfThere}
use Rattle.nt_head.specs.Head.{Sequence, HeadFields, flag_byte, IsSequence, IsGuid, AreHeadBytes, number_after, state_after, IsHead, IsState}
use Rattle.nt_head.specs.Fewest.{KeepsSequence, has_sequence, sequence_of, fewest_fields, if_there, sequence_bytes, head_bytes}
use Rattle.pt_num.proofs.Groups.{short_var-32, short_var-64, short_len}

-- ---- bytes

-- Pieces with what each is to be.
abbrev AreFit : List ((List ℕ → Type 0) × List ℕ) → Type 0
AreFit [] = Unit {0}
AreFit (piece ∷ pieces) = piece.0 piece.1 × AreFit pieces

-- What each piece is to be.
abbrev wanted : List ((List ℕ → Type 0) × List ℕ) → List (List ℕ → Type 0)
wanted [] = []
wanted (piece ∷ pieces) = piece.0 ∷ wanted pieces

-- The pieces.
abbrev texts : List ((List ℕ → Type 0) × List ℕ) → List (List ℕ)
texts [] = []
texts (piece ∷ pieces) = piece.1 ∷ texts pieces

-- Pieces that fit, in turn.
in_turn : (pieces : List ((List ℕ → Type 0) × List ℕ)) → AreFit pieces → InTurn (wanted pieces) (concat (texts pieces))
in_turn [] h = refl
in_turn (piece ∷ pieces) h = (piece.1, concat (texts pieces), h.0, in_turn pieces h.1, refl)

-- A field that is there where a test passes.
if_there-is : {A : Type 0} (P : A → List ℕ → Type 0) (bytes_of : A → List ℕ) (set : Bool) (x : A) → P x (bytes_of x) → IfThere P (then_some set x) (if_there bytes_of (then_some set x))
if_there-is P bytes_of true x p = p
if_there-is P bytes_of false x p = refl

-- The three fields of the one flag, in turn.
sequence-is : (s : Sequence) → s.increment < 2 ^ 32 → s.capture < 2 ^ 64 → s.processor < 2 ^ 32 → IsSequence s (sequence_bytes s)
sequence-is s a b c =
    in_turn
    ((IsVar w32 s.increment, short_var w32 s.increment) ∷ (IsVar w64 s.capture, short_var w64 s.capture) ∷ (IsVar w32 s.processor, short_var w32 s.processor) ∷ [])
    ((short_var-32 s.increment a).var, ((short_var-64 s.capture b).var, ((short_var-32 s.processor c).var, tt)))

-- ---- meaning

-- A value that is there where it is new.
kept_or_new : {A : Type 0} (same : Bool) (before now : A) → (same ≡ true → before ≡ now) → unwrap_or (then_some (not same) now) before ≡ now
kept_or_new true before now h = h refl
kept_or_new false before now h = refl

-- A part of the sequence.
part-is : (has : Bool) (part : Sequence → ℕ) (s : Sequence) (before : ℕ) → (has ≡ false → before ≡ part s) → option_map_or part (then_some has s) before ≡ part s
part-is true part s before h = refl
part-is false part s before h = h refl

-- The increment leads from the number after the last one to the new one.
number-far : (before number : ℕ) → number < 2 ^ 32 → (before + (number + 2 ^ 32 - (before + 1) % 2 ^ 32) % 2 ^ 32 + 1) % 2 ^ 32 ≡ number
number-far before number fits = omega arith

-- The number that is read is the one that was written.
number-is : (has : Bool) (s : Sequence) (metadata before number : ℕ) → s.increment ≡ (number + 2 ^ 32 - (before + 1) % 2 ^ 32) % 2 ^ 32 → number < 2 ^ 32 → (metadata ≡ 0 → number ≡ before) → (has ≡ false → (metadata ≡ 0 → ⊥) → number ≡ (before + 1) % 2 ^ 32) → number_after metadata before (then_some has s) ≡ number
number-is has s metadata before number e fits none next =
    elim (cases_eq metadata 0) [
      | inl z ↦ rw (eq-eqb metadata 0 z) (sym (none z))
      | inr some ↦ rw (ne_eqb metadata 0 some) (counted has (λ h. next h some))
    ]
  where
    counted : (t : Bool) → (t ≡ false → number ≡ (before + 1) % 2 ^ 32) → option_map_or (λ s. before + s.increment + 1) (then_some t s) (before + 1) % 2 ^ 32 ≡ number
    counted true h = rw e (number-far before number fits)
    counted false h = sym (h refl)

-- The increment leads from the last stamp to the new one.
stamp-is : (before now : ℕ) → before < 2 ^ 64 → now < 2 ^ 64 → (before + (now + 2 ^ 64 - before) % 2 ^ 64) % 2 ^ 64 ≡ now
stamp-is before now b n = omega arith

-- ---- headers

-- Texts that the test calls the same are the same.
same_ids : (a b : List ℕ) → pointwise nat_eq a b ≡ true → a ≡ b
same_ids a b h = (bytes_decides a b).0 h

-- Two states with the same parts are the same.
pub state-ext : (a b : HeadState) → a.metadata ≡ b.metadata → a.number ≡ b.number → a.capture ≡ b.capture → a.processor ≡ b.processor → a.thread ≡ b.thread → a.stack ≡ b.stack → a.stamp ≡ b.stamp → a.activity ≡ b.activity → a.related ≡ b.related → a.sorted ≡ b.sorted → a.size ≡ b.size → a ≡ b
state-ext a b metadata number capture processor thread stack stamp activity related sorted size =
    λ i. record {
      metadata = metadata i;
      number = number i;
      capture = capture i;
      processor = processor i;
      thread = thread i;
      stack = stack i;
      stamp = stamp i;
      activity = activity i;
      related = related i;
      sorted = sorted i;
      size = size i;
    }

-- What may stand after a blob: what a header can say, where no number changes under the metadata id 0.
pub record MayFollow (before now : HeadState) : Type 0 where
  pub fits : IsState now
  pub stamp : before.stamp < 2 ^ 64
  pub number : now.metadata ≡ 0 → now.number ≡ before.number

-- Where no sequence is written, nothing of it is new.
record IsOld (before now : HeadState) : Type 0 where
  pub number : (now.metadata ≡ 0 → ⊥) → now.number ≡ (before.number + 1) % 2 ^ 32
  pub capture : before.capture ≡ now.capture
  pub processor : before.processor ≡ now.processor

-- The test of the sequence finds whatever is new.
has_sequence-false : (before now : HeadState) → has_sequence before now ≡ false → IsOld before now
has_sequence-false before now h =
    let outer = or_parts _ (not (eqb now.processor before.processor)) h in
    let inner = or_parts _ (not (eqb now.capture before.capture)) outer.0 in
    record {
      number = λ some. eqb-true now.number _ (not-false _ (second (eqb now.metadata 0) _ (ne_eqb now.metadata 0 some) inner.0));
      capture = sym (eqb-true now.capture before.capture (not-false _ inner.1));
      processor = sym (eqb-true now.processor before.processor (not-false _ outer.1));
    }
  where
    second : (x y : Bool) → x ≡ false → (not x && y) ≡ false → y ≡ false
    second true y e h = absurd (true≢false e)
    second false y e h = h

-- The fewest fields say it.
fewest-say : (before now : HeadState) → MayFollow before now → now ≡ state_after before (fewest_fields before now)
fewest-say before now h =
    let old = λ (e : has_sequence before now ≡ false). has_sequence-false before now e in
    let same_number = λ (a b : ℕ). λ (e : eqb a b ≡ true). eqb-true a b e in
    let metadata = kept_or_new (eqb before.metadata now.metadata) before.metadata now.metadata (same_number _ _) in
    sym (state-ext (state_after before (fewest_fields before now)) now
    metadata
    (subst (λ (m : ℕ). number_after m before.number (then_some (has_sequence before now) (sequence_of before now)) ≡ now.number) (sym metadata)
    (number-is (has_sequence before now) (sequence_of before now) now.metadata before.number now.number refl h.fits.ids.number h.number (λ e. (old e).number)))
    (part-is (has_sequence before now) (λ s. s.capture) (sequence_of before now) before.capture (λ e. (old e).capture))
    (part-is (has_sequence before now) (λ s. s.processor) (sequence_of before now) before.processor (λ e. (old e).processor))
    (kept_or_new (eqb before.thread now.thread) before.thread now.thread (same_number _ _))
    (kept_or_new (eqb before.stack now.stack) before.stack now.stack (same_number _ _))
    (stamp-is before.stamp now.stamp h.stamp h.fits.stamp)
    (kept_or_new (pointwise nat_eq before.activity now.activity) before.activity now.activity (same_ids _ _))
    (kept_or_new (pointwise nat_eq before.related now.related) before.related now.related (same_ids _ _))
    refl
    (kept_or_new (eqb before.size now.size) before.size now.size (same_number _ _)))

-- An id of 16 bytes that is there where it is new.
if_new-guid : (set : Bool) (id : List ℕ) → length id ≡ 16 → IfThere IsGuid (then_some set id) (if_there (λ id. id) (then_some set id))
if_new-guid true id h = (refl, h)
if_new-guid false id h = refl

-- The bytes are those fields.
fewest-bytes : (before now : HeadState) → IsState now → AreHeadBytes (fewest_fields before now) (head_bytes before now)
fewest-bytes before now h =
    let fields : HeadFields = fewest_fields before now in
    let sequence : Sequence = sequence_of before now in
    in_turn
    ((Exactly (flag_byte fields ∷ []), flag_byte fields ∷ [])
    ∷ (IfThere (IsVar w32) fields.metadata, if_there (short_var w32) fields.metadata)
    ∷ (IfThere IsSequence fields.sequence, if_there sequence_bytes fields.sequence)
    ∷ (IfThere (IsVar w64) fields.thread, if_there (short_var w64) fields.thread)
    ∷ (IfThere (IsVar w32) fields.stack, if_there (short_var w32) fields.stack)
    ∷ (IsVar w64 fields.stamp_increment, short_var w64 fields.stamp_increment)
    ∷ (IfThere IsGuid fields.activity, if_there (λ id. id) fields.activity)
    ∷ (IfThere IsGuid fields.related, if_there (λ id. id) fields.related)
    ∷ (IfThere (IsVar w32) fields.size, if_there (short_var w32) fields.size)
    ∷ []) (
      refl,
      (
        if_there-is (IsVar w32) (short_var w32) (not (eqb before.metadata now.metadata)) now.metadata ((short_var-32 now.metadata h.ids.metadata).var),
        (
          if_there-is IsSequence sequence_bytes (has_sequence before now) sequence (sequence-is sequence (omega arith) h.capture h.ids.processor),
          (
            if_there-is (IsVar w64) (short_var w64) (not (eqb before.thread now.thread)) now.thread ((short_var-64 now.thread h.thread).var),
            (
              if_there-is (IsVar w32) (short_var w32) (not (eqb before.stack now.stack)) now.stack ((short_var-32 now.stack h.ids.stack).var),
              (
                (short_var-64 fields.stamp_increment (omega arith)).var,
                (
                  if_new-guid (not (pointwise nat_eq before.activity now.activity)) now.activity h.activity,
                  (
                    if_new-guid (not (pointwise nat_eq before.related now.related)) now.related h.related,
                    (
                      if_there-is (IsVar w32) (short_var w32) (not (eqb before.size now.size)) now.size ((short_var-32 now.size h.ids.size).var),
                      tt,
                    ),
                  ),
                ),
              ),
            ),
          ),
        ),
      ),
    )

-- What is written is a header that says it.
pub head-is : (before now : HeadState) → MayFollow before now → IsHead before now (head_bytes before now)
head-is before now h = (fewest_fields before now, fewest-bytes before now h.fits, fewest-say before now h)

-- ---- lengths

-- A field that may be there is no longer than at its longest.
there-len : {A : Type 0} (bytes_of : A → List ℕ) (set : Bool) (x : A) (most : ℕ) → length (bytes_of x) ≤ most → length (if_there bytes_of (then_some set x)) ≤ most
there-len bytes_of true x most h = h
there-len bytes_of false x most h = omega arith

-- Each piece at its longest.
abbrev AreWithin : List ℕ → List (List ℕ) → Type 0
AreWithin [] [] = Unit {0}
AreWithin [] (piece ∷ pieces) = ⊥
AreWithin (most ∷ mosts) [] = ⊥
AreWithin (most ∷ mosts) (piece ∷ pieces) = (length piece ≤ most) × AreWithin mosts pieces

-- The lengths together.
abbrev total : List ℕ → ℕ
total [] = 0
total (most ∷ mosts) = most + total mosts

-- Pieces within their lengths are together within the sum.
total-len : (mosts : List ℕ) (pieces : List (List ℕ)) → AreWithin mosts pieces → length (concat pieces) ≤ total mosts
total-len [] [] h = omega arith
total-len [] (piece ∷ pieces) h = absurd h
total-len (most ∷ mosts) [] h = absurd h
total-len (most ∷ mosts) (piece ∷ pieces) h = omega (arith, length-append piece (concat pieces), h.0, total-len mosts pieces h.1)

-- The three fields of the one flag have at most 20 bytes.
sequence-len : (s : Sequence) → length (sequence_bytes s) ≤ 20
sequence-len s = total-len (5 ∷ 10 ∷ 5 ∷ []) (short_var w32 s.increment ∷ short_var w64 s.capture ∷ short_var w32 s.processor ∷ []) (short_len 5 s.increment, (short_len 10 s.capture, (short_len 5 s.processor, tt)))

-- The nine pieces of a header, each within its length.
nine-len : (p0 p1 p2 p3 p4 p5 p6 p7 p8 : List ℕ) → length p0 ≤ 1 → length p1 ≤ 5 → length p2 ≤ 20 → length p3 ≤ 10 → length p4 ≤ 5 → length p5 ≤ 10 → length p6 ≤ 16 → length p7 ≤ 16 → length p8 ≤ 5 → length (concat (p0 ∷ p1 ∷ p2 ∷ p3 ∷ p4 ∷ p5 ∷ p6 ∷ p7 ∷ p8 ∷ [])) ≤ 88
nine-len p0 p1 p2 p3 p4 p5 p6 p7 p8 h0 h1 h2 h3 h4 h5 h6 h7 h8 =
    total-len (1 ∷ 5 ∷ 20 ∷ 10 ∷ 5 ∷ 10 ∷ 16 ∷ 16 ∷ 5 ∷ []) (p0 ∷ p1 ∷ p2 ∷ p3 ∷ p4 ∷ p5 ∷ p6 ∷ p7 ∷ p8 ∷ []) (h0, (h1, (h2, (h3, (h4, (h5, (h6, (h7, (h8, tt)))))))))

-- A header has at most 88 bytes.
pub head-len : (before now : HeadState) → IsState now → length (head_bytes before now) ≤ 88
head-len before now h =
    let fields : HeadFields = fewest_fields before now in
    let sequence : Sequence = sequence_of before now in
    nine-len (flag_byte fields ∷ []) _ _ _ _ _ _ _ _ (omega arith)
    (there-len (short_var w32) (not (eqb before.metadata now.metadata)) now.metadata 5 (short_len 5 now.metadata))
    (there-len sequence_bytes (has_sequence before now) sequence 20 (sequence-len sequence))
    (there-len (short_var w64) (not (eqb before.thread now.thread)) now.thread 10 (short_len 10 now.thread))
    (there-len (short_var w32) (not (eqb before.stack now.stack)) now.stack 5 (short_len 5 now.stack))
    (short_len 10 fields.stamp_increment)
    (there-len (λ id. id) (not (pointwise nat_eq before.activity now.activity)) now.activity 16 (omega (arith, h.activity)))
    (there-len (λ id. id) (not (pointwise nat_eq before.related now.related)) now.related 16 (omega (arith, h.related)))
    (there-len (short_var w32) (not (eqb before.size now.size)) now.size 5 (short_len 5 now.size))

-- What is written is a header, where both states fit their types.
pub written-is : (before now : HeadState) → IsState before → IsState now → (now.metadata ≡ 0 → KeepsSequence before now) → IsHead before now (head_bytes before now)
written-is before now b n keeps =
    head-is before now (record { fits = n; stamp = b.stamp; number = λ none. (keeps none).number })
