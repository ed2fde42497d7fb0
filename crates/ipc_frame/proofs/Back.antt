-- A message that was put is found, and a message that is found has the form of one.
use Rattle.std.proofs.Common.{◌≡◌, ℕ, ◌+◌, ◌-◌, ◌^◌, ◌<◌, ◌≤◌, true, false, List, [], ◌∷◌, ◌++◌, length, take, drop, Ok, nat_lt, slice_index, refl, ap, sym, ◌∙◌, arith, append_assoc, length-append, length-drop, append-nil, zero, suc}
use Rattle.std.specs.List.{slice_range}
use Rattle.std.specs.Int.{w16}
use Rattle.std.specs.Cmp.Lexicographic.{same_text}
use Rattle.std.proofs.lemmas.Grind.{common_steps}
use Rattle.std.proofs.lemmas.List.{take-append-le, take_all, length-take-le, drop-drop}
use Rattle.byteorder.specs.Numbers.{little_number-reads_back}
use Rattle.pt_num.specs.Numbers.{fixed}
use Rattle.std.proofs.Math.Seq.{take-add}
use Rattle.std.proofs.Math.Bool.{or-true}
use Rattle.ipc_frame.specs.declared.limits.TheConstants.{MAGIC, SET_AT, COMMAND_AT, SIZE_AT, HEADER_BYTES, MESSAGE_BYTES}
use Rattle.ipc_frame.specs.Message.{Message, header, found, has_magic, size_in, parts_of, IsMessage, IsReadBack}
use Rattle.ipc_frame.proofs.Finding.{found-whole}

-- Bytes that begin with a header.
pub header-magic : (set command size : ℕ) (rest : List ℕ) → has_magic (header set command size ++ rest) ≡ true
unfolding fixed
header-magic set command size rest = or-true _

pub header-size : (set command size : ℕ) (rest : List ℕ) → size < 2 ^ 16 → size_in (header set command size ++ rest) ≡ size
unfolding fixed
header-size set command size rest fits = little_number-reads_back 2 size (0 ∷ rest) fits

-- So many bytes of two parts are the first one.
cut : (body after : List ℕ) (n : ℕ) → n ≡ length body → take n (body ++ after) ≡ body
cut body after n e = grind (arith, common_steps, take-append-le {A = ℕ}, take_all {A = ℕ})

pub header-parts : (set command size : ℕ) (body after : List ℕ) → size ≡ HEADER_BYTES + length body → size < 2 ^ 16 →
    parts_of (header set command size ++ (body ++ after)) ≡ record { set = set; command = command; body = body }
unfolding fixed
header-parts set command size body after e fits =
    let n : size_in (header set command size ++ (body ++ after)) ≡ size = header-size set command size (body ++ after) fits in
    ap (λ (b : List ℕ). let m : Message = record { set = set; command = command; body = b } in m)
    (cut body after (size_in (header set command size ++ (body ++ after)) - HEADER_BYTES) (omega arith))

pub header-length : (set command size : ℕ) (rest : List ℕ) → length (header set command size ++ rest) ≡ HEADER_BYTES + length rest
unfolding fixed
header-length set command size rest = omega arith

pub read_back : (set command : ℕ) (body : List ℕ) → HEADER_BYTES + length body ≤ MESSAGE_BYTES → IsReadBack set command body
read_back set command body fits = record {
  back =
      λ after.
      let size : ℕ = HEADER_BYTES + length body in
      let bytes : List ℕ = header set command size ++ (body ++ after) in
      let s : size_in bytes ≡ HEADER_BYTES + length body = header-size set command (HEADER_BYTES + length body) (body ++ after) (omega arith) in
      let l : length bytes ≡ HEADER_BYTES + length (body ++ after) = header-length set command (HEADER_BYTES + length body) (body ++ after) in
      let b : length (body ++ after) ≡ length body + length after = length-append body after in
      ap found (append_assoc (header set command size) body after)
      ∙ found-whole bytes (header-magic set command size (body ++ after)) (omega arith) (omega arith) (omega arith)
      ∙ ap Ok (header-parts set command size body after refl (omega arith));
}

-- A part of the bytes is its first so many and the others.
pub split : (xs : List ℕ) (from to first rest whole : ℕ) → to ≡ from + first → whole ≡ first + rest →
    take whole (drop from xs) ≡ take first (drop from xs) ++ take rest (drop to xs)
split xs from to first rest whole t w = rw (t, w) (take-add first rest (drop from xs) ∙ ap (λ ys. take first (drop from xs) ++ take rest ys) (drop-drop first from xs))

-- Two bytes at a place.
pub two-at : (xs : List ℕ) (i : ℕ) → i + 2 ≤ length xs → take 2 (drop i xs) ≡ slice_index xs i ∷ slice_index xs (i + 1) ∷ []
two-at [] i h = absurd (omega arith)
two-at (x ∷ []) zero h = absurd (omega arith)
two-at (x ∷ y ∷ xs) zero h = refl
two-at (x ∷ xs) (suc i) h = let e : suc i + 1 ≡ suc (i + 1) = omega arith in rw e (two-at xs i (omega arith))

-- The first bytes are the magic.
pub begins : (bytes : List ℕ) → has_magic bytes ≡ true → HEADER_BYTES ≤ length bytes → take SIZE_AT bytes ≡ MAGIC
begins bytes magic long = let n : nat_lt (length bytes) SIZE_AT ≡ false = grind arith in sym (same_text MAGIC (take SIZE_AT bytes) (sym (rw n at magic)))

-- Bytes that are found to be a message have the form of one.
pub whole-message : (bytes : List ℕ) (size : ℕ) → has_magic bytes ≡ true → fixed w16 size ≡ take 2 (drop SIZE_AT bytes) →
    HEADER_BYTES ≤ size → size ≤ length bytes → IsMessage (slice_index bytes SET_AT) (slice_index bytes COMMAND_AT) (slice_range bytes HEADER_BYTES size) (take size bytes)
whole-message bytes size magic form least most =
    let body : List ℕ = take (size - 20) (drop 20 bytes) in
    let long : HEADER_BYTES + length body ≡ size = omega (arith, length-take-le (size - 20) (drop 20 bytes), length-drop 20 bytes) in (
      MAGIC,
      take (size - 14) (drop 14 bytes),
      refl,
      (
        take 2 (drop 14 bytes),
        take (size - 16) (drop 16 bytes),
        sym form ∙ ap (fixed w16) (sym long),
        (
          slice_index bytes 16 ∷ slice_index bytes 17 ∷ [],
          take (size - 18) (drop 18 bytes),
          refl,
          (
            take 2 (drop 18 bytes),
            take (size - 20) (drop 20 bytes),
            length-take-le 2 (drop 18 bytes) (omega (arith, length-drop 18 bytes)),
            (take (size - 20) (drop 20 bytes), [], refl, refl, sym (append-nil (take (size - 20) (drop 20 bytes)))),
            split bytes 18 20 2 (size - 20) (size - 18) refl (omega arith),
          ),
          split bytes 16 18 2 (size - 18) (size - 16) refl (omega arith) ∙ ap (λ ys. ys ++ take (size - 18) (drop 18 bytes)) (two-at bytes 16 (omega arith)),
        ),
        split bytes 14 16 2 (size - 16) (size - 14) refl (omega arith),
      ),
      split bytes 0 14 14 (size - 14) size refl (omega arith) ∙ ap (λ ys. ys ++ take (size - 14) (drop 14 bytes)) (begins bytes magic (omega arith)),
    )
