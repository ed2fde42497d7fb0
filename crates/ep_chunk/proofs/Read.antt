-- What is read of a record that stands at the head of bytes.
use Rattle.std.proofs.Common.{◌≡◌, ℕ, ◌*◌, ◌≤◌, List, ◌++◌, length, take, drop, refl, ap, sym, ◌∙◌, subst, arith, length-append}
use Rattle.std.proofs.lemmas.List.{take_at, drop_at, drop-drop}
use Rattle.ep_chunk.specs.Record.{Record, IsRecord, size_of, frame_bytes, bytes_of}
use Rattle.ep_chunk.specs.Held.{record_in, HasRecord}
use Rattle.ep_chunk.proofs.Laid.{Reads, reads, length-frame_bytes, length-bytes_of}

-- What is read of a record, piece after piece.
pub record Pieces (r : Record) (bytes : List ℕ) : Type 0 where
  pub enough : size_of r ≤ length bytes
  pub fields : Reads r bytes
  pub activity : take 16 (drop 36 bytes) ≡ r.activity
  pub related : take 16 (drop 52 bytes) ≡ r.related
  pub behind : drop 68 bytes ≡ frame_bytes r.frames ++ (r.payload ++ fields.ids.0)
  pub frames : take (8 * length r.frames) (drop 68 bytes) ≡ frame_bytes r.frames
  pub payload : take (length r.payload) (drop (8 * length r.frames) (drop 68 bytes)) ≡ r.payload

-- The bytes of a record and more.
pub pieces : (r : Record) (rest : List ℕ) → IsRecord r → Pieces r (bytes_of r ++ rest)
pieces r rest fits =
    let bytes = bytes_of r ++ rest in
    let fields = reads r rest fits in
    let more = fields.ids.0 in
    let tail : List ℕ = r.payload ++ more in
    let at36 : drop 36 bytes ≡ r.activity ++ (r.related ++ (frame_bytes r.frames ++ tail)) = fields.ids.1 in
    let at52 : drop 52 bytes ≡ r.related ++ (frame_bytes r.frames ++ tail) =
    sym (drop-drop 16 36 bytes) ∙ ap (drop 16) at36 ∙ drop_at r.activity (r.related ++ (frame_bytes r.frames ++ tail)) 16 fits.activity
    in
    let at68 : drop 68 bytes ≡ frame_bytes r.frames ++ tail =
    sym (drop-drop 16 52 bytes) ∙ ap (drop 16) at52 ∙ drop_at r.related (frame_bytes r.frames ++ tail) 16 fits.related
    in
    let len = length-frame_bytes r.frames in
    record {
      enough = omega (arith, length-append (bytes_of r) rest, length-bytes_of r fits);
      fields = fields;
      activity = ap (take 16) at36 ∙ take_at r.activity (r.related ++ (frame_bytes r.frames ++ tail)) 16 fits.activity;
      related = ap (take 16) at52 ∙ take_at r.related (frame_bytes r.frames ++ tail) 16 fits.related;
      behind = at68;
      frames = ap (take (8 * length r.frames)) at68 ∙ take_at (frame_bytes r.frames) tail (8 * length r.frames) len;
      payload =
          ap (λ (xs : List ℕ). take (length r.payload) (drop (8 * length r.frames) xs)) at68
          ∙ ap (take (length r.payload)) (drop_at (frame_bytes r.frames) tail (8 * length r.frames) len)
          ∙ take_at r.payload more (length r.payload) refl;
    }

-- The record at the head of bytes, piece after piece.
pub pieces_held : (bytes : List ℕ) → HasRecord bytes → Pieces (record_in bytes) bytes
pieces_held bytes h =
    let r = record_in bytes in
    let P : List ℕ → Type 0 = λ xs. Pieces r xs in
    subst P (sym h.spelled) (pieces r (drop (size_of r) bytes) h.fitting)
