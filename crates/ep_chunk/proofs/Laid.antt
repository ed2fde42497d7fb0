-- What stands where in the bytes of a record.
use Rattle.std.proofs.Common.{◌≡◌, ℕ, ◌+◌, ◌*◌, ◌^◌, ◌<◌, List, [], ◌∷◌, ◌++◌, length, take, drop, refl, ap, sym, ◌∙◌, append_assoc, arith, length-append}
use Rattle.byteorder.specs.Endian.{little_number}
use Rattle.byteorder.specs.Numbers.{little_number-reads_back}
use Rattle.ep_chunk.specs.Record.{Record, IsRecord, size_of, head_bytes, frame_bytes, bytes_of}

-- What the fields of these bytes say of a record.
pub record Reads (r : Record) (bytes : List ℕ) : Type 0 where
  pub size : little_number 4 bytes ≡ size_of r
  pub event : little_number 4 (drop 4 bytes) ≡ r.event
  pub number : little_number 4 (drop 8 bytes) ≡ r.number
  pub frame_count : little_number 4 (drop 12 bytes) ≡ length r.frames
  pub payload_len : little_number 4 (drop 16 bytes) ≡ length r.payload
  pub thread : little_number 8 (drop 20 bytes) ≡ r.thread
  pub stamp : little_number 8 (drop 28 bytes) ≡ r.stamp
  pub ids : (rest : List ℕ) × (drop 36 bytes ≡ r.activity ++ (r.related ++ (frame_bytes r.frames ++ (r.payload ++ rest))))

-- The fields of a record's bytes are those of the record.
pub reads : (r : Record) (rest : List ℕ) → IsRecord r → Reads r (bytes_of r ++ rest)
unfolding head_bytes
reads r rest fits =
    let bytes = bytes_of r ++ rest in
    let count : length r.frames < 2 ^ 32 = omega (arith, fits.size) in
    let len : length r.payload < 2 ^ 32 = omega (arith, fits.size) in
    record {
      size = little_number-reads_back 4 (size_of r) (drop 4 bytes) fits.size;
      event = little_number-reads_back 4 r.event (drop 8 bytes) fits.event;
      number = little_number-reads_back 4 r.number (drop 12 bytes) fits.number;
      frame_count = little_number-reads_back 4 (length r.frames) (drop 16 bytes) count;
      payload_len = little_number-reads_back 4 (length r.payload) (drop 20 bytes) len;
      thread = little_number-reads_back 8 r.thread (drop 28 bytes) fits.thread;
      stamp = little_number-reads_back 8 r.stamp (drop 36 bytes) fits.stamp;
      ids = (rest, regroup r.activity r.related (frame_bytes r.frames) r.payload rest);
    }
  where
    regroup : (a b c d e : List ℕ) → ((a ++ b) ++ (c ++ d)) ++ e ≡ a ++ (b ++ (c ++ (d ++ e)))
    regroup a b c d e = simp append_assoc

-- Each frame takes eight bytes.
pub length-frame_bytes : (frames : List ℕ) → length (frame_bytes frames) ≡ 8 * length frames
length-frame_bytes [] = refl
length-frame_bytes (frame ∷ frames) = let e = length-frame_bytes frames in omega (arith, e)

-- The head has 68 bytes.
pub length-head_bytes : (r : Record) → IsRecord r → length (head_bytes r) ≡ 68
unfolding head_bytes
length-head_bytes r fits = omega (arith, length-append r.activity r.related, fits.activity, fits.related)

-- A record has as many bytes as its size says.
pub length-bytes_of : (r : Record) → IsRecord r → length (bytes_of r) ≡ size_of r
length-bytes_of r fits =
    omega (
      arith,
      length-append (head_bytes r) (frame_bytes r.frames ++ r.payload),
      length-append (frame_bytes r.frames) r.payload,
      length-frame_bytes r.frames,
      length-head_bytes r fits,
    )

-- A piece that was put after what stands before a place.
pub put_next : (old new piece done value : List ℕ) (place n : ℕ) → take place old ≡ done → piece ≡ value → length value ≡ n → take (place + length piece) new ≡ take place old ++ piece → take (place + n) new ≡ done ++ value
put_next old new piece done value place n before same len put =
    ap (λ (k : ℕ). take (place + k) new) (sym (ap (length {A = ℕ}) same ∙ len))
    ∙ put
    ∙ ap (λ (xs : List ℕ). xs ++ piece) before
    ∙ ap (λ (xs : List ℕ). done ++ xs) same
