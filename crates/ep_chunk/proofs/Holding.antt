-- The bytes of records give the records back.
use Rattle.std.proofs.Common.{◌≡◌, ℕ, zero, suc, ◌+◌, ◌*◌, ◌^◌, ◌<◌, ◌≤◌, List, [], ◌∷◌, ◌++◌, length, take, drop, refl, ap, sym, ◌∙◌, subst, arith, rules, length-append}
use Rattle.std.proofs.lemmas.List.{drop_at, append-nil, drop-drop}
use Rattle.std.proofs.lemmas.List.Elements.{All-head, All-tail, All-push}
use Rattle.std.proofs.lemmas.List.Concat.{flat_map-append}
use Rattle.std.specs.List.{All, flat_map}
use Rattle.byteorder.specs.Endian.{little_number}
use Rattle.byteorder.specs.Numbers.{little_number-reads_back}
use Rattle.ep_chunk.specs.declared.limits.TheConstants.{CHUNK_LEN}
use Rattle.ep_chunk.specs.Record.{Record, IsRecord, size_of, total_size, frame_bytes, bytes_of}
use Rattle.ep_chunk.specs.Held.{numbers_in, record_in, records_in, records_within, IsHeld}
use Rattle.ep_chunk.proofs.Laid.{length-bytes_of}
use Rattle.ep_chunk.proofs.Read.{pieces}

-- Frames are read back.
pub numbers_in-frame_bytes : (frames rest : List ℕ) → All (λ frame. frame < 2 ^ 64) frames → numbers_in (length frames) (frame_bytes frames ++ rest) ≡ frames
numbers_in-frame_bytes [] rest all = refl
numbers_in-frame_bytes (frame ∷ frames) rest all =
    let fits : frame < 2 ^ 64 = All-head (λ frame. frame < 2 ^ 64) frame frames all in
    let first = little_number-reads_back 8 frame (frame_bytes frames ++ rest) fits in
    let others = numbers_in-frame_bytes frames rest (All-tail (λ frame. frame < 2 ^ 64) frame frames all) in
    ap (λ (x : ℕ). x ∷ numbers_in (length frames) (frame_bytes frames ++ rest)) first ∙ ap (λ (xs : List ℕ). frame ∷ xs) others

-- The record of these parts.
made : ℕ → ℕ → ℕ → ℕ → List ℕ → List ℕ → List ℕ → List ℕ → Record
made event number thread stamp activity related frames payload =
    record {
      event = event;
      number = number;
      thread = thread;
      stamp = stamp;
      activity = activity;
      related = related;
      frames = frames;
      payload = payload;
    }

made_same : (a b : Record) → a.event ≡ b.event → a.number ≡ b.number → a.thread ≡ b.thread → a.stamp ≡ b.stamp → a.activity ≡ b.activity → a.related ≡ b.related → a.frames ≡ b.frames → a.payload ≡ b.payload → made a.event a.number a.thread a.stamp a.activity a.related a.frames a.payload ≡ made b.event b.number b.thread b.stamp b.activity b.related b.frames b.payload
made_same a b event number thread stamp activity related frames payload = cc

-- Records with the same parts are the same.
same : (a b : Record) → a.event ≡ b.event → a.number ≡ b.number → a.thread ≡ b.thread → a.stamp ≡ b.stamp → a.activity ≡ b.activity → a.related ≡ b.related → a.frames ≡ b.frames → a.payload ≡ b.payload → a ≡ b
unfolding made
same a b event number thread stamp activity related frames payload =
    made_same a b event number thread stamp activity related frames payload

-- A record is read back.
pub record_in-bytes_of : (r : Record) (rest : List ℕ) → IsRecord r → record_in (bytes_of r ++ rest) ≡ r
unfolding record_in
record_in-bytes_of r rest fits =
    let bytes = bytes_of r ++ rest in
    let p = pieces r rest fits in
    let f = p.fields in
    let behind : drop 68 bytes ≡ frame_bytes r.frames ++ (r.payload ++ f.ids.0) = p.behind in
    same _ _ f.event f.number f.thread f.stamp p.activity p.related
    (ap (λ (n : ℕ). numbers_in n (drop 68 bytes)) f.frame_count ∙ ap (numbers_in (length r.frames)) behind ∙ numbers_in-frame_bytes r.frames _ fits.frames)
    (
    ap (λ (n : ℕ). take n (drop (68 + 8 * little_number 4 (drop 12 bytes)) bytes)) f.payload_len
    ∙ ap (λ (n : ℕ). take (length r.payload) (drop (68 + 8 * n) bytes)) f.frame_count
    ∙ ap (take (length r.payload)) (sym (drop-drop (8 * length r.frames) 68 bytes))
    ∙ p.payload
    )

-- Records are read back, however many more might stand there.
within-is : (records : List Record) (most : ℕ) → All IsRecord records → length (flat_map bytes_of records) ≤ most → records_within most (flat_map bytes_of records) ≡ records
within-is [] zero all h = refl
within-is [] (suc most) all h = refl
within-is (r ∷ records) zero all h =
    let len = length-bytes_of r (All-head IsRecord r records all) in
    absurd (omega (arith, length-append (bytes_of r) (flat_map bytes_of records)))
within-is (r ∷ records) (suc most) all h =
    let fits = All-head IsRecord r records all in
    let rest = flat_map bytes_of records in
    let len = length-bytes_of r fits in
    let bytes = bytes_of r ++ rest in
    let shorter : length rest ≤ most = omega (arith, length-append (bytes_of r) rest) in
    let others = within-is records most (All-tail IsRecord r records all) shorter in
    let size = (pieces r rest fits).fields.size in
    let first = record_in-bytes_of r rest fits in
    let behind : drop (little_number 4 bytes) bytes ≡ rest = ap (λ (n : ℕ). drop n bytes) size ∙ drop_at (bytes_of r) rest (size_of r) len in
    one_more most bytes (omega (arith, length-append (bytes_of r) rest)) ∙ ap (λ (x : Record). x ∷ records_within most (drop (little_number 4 bytes) bytes)) first
    ∙ ap (λ (xs : List ℕ). r ∷ records_within most xs) behind
    ∙ ap (λ (xs : List Record). r ∷ xs) others
  where
    one_more : (most : ℕ) (bytes : List ℕ) → 0 < length bytes → records_within (suc most) bytes ≡ record_in bytes ∷ records_within most (drop (little_number 4 bytes) bytes)
    one_more most [] h = absurd (omega arith)
    one_more most (b ∷ bytes) h = refl

-- Records are read back.
pub records_in-is : (records : List Record) → All IsRecord records → records_in (flat_map bytes_of records) ≡ records
unfolding records_in
records_in-is records all = within-is records (length (flat_map bytes_of records)) all (omega arith)

-- The sizes of records sum to their bytes.
pub total_size-is : (records : List Record) → All IsRecord records → length (flat_map bytes_of records) ≡ total_size records
total_size-is [] all = refl
total_size-is (r ∷ records) all =
    let len = length-bytes_of r (All-head IsRecord r records all) in
    let others = total_size-is records (All-tail IsRecord r records all) in
    omega (arith, length-append (bytes_of r) (flat_map bytes_of records))

-- One record more.
pub total_size-push : (records : List Record) (r : Record) → total_size (records ++ r ∷ []) ≡ total_size records + size_of r
total_size-push [] r = omega arith
total_size-push (first ∷ records) r = let e = total_size-push records r in omega arith

-- A chunk has as many bytes as its records take.
pub used-is : (bytes : List ℕ) (room : ℕ) → IsHeld bytes room → length bytes ≡ total_size (records_in bytes)
used-is bytes room held = ap (length {A = ℕ}) held.spelled ∙ total_size-is (records_in bytes) held.fitting

-- One record more stands behind the others.
pub more-is : (bytes : List ℕ) (room : ℕ) (r : Record) → IsHeld bytes room → IsRecord r → records_in (bytes ++ bytes_of r) ≡ records_in bytes ++ r ∷ []
more-is bytes room r held fits =
    let records = records_in bytes in
    let spelled : bytes ++ bytes_of r ≡ flat_map bytes_of (records ++ r ∷ []) =
    ap (λ (xs : List ℕ). xs ++ bytes_of r) held.spelled ∙ ap (λ (xs : List ℕ). flat_map bytes_of records ++ xs) (sym (append-nil (bytes_of r)))
    ∙ sym (flat_map-append bytes_of records (r ∷ []))
    in
    ap records_in spelled ∙ records_in-is (records ++ r ∷ []) (All-push IsRecord records r held.fitting fits)

-- Bytes with one record more are held in a chunk where they fit.
pub more-held : (bytes : List ℕ) (room room' : ℕ) (r : Record) → IsHeld bytes room → IsRecord r → length bytes + size_of r ≤ CHUNK_LEN → room ≤ room' → IsHeld (bytes ++ bytes_of r) room'
more-held bytes room room' r held fits within more =
    let records = records_in bytes in
    let now = more-is bytes room r held fits in
    let len = length-bytes_of r fits in
    record {
      spelled =
          ap (λ (xs : List ℕ). xs ++ bytes_of r) held.spelled ∙ ap (λ (xs : List ℕ). flat_map bytes_of records ++ xs) (sym (append-nil (bytes_of r)))
          ∙ sym (flat_map-append bytes_of records (r ∷ []))
          ∙ ap (flat_map bytes_of) (sym now);
      fitting = subst (All IsRecord) (sym now) (All-push IsRecord records r held.fitting fits);
      within = omega (arith, length-append bytes (bytes_of r), held.within);
      reserved = omega (arith, held.reserved);
    }

-- No bytes are no records.
pub records_in-nil : records_in [] ≡ []
unfolding records_in
records_in-nil = refl

-- A chunk without bytes.
pub none-held : (room : ℕ) → CHUNK_LEN ≤ room → IsHeld [] room
none-held room h =
    record {
      spelled = ap (flat_map bytes_of) (sym records_in-nil);
      fitting = subst (All IsRecord) (sym records_in-nil) (search rules);
      within = omega arith;
      reserved = h;
    }
