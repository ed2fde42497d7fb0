use Rattle.std.proofs.Common.{◌≡◌, ◌∙◌, ◌++◌, [], ℕ, List, ap, sym, arith, take, length, refl, ◌≤◌, replicate}
use Rattle.std.proofs.lemmas.List.{take_all}
use Rattle.byteorder.specs.Endian.{little_bytes}
use Rattle.ep_chunk.specs.Record.{Record, head_bytes, record_of, size_of}
use Rattle.ep_chunk.proofs.Laid.{put_next}
use Rattle.ep_chunk.proofs.layout.head_of.Goals as goal

pub returns-clause-head : goal.returns-clause-head
unfolding head_bytes
returns-clause-head c =
    let r : Record = record_of c.args.rec.now in
    let l1 : List ℕ = little_bytes 4 (size_of r) in
    let l2 : List ℕ = l1 ++ little_bytes 4 r.event in
    let l3 : List ℕ = l2 ++ little_bytes 4 r.number in
    let l4 : List ℕ = l3 ++ little_bytes 4 (length r.frames) in
    let l5 : List ℕ = l4 ++ little_bytes 4 (length r.payload) in
    let l6 : List ℕ = l5 ++ little_bytes 8 r.thread in
    let l7 : List ℕ = l6 ++ little_bytes 8 r.stamp in
    let l8 : List ℕ = l7 ++ r.activity in
    let h1 : List ℕ = c.put_at.new.head in
    let h2 : List ℕ = c.put_at-2.new.head in
    let h3 : List ℕ = c.put_at-3.new.head in
    let h4 : List ℕ = c.put_at-4.new.head in
    let h5 : List ℕ = c.put_at-5.new.head in
    let h6 : List ℕ = c.put_at-6.new.head in
    let h7 : List ℕ = c.put_at-7.new.head in
    let h8 : List ℕ = c.put_at-8.new.head in
    let h9 : List ℕ = c.put_at-9.new.head in
    let e1 : take 4 h1 ≡ l1 = put_next (replicate 68 0) h1 _ [] l1 0 4 refl (c.to_le_bytes.ensures ∙ ap (little_bytes 4) c.requires.size) refl c.put_at.ensures in
    let e2 : take 8 h2 ≡ l2 = put_next h1 h2 _ l1 (little_bytes 4 r.event) 4 4 e1 c.to_le_bytes-2.ensures refl c.put_at-2.ensures in
    let e3 : take 12 h3 ≡ l3 = put_next h2 h3 _ l2 (little_bytes 4 r.number) 8 4 e2 c.to_le_bytes-3.ensures refl c.put_at-3.ensures in
    let e4 : take 16 h4 ≡ l4 = put_next h3 h4 _ l3 (little_bytes 4 (length r.frames)) 12 4 e3 c.to_le_bytes-4.ensures refl c.put_at-4.ensures in
    let e5 : take 20 h5 ≡ l5 = put_next h4 h5 _ l4 (little_bytes 4 (length r.payload)) 16 4 e4 c.to_le_bytes-5.ensures refl c.put_at-5.ensures in
    let e6 : take 28 h6 ≡ l6 = put_next h5 h6 _ l5 (little_bytes 8 r.thread) 20 8 e5 c.to_le_bytes-6.ensures refl c.put_at-6.ensures in
    let e7 : take 36 h7 ≡ l7 = put_next h6 h7 _ l6 (little_bytes 8 r.stamp) 28 8 e6 c.to_le_bytes-7.ensures refl c.put_at-7.ensures in
    let len8 : length r.activity ≡ 16 = omega arith in
    let len9 : length r.related ≡ 16 = omega arith in
    let e8 : take 52 h8 ≡ l8 = put_next h7 h8 _ l7 r.activity 36 16 e7 refl len8 c.put_at-8.ensures in
    let e9 : take 68 h9 ≡ l8 ++ r.related = put_next h8 h9 _ l8 r.related 52 16 e8 refl len9 c.put_at-9.ensures in
    let len : length h9 ≤ 68 = omega arith in
    sym (take_all 68 h9 len) ∙ e9

pub returns-clause-fitting : goal.returns-clause-fitting
returns-clause-fitting c frames =
    record {
      event = omega arith;
      number = omega arith;
      thread = omega arith;
      stamp = omega arith;
      activity = omega arith;
      related = omega arith;
      frames = frames;
      size = omega arith;
    }
