use Rattle.std.proofs.Common.{◌≡◌, ◌*◌, ℕ, length, take, drop, ap, ◌∙◌, arith, rules, length-take, length-drop}
use Rattle.std.proofs.lemmas.List.{take_rest}
use Rattle.ep_chunk.specs.Held.{record_in}
use Rattle.ep_chunk.proofs.Read.{pieces_held}
use Rattle.ep_chunk.proofs.layout.record_at.Goals as goal

pub u32_at-requires : goal.u32_at-requires
u32_at-requires c = let p = pieces_held _ c.requires.stands in search (rules, length-drop {A = ℕ}, length-take {A = ℕ})

pub u32_at-payload_len-requires : goal.u32_at-payload_len-requires
u32_at-payload_len-requires c = let p = pieces_held _ c.requires.stands in search (rules, length-drop {A = ℕ}, length-take {A = ℕ})

pub slice_bounds-split_at-count : goal.slice_bounds-split_at-count
slice_bounds-split_at-count c = let p = pieces_held _ c.requires.stands in search (rules, length-drop {A = ℕ}, length-take {A = ℕ})

pub slice_bounds-split_at-start : goal.slice_bounds-split_at-start
slice_bounds-split_at-start c = let p = pieces_held _ c.requires.stands in search (rules, length-drop {A = ℕ}, length-take {A = ℕ})

pub split_at-requires : goal.split_at-requires
split_at-requires c = let p = pieces_held _ c.requires.stands in search (rules, length-drop {A = ℕ}, length-take {A = ℕ})

pub u32_at-requires-2 : goal.u32_at-requires-2
u32_at-requires-2 c = let p = pieces_held _ c.requires.stands in search (rules, length-drop {A = ℕ}, length-take {A = ℕ})

pub u32_at-requires-3 : goal.u32_at-requires-3
u32_at-requires-3 c = let p = pieces_held _ c.requires.stands in search (rules, length-drop {A = ℕ}, length-take {A = ℕ})

pub u64_at-requires : goal.u64_at-requires
u64_at-requires c = let p = pieces_held _ c.requires.stands in search (rules, length-drop {A = ℕ}, length-take {A = ℕ})

pub u64_at-requires-2 : goal.u64_at-requires-2
u64_at-requires-2 c = let p = pieces_held _ c.requires.stands in search (rules, length-drop {A = ℕ}, length-take {A = ℕ})

pub id_at-requires : goal.id_at-requires
id_at-requires c = let p = pieces_held _ c.requires.stands in search (rules, length-drop {A = ℕ}, length-take {A = ℕ})

pub id_at-requires-2 : goal.id_at-requires-2
id_at-requires-2 c = let p = pieces_held _ c.requires.stands in search (rules, length-drop {A = ℕ}, length-take {A = ℕ})

pub overflow_add-result : goal.overflow_add-result
overflow_add-result c = let p = pieces_held _ c.requires.stands in search (rules, length-drop {A = ℕ}, length-take {A = ℕ})

pub returns-clause-next : goal.returns-clause-next
returns-clause-next c = let p = pieces_held _ c.requires.stands in search (rules, length-drop {A = ℕ}, length-take {A = ℕ})

pub slice_bounds-result-end : goal.slice_bounds-result-end
slice_bounds-result-end c =
    let p = pieces_held _ c.requires.stands in
    let f = p.fields in
    let back = ap (length {A = ℕ}) c.split_at.ensures.back in
    omega (arith, length-take {A = ℕ}, c.u32_at-payload_len.ensures, c.u32_at.ensures, c.split_at.ensures.back_len)

pub returns-clause-told : goal.returns-clause-told
returns-clause-told c =
    let bytes = c.args.bytes.now in
    let p = pieces_held bytes c.requires.stands in
    let f = p.fields in
    let r = record_in bytes in
    let count : c.u32_at.result ≡ length r.frames = c.u32_at.ensures ∙ f.frame_count in
    let len : c.u32_at-payload_len.result ≡ length r.payload = c.u32_at-payload_len.ensures ∙ f.payload_len in
    let behind = take_rest bytes 68 in
    record {
      event = c.u32_at-2.ensures ∙ f.event;
      number = c.u32_at-3.ensures ∙ f.number;
      thread = c.u64_at.ensures ∙ f.thread;
      stamp = c.u64_at-2.ensures ∙ f.stamp;
      activity = c.id_at.ensures ∙ p.activity;
      related = c.id_at-2.ensures ∙ p.related;
      frames =
          c.split_at.ensures.front
          ∙ ap (take (8 * c.u32_at.result)) behind
          ∙ ap (λ (n : ℕ). take (8 * n) (drop 68 bytes)) count
          ∙ p.frames;
      payload =
          ap (take c.u32_at-payload_len.result)
          (c.split_at.ensures.back ∙ ap (drop (8 * c.u32_at.result)) behind ∙ ap (λ (n : ℕ). drop (8 * n) (drop 68 bytes)) count)
          ∙ ap (λ (n : ℕ). take n (drop (8 * length r.frames) (drop 68 bytes))) len
          ∙ p.payload;
    }
