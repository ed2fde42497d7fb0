-- The records of a chunk, read one after another.
use Rattle.std.proofs.Common.{◌≡◌, ℕ, ◌+◌, ◌*◌, ◌<◌, ◌≤◌, Bool, List, [], ◌∷◌, ◌++◌, length, ap, sym, ◌∙◌, subst, arith, length-append}
use Rattle.std.specs.Prelude.{slice_index_or}
use Rattle.std.specs.List.{All}
use Rattle.std.proofs.Math.Seq.{get_or-append_seam}
use Rattle.std.proofs.Math.ListN.{get_or-append}
use Rattle.std.proofs.lemmas.List.{get_or-append-add}
use Rattle.std.proofs.lemmas.Grind.{flat_map-append}
use Rattle.std.proofs.lemmas.List.Concat.{flat_map-cons}
use Rattle.std.proofs.lemmas.List.{append-nil}
use Rattle.ep_defs.specs.declared.event.EventDef.{EventDef}
use Rattle.ep_defs.specs.declared.limits.TheConstants.{PAYLOAD_BYTES}
use Rattle.ep_chunk.specs.Record.{Record}
use Rattle.ep_chunk.specs.Places.{Tells as TellsRecord}
use Rattle.ep_chunk.specs.declared.rec.RecOut.{RecOut}
use Rattle.ep_chunk.proofs.Laid.{length-frame_bytes}
use Rattle.ep_stream.specs.Telling.{IsWritable, CanBeRead, entry_of, entries_of}

-- The record behind those that were read can be told.
pub writable_here : (events : List EventDef) (done : List Record) (told : Record) (others chunk : List Record) → done ++ told ∷ others ≡ chunk → All (IsWritable events) chunk → IsWritable events told
writable_here events done told others chunk split all =
    let long : length (done ++ told ∷ others) ≡ length done + length (told ∷ others) = length-append done (told ∷ others) in
    let small : length done < length chunk = omega (arith, long, ap (length {A = Record}) split) in
    subst (IsWritable events) (get_or-append_seam done told others told)
    (subst (λ (rs : List Record). IsWritable events (slice_index_or rs (length done) told)) (sym split) (all (length done) told small))

-- What was read of a record that can be told.
pub readable : (events : List EventDef) (r : Record) (out : RecOut) → IsWritable events r → TellsRecord r out → CanBeRead events out
readable events r out writable told =
    let long : length out.frames.now ≡ 8 * length r.frames = ap (length {A = ℕ}) told.frames ∙ length-frame_bytes r.frames in
    let few : length r.frames ≤ 100 = grind (arith, writable.fit) in
    let short : length r.payload ≤ PAYLOAD_BYTES = grind (arith, writable.fit) in
    record {
      some = subst (λ (n : ℕ). 0 < n) (sym told.event) writable.defined.0;
      defined = subst (λ (n : ℕ). n ≤ length events) (sym told.event) writable.defined.1;
      numbered = subst (λ (n : ℕ). 0 < n) (sym told.number) writable.numbered;
      frames = omega (arith, long, few);
      whole = omega (arith, long);
      payload = subst (λ (xs : List ℕ). length xs ≤ PAYLOAD_BYTES) (sym told.payload) short;
    }

-- The entries of records that stand after others.
pub entries_of-append : (events : List EventDef) (stacks : Bool) (first second : List Record) → entries_of events stacks (first ++ second) ≡ entries_of events stacks first ++ entries_of events stacks second
entries_of-append events stacks first second = flat_map-append (entry_of events stacks) first second

pub one_entry : (events : List EventDef) (stacks : Bool) (r : Record) → entries_of events stacks (r ∷ []) ≡ entry_of events stacks r
one_entry events stacks r = flat_map-cons (entry_of events stacks) r [] ∙ append-nil (entry_of events stacks r)

-- What holds of all records holds of those between.
pub all_between : (P : Record → Type 0) (before here after whole : List Record) → whole ≡ before ++ (here ++ after) → All P whole → All P here
all_between P before here after whole split all k d small =
    let long : length (before ++ (here ++ after)) ≡ length before + length (here ++ after) = length-append before (here ++ after) in
    let longer : length (here ++ after) ≡ length here + length after = length-append here after in
    let inside : length before + k < length whole = omega (arith, small, long, longer, ap (length {A = Record}) split) in
    subst P (get_or-append here after d k small)
    (subst P (get_or-append-add before (here ++ after) k d)
    (subst (λ (rs : List Record). P (slice_index_or rs (length before + k) d)) split (all (length before + k) d inside)))
