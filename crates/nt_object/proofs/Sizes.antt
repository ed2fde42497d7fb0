-- Sizes of what is put.
use Rattle.std.proofs.Common.{◌≡◌, ℕ, List, [], ◌∷◌, length, replicate, arith}
use Rattle.std.specs.Prelude.{IsTrue}
use Rattle.std.proofs.lemmas.List.{length-append, length-replicate}
use Rattle.std.proofs.lemmas.Bool.{and_parts, eqb-true}
use Rattle.ep_defs.specs.declared.session.TraceInfo.{TraceInfo}
use Rattle.ep_defs.specs.Session.{is_info}
use Rattle.pt_num.specs.Numbers.{fixed}
use Rattle.pt_num.proofs.TextForms.{units_long}
use Rattle.nt_object.specs.declared.object.BlockKind.{BlockKind}
use Rattle.nt_object.specs.Object.{trace_payload, block_bytes, block_len, padded, padding_begins, to_multiple_of_4}
use Rattle.nt_object.specs.Stream.{start_len, stream_start}

-- A date has eight parts.
date_8 : (info : TraceInfo) → IsTrue (is_info info) → length info.date ≡ 8
date_8 info h = eqb-true (length info.date) 8 (and_parts _ _ (and_parts _ _ (and_parts _ _ (and_parts _ _ h).0).0).0).0

-- The payload of the Trace object takes 48 bytes.
payload_size : (info : TraceInfo) → length info.date ≡ 8 → length (trace_payload info) ≡ 48
unfolding fixed
payload_size info date = simp (length-append, units_long) (omega (arith, date))

-- The start of a stream takes 102 bytes.
pub start_size : (info : TraceInfo) → IsTrue (is_info info) → length (stream_start info) ≡ start_len
unfolding fixed
start_size info h = omega (arith, length-append (trace_payload info) (6 ∷ []), payload_size info (date_8 info h))

-- A block takes the bytes of its parts.
pub block_size : (at : ℕ) (kind : BlockKind) (body : List ℕ) → length (block_bytes (padded at kind body)) ≡ block_len at kind (length body)
unfolding fixed
block_size at kind body =
    let zeros : List ℕ = replicate (to_multiple_of_4 (padding_begins at kind)) 0 in
    simp (length-append, length-replicate) (omega arith)
