use Rattle.std.proofs.Common.{◌∙◌, ◌≤◌, ℕ, List, ap, sym, subst, arith, vec_capacity}
use Rattle.ep_chunk.specs.declared.limits.TheConstants.{CHUNK_LEN}
use Rattle.ep_chunk.specs.Held.{IsHeld, records_in}
use Rattle.ep_chunk.proofs.Holding.{records_in-nil, none-held}
use Rattle.ep_chunk.proofs.chunk.Chunk.new.Goals as goal

pub returns : goal.returns
returns c = ap records_in c.in_ok-bytes.ensures.items ∙ records_in-nil

pub invariant_of-result : goal.invariant_of-result
invariant_of-result c =
    let room = vec_capacity c.in_ok-bytes.bytes in
    let P : List ℕ → Type 0 = λ bytes. IsHeld bytes room in
    let enough : CHUNK_LEN ≤ room = omega (arith, c.in_ok-bytes.ensures.exact) in
    subst P (sym c.in_ok-bytes.ensures.items) (none-held room enough)
