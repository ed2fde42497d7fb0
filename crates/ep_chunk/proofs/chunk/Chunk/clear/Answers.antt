use Rattle.std.proofs.Common.{◌∙◌, ℕ, List, ap, sym, subst, arith, vec_capacity}
use Rattle.ep_chunk.specs.Held.{IsHeld, records_in}
use Rattle.ep_chunk.proofs.Holding.{records_in-nil, none-held}
use Rattle.ep_chunk.proofs.chunk.Chunk.clear.Goals as goal

pub returns : goal.returns
returns c = ap records_in c.clear.ensures.items ∙ records_in-nil

pub invariant_of-self : goal.invariant_of-self
invariant_of-self c =
    let P : List ℕ → Type 0 = λ bytes. IsHeld bytes (vec_capacity c.clear.new.self) in
    subst P (sym c.clear.ensures.items) (none-held (vec_capacity c.clear.new.self) (omega (arith, c.clear.ensures.capacity, c.self.invariant.reserved)))
