use Rattle.std.proofs.Common.{List, length, ap, arith}
use Rattle.std.proofs.lemmas.List.Elements.{All-drop}
use Rattle.pt_io.specs.Memory.{LinkState, IsUnused}
use Rattle.pt_io.proofs.mem_caller.MemCallerCaller.call.Goals as goal

pub invariant_of-self : goal.invariant_of-self
invariant_of-self c =
    let shorter = ap (λ (l : List LinkState). length l) c.in-Some.ensures.items in
    (rw c.pop_front.ensures.rest (All-drop IsUnused 1 _ c.self.invariant.0), omega (arith, shorter, c.self.invariant.1))
