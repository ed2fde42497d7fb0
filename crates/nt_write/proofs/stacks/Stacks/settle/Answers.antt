use Rattle.std.proofs.Common.{◌≡◌, length, arith}
use Rattle.nt_write.proofs.Bounds.{bounded-settled}
use Rattle.nt_write.proofs.stacks.Stacks.settle.Goals as goal

pub invariant_of-self : goal.invariant_of-self
invariant_of-self c =
    let len : c.len.result ≡ length c.self.inside.fresh.items = omega (arith, c.self.inside.fresh.ok.0, c.len.ensures) in
    bounded-settled c.self.inside.known c.self.inside.framed c.self.inside.first c.self.inside.size c.len.result c.self.inside.fresh.items c.clear.new.self.items c.self.invariant len c.clear.ensures.items
