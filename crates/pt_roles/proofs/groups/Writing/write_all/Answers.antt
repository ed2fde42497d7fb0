use Rattle.std.proofs.Common.{◌≡◌, ◌∙◌, ℕ, List, ◌++◌, Some, length, take, drop, sym, ap, subst, arith}
use Rattle.std.specs.Prelude.{slice_get}
use Rattle.std.proofs.Math.Seq.{take-append_seam}
use Rattle.pt_roles.specs.Writers.{WriterState}
use Rattle.pt_roles.proofs.groups.Writing.write_all.Goals as goal

pub write_each-requires-clause-ready : goal.write_each-requires-clause-ready
write_each-requires-clause-ready g c κs within k writer is =
    c.args.self.ready k writer (sym (ap (λ (ws : List WriterState). slice_get ws k) c.as_mut_slice.ensures.value) ∙ is)

pub give_back-gone-requires-clause-written : goal.give_back-gone-requires-clause-written
give_back-gone-requires-clause-written g c κs within =
    let now : List WriterState = c.write_each.new.writers in
    let rest : List WriterState = drop (length now) c.args.self.writers.items in
    let long : c.args.self.writers.len ≡ length now = omega (arith, c.write_each.auto, c.as_mut_slice.ensures.len, c.as_mut_slice.auto, c.args.self.writers.ok.0) in
    let whole = ap (λ (n : ℕ). take n (now ++ rest)) long ∙ take-append_seam now rest in
    (c.args.self.count, λ k writer is. c.write_each.ensures k writer (subst (λ (ws : List WriterState). slice_get ws k ≡ Some writer) whole is))
