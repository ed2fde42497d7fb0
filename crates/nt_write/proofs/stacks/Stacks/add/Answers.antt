use Rattle.std.proofs.Common.{ℕ, ◌+◌, ◌≤◌, List, length, ap, sym, ◌∙◌, subst, ◌∷◌, [], ◌++◌}
use Rattle.nt_blocks.specs.declared.limits.TheConstants.{WRITTEN_BYTES}
use Rattle.nt_blocks.specs.Bodies.{stack_body}
use Rattle.nt_write.specs.Value.{StacksSeen}
use Rattle.nt_write.proofs.Bounds.{bounded-more}
use Rattle.nt_write.proofs.stacks.Stacks.add.Goals as goal

pub invariant_of-self-2 : goal.invariant_of-self-2
invariant_of-self-2 c =
    let frames = c.args.frames.now in
    let Room : StacksSeen → Type 0 = λ s. length (stack_body s.first s.fresh) + (4 + length frames) ≤ WRITTEN_BYTES in
    let Next : StacksSeen → Type 0 = λ s. s.first + length s.fresh ≤ length s.known in
    bounded-more c.self.inside.known c.self.inside.framed c.self.inside.first c.self.inside.size c.self.inside.fresh.items c.push.new.self.items frames c.self.invariant
    (c.in_ok-push.ensures.items ∙ ap (λ (stack : List ℕ). c.self.inside.fresh.items ++ stack ∷ []) (c.new-stack.ensures ∙ c.in_ok-from_slice.ensures.items))
    (subst Next (sym c.self.view_is) c.requires.next)
    (subst Room (sym c.self.view_is) c.requires.room)
