use Rattle.std.proofs.Common.{◌≡◌, ◌-◌, ◌∷◌, ◌++◌, [], Some, None, ap, ◌∙◌, arith}
use Rattle.std.specs.Prelude.{replicate}
use Rattle.ep_locks.proofs.Lines.{more_empty}
use Rattle.ep_locks.proofs.locks.push_line.Goals as goal

pub loop-filled-preserved : goal.loop-filled-preserved
loop-filled-preserved g c =
    c.in_ok-push-2.ensures.items ∙ ap (λ l. l ++ None ∷ []) c.loop-filled.invariant ∙ more_empty c.args.slots.now.items c.args.value c.loop-filled._filled (omega arith)

pub returns : goal.returns
returns g c =
    let last : c.loop-filled._filled ≡ 8 = omega arith in
    c.loop-filled.invariant ∙ ap (λ n. c.args.slots.now.items ++ Some c.args.value ∷ replicate (n - 1) None) last
