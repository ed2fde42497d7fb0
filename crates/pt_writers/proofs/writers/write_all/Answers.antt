use Rattle.std.proofs.Common.{◌≡◌, ◌∙◌, ℕ, List, ◌++◌, Some, length, take, drop, sym, ap, subst, arith}
use Rattle.std.specs.Prelude.{slice_get}
use Rattle.std.proofs.Math.Seq.{take-append_seam}
use Rattle.pt_load.specs.declared.plan.Plan.{Plan}
use Rattle.pt_writers.specs.state.Writers.{WriterState}
use Rattle.pt_writers.proofs.writers.write_all.Goals as goal

pub write_each-requires-clause-ready : goal.write_each-requires-clause-ready
write_each-requires-clause-ready g c κs within k writer is =
    c.requires.ready k writer (sym (ap (λ (ws : List WriterState). slice_get ws k) c.as_mut_slice.ensures.value) ∙ is)

pub invariant_of-result : goal.invariant_of-result
invariant_of-result g c =
    let now : List WriterState = c.write_each.new.writers in
    let rest : List WriterState = drop (length now) c.args.writers.items in
    let long : c.args.writers.len ≡ length now = omega (arith, c.write_each.auto, c.as_mut_slice.ensures.len, c.as_mut_slice.auto, c.args.writers.ok.0) in
    let whole = ap (λ (n : ℕ). take n (now ++ rest)) long ∙ take-append_seam now rest in
    record {
      count = c.requires.rows ∙ c.args.around.now.is_run.rows_are ∙ ap (λ (p : Plan). p.threads) c.args.around.now.plan_is;
      ended = λ k writer is. c.write_each.ensures k writer (subst (λ (ws : List WriterState). slice_get ws k ≡ Some writer) whole is);
    }
