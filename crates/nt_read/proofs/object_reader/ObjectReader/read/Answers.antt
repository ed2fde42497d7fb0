use Rattle.std.proofs.Common.{refl, ◌∙◌, arith, length-drop}
use Rattle.std.proofs.lemmas.Result.{err_from_is_err_and}
use Rattle.pt_num.proofs.Joined.{rest_is}
use Rattle.nt_read.proofs.Objects.{comes-close, comes-end, comes-step, comes-stop}
use Rattle.nt_read.proofs.object_reader.ObjectReader.read.Goals as goal

pub returns-in_err-here-clause-err : goal.returns-in_err-here-clause-err
returns-in_err-here-clause-err g c =
    let p = err_from_is_err_and c.from_residual.result c.from_residual.ensures.1 in
    rw (p.1, p.2)
    (λ held tells. comes-stop g.T.Telling.tells c.args.self.now c.loop-here.self held c.args.piece.now c.loop-here.here c.in_err-here.field-0.0 (c.loop-here.invariant.comes held tells) (λ now is. rw (rest_is c.loop-here.here c.args.piece.now) at (c.in_err-here.ensures.err now is)))

pub returns-then-closes-clause-ok : goal.returns-then-closes-clause-ok
returns-then-closes-clause-ok g c = λ held tells.
    comes-close g.T.Telling.tells c.args.self.now c.loop-here.self c.step.new.self _ held c.args.piece.now c.loop-here.here c.in_ok-here.field-0 c.swap.new.x (c.loop-here.invariant.comes held tells) (λ now is. rw (rest_is c.loop-here.here c.args.piece.now) at (c.in_ok-here.ensures.ok now is)) (c.if-closes.ensures.is refl) c.swap.ensures.x_after refl refl refl (rw c.swap.ensures.y_after c.loop-here.invariant.none)

pub returns-then-closes-clause-few : goal.returns-then-closes-clause-few
returns-then-closes-clause-few g c =
    let tag = c.in_ok-here.ensures.tag (c.if-closes.ensures.is refl) in
    rw (tag, c.in_ok-here.ensures.kept) (omega arith)

pub loop-here-preserved : goal.loop-here-preserved
loop-here-preserved g c =
    record {
      comes = λ held tells. comes-step g.T.Telling.tells c.args.self.now c.loop-here.self c.step.new.self held c.args.piece.now c.loop-here.here c.in_ok-here.field-0 (c.loop-here.invariant.comes held tells) (λ now is. rw (rest_is c.loop-here.here c.args.piece.now) at (c.in_ok-here.ensures.ok now is)) (c.if-closes.ensures.other refl);
      within = omega (arith, rw (rest_is c.loop-here.here c.args.piece.now) at c.in_ok-here.ensures.within, length-drop c.loop-here.here c.args.piece.now, c.loop-here.invariant.within);
      all = omega (arith, c.in_ok-here.ensures.all, c.loop-here.invariant.all);
      fault = c.in_ok-here.ensures.fault ∙ c.loop-here.invariant.fault;
      none = c.loop-here.invariant.none;
    }

pub returns-clause-ok : goal.returns-clause-ok
returns-clause-ok g c = λ held tells.
    comes-end g.T.Telling.tells c.args.self.now c.loop-here.self _ held c.args.piece.now c.loop-here.here c.loop-here.told (c.loop-here.invariant.comes held tells) refl refl refl (rw (rest_is c.loop-here.here c.args.piece.now) at c.in_ok-extend_from_slice.ensures.items) c.loop-here.invariant.none
