use Rattle.std.proofs.Common.{◌≡◌, ◌+◌, List, ◌∷◌, ◌++◌, [], length, Err, ap, sym, ◌∙◌, arith, append_assoc, append-nil}
use Rattle.std.proofs.lemmas.Result.{err_from_is_err_and}
use Rattle.std.specs.Vec.Iter.{into_iter_items}
use Rattle.ep_model.specs.declared.step.Step.{Step}
use Rattle.ep_core.specs.declared.machine.StepFault.TheVariants.{Unlawful as Refused}
use Rattle.ep_core.specs.declared.machine.Machine.{Machine}
use Rattle.ep_core.specs.Machine.{has_failed, steps_of}
use Rattle.ep_core.proofs.Run.{ran_none, ran_more, ran_refused, ran_all, no_more}
use Rattle.ep_core.proofs.machine.Machine.run.Goals as goal

pub loop-step-init : goal.loop-step-init
loop-step-init c =
    record {
      can = tt;
      finite = tt;
      ran = ran_none c.args.self.now c.if-self.false;
      left = sym c.into_iter-step-iterator.ensures.into_iter_gives.0;
      size =
          let count = c.into_iter-step-iterator.ensures.into_iter_gives.1 in
          let items = ap (λ (xs : List Step). length xs) c.into_iter-step-iterator.ensures.into_iter_gives.0 in
          omega (arith, count, items, c.args.steps.ok.0);
    }

pub loop-step-preserved : goal.loop-step-preserved
loop-step-preserved c =
    let turn = c.in-Some.ensures.steps in
    record {
      can = tt;
      finite = tt;
      ran = ran_more c.args.self.now c.loop-step.self c.step.new.self c.loop-step.yielded c.in-Some.step c.loop-step.invariant.ran c.in_ok-step.ensures.made c.in_ok-step.ensures.counted c.in_ok-step.ensures.working;
      left = c.loop-step.invariant.left ∙ ap (λ xs. c.loop-step.yielded ++ xs) turn.0 ∙ sym (append_assoc c.loop-step.yielded (c.in-Some.step ∷ []) (into_iter_items c.next.new.self));
      size = let items = ap (λ (xs : List Step). length xs) turn.0 in omega (arith, items, turn.1, c.loop-step.invariant.size);
    }

pub returns-in_err-step-clause-unlawful : goal.returns-in_err-step-clause-unlawful
returns-in_err-step-clause-unlawful c events info past why follows is =
    let left = c.loop-step.invariant.left ∙ ap (λ xs. c.loop-step.yielded ++ xs) c.in-Some.ensures.steps.0 in
    let fault = err_from_is_err_and c.from_residual.result c.from_residual.ensures.1 in
    let same : c.step.result ≡ Err (Refused why) = c.in_err-step.was ∙ sym (fault.1 ∙ ap Err fault.2) ∙ is in
    (ran_refused c.args.self.now c.loop-step.self c.step.new.self c.loop-step.yielded c.in-Some.step (into_iter_items c.next.new.self) c.args.steps.items events info past why c.loop-step.invariant.ran left follows
    (λ h. c.step.ensures.unlawful events info _ why h same) (c.step.ensures.unchanged why same)).0

pub returns-in_err-step-clause-until : goal.returns-in_err-step-clause-until
returns-in_err-step-clause-until c events info past why follows is =
    let left = c.loop-step.invariant.left ∙ ap (λ xs. c.loop-step.yielded ++ xs) c.in-Some.ensures.steps.0 in
    let fault = err_from_is_err_and c.from_residual.result c.from_residual.ensures.1 in
    let same : c.step.result ≡ Err (Refused why) = c.in_err-step.was ∙ sym (fault.1 ∙ ap Err fault.2) ∙ is in
    (ran_refused c.args.self.now c.loop-step.self c.step.new.self c.loop-step.yielded c.in-Some.step (into_iter_items c.next.new.self) c.args.steps.items events info past why c.loop-step.invariant.ran left follows
    (λ h. c.step.ensures.unlawful events info _ why h same) (c.step.ensures.unchanged why same)).1

pub returns-clause-made : goal.returns-clause-made
returns-clause-made c events info past follows =
    let ended = c.in-None.ensures.steps in
    let none = no_more (into_iter_items c.loop-step.step-iterator) (sym c.loop-step.invariant.size ∙ ended.0) in
    let left = c.loop-step.invariant.left ∙ ap (λ xs. c.loop-step.yielded ++ xs) none ∙ append-nil c.loop-step.yielded in
    ran_all c.args.self.now c.loop-step.self c.loop-step.yielded c.args.steps.items events info past c.loop-step.invariant.ran left follows

-- Where a step is refused the machine stands as it did before it.
pub returns-in_err-step-clause-refusing : goal.returns-in_err-step-clause-refusing
returns-in_err-step-clause-refusing c why is =
    let fault = err_from_is_err_and c.from_residual.result c.from_residual.ensures.1 in
    let same : c.step.result ≡ Err (Refused why) = c.in_err-step.was ∙ sym (fault.1 ∙ ap Err fault.2) ∙ is in
    ap has_failed (c.step.ensures.unchanged why same) ∙ c.loop-step.invariant.ran.working

pub returns-in_err-step-clause-numbered : goal.returns-in_err-step-clause-numbered
returns-in_err-step-clause-numbered c why is =
    let fault = err_from_is_err_and c.from_residual.result c.from_residual.ensures.1 in
    let same : c.step.result ≡ Err (Refused why) = c.in_err-step.was ∙ sym (fault.1 ∙ ap Err fault.2) ∙ is in
    c.step.ensures.numbered why same ∙ ap (λ (machine : Machine). steps_of machine + 1) (sym (c.step.ensures.unchanged why same))
