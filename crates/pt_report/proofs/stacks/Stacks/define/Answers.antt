use Rattle.std.proofs.Common.{◌≡◌, ℕ, Some, None, cond, eqb, refl, ◌∙◌, subst}
use Rattle.nt_check.specs.state.Ids.{value_at}
use Rattle.pt_report.specs.declared.stacks.Stacks.{Stacks}
use Rattle.pt_report.proofs.Steps.{known-more, stack-more}
use Rattle.pt_report.proofs.stacks.Stacks.define.Goals as goal

pub returns : goal.returns
returns c = λ uses named h.
    let old = c.args.self.now in
    let new : Stacks = record { stacks = c.insert.new.self; places = c.insert-2.new.self; uses = old.uses } in
    let stack-put : (q : ℕ) → value_at new.stacks q ≡ cond (eqb c.args.id q) (Some c.in_ok-stack.stack) (value_at old.stacks q) =
    λ q. subst (λ (i : ℕ). value_at new.stacks q ≡ cond (eqb i q) (Some c.in_ok-stack.stack) (value_at old.stacks q)) c.from.ensures (c.in_ok-insert.ensures.ok q) in
    let place-put : (q : ℕ) → value_at new.places q ≡ cond (eqb c.args.id q) (Some None) (value_at old.places q) =
    λ q. subst (λ (i : ℕ). value_at new.places q ≡ cond (eqb i q) (Some None) (value_at old.places q)) c.from-2.ensures (c.in_ok-insert-2.ensures.ok q) in
    record {
      found = λ q. stack-put q ∙ stack-more c.args.id q c.args.bytes.now c.in_ok-stack.stack named _ c.in_ok-stack.ensures (h.found q);
      known = λ q place is. known-more c.args.id q place c.args.bytes.now named old new (place-put q) refl (h.known q place) is;
      counted = h.counted;
    }
