use Rattle.std.proofs.Common.{◌≡◌, ℕ, List, cond, eqb, true, false, Some, Err, refl, sym, ap, ◌∙◌, subst}
use Rattle.std.specs.Prelude.{is_some}
use Rattle.nt_blocks.specs.Ordered.{StackTwice, lookup, unless_there}
use Rattle.nt_check.specs.declared.checker.CheckKind.{CheckKind}
use Rattle.nt_check.specs.declared.checker.CheckKind.TheVariants as kind
use Rattle.nt_check.specs.Faults.{disorder_of}
use Rattle.nt_check.specs.state.Ids.{value_at}
use Rattle.pt_events.proofs.Ids.{name-there, name-new, stacked-more}
use Rattle.pt_events.proofs.names.KnownNames.define_stack.Goals as goal

pub returns-then-is_stack-clause-refused : goal.returns-then-is_stack-clause-refused
returns-then-is_stack-clause-refused c = λ names known fault is.
    let same : kind.StackTwice c.args.id ≡ fault = cc in
    let there : is_some (lookup c.args.id names.stacks) ≡ true = ap is_some (sym (known.stacks c.args.id)) ∙ sym c.is_stack.ensures ∙ c.if-is_stack.true in
    subst (λ (f : CheckKind). unless_there (lookup c.args.id names.stacks) (StackTwice c.args.id) ≡ Err (disorder_of f)) same
    (name-there (lookup c.args.id names.stacks) (StackTwice c.args.id) there)

pub returns-clause-defined : goal.returns-clause-defined
returns-clause-defined c = λ names known.
    let none : is_some (lookup c.args.id names.stacks) ≡ false = ap is_some (sym (known.stacks c.args.id)) ∙ sym c.is_stack.ensures ∙ c.if-is_stack.false in (
      name-new (lookup c.args.id names.stacks) (StackTwice c.args.id) none,
      stacked-more names c.args.id c.args.bytes.now c.args.self.now _ known
          (λ q.
          c.in_ok-insert.ensures.ok q
          ∙ ap (λ (k : ℕ). cond (eqb k q) (Some c.in_ok-stack.stack) (value_at c.args.self.now.stacks q)) c.from.ensures
          ∙ ap (λ (x : List ℕ). cond (eqb c.args.id q) (Some x) (value_at c.args.self.now.stacks q)) c.in_ok-stack.ensures)
          refl refl,
    )
