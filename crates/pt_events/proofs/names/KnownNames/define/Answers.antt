use Rattle.std.proofs.Common.{◌≡◌, ℕ, cond, eqb, true, false, Some, Err, refl, sym, ap, ◌∙◌, subst}
use Rattle.std.specs.Prelude.{is_some}
use Rattle.ep_defs.specs.declared.event.EventDef.{EventDef}
use Rattle.nt_blocks.specs.Ordered.{MetadataTwice, lookup, unless_there}
use Rattle.nt_check.specs.declared.checker.CheckKind.{CheckKind}
use Rattle.nt_check.specs.declared.checker.CheckKind.TheVariants as kind
use Rattle.nt_check.specs.Faults.{disorder_of}
use Rattle.nt_check.specs.state.Ids.{value_at}
use Rattle.pt_events.proofs.Ids.{name-there, name-new, defined-more}
use Rattle.pt_events.proofs.names.KnownNames.define.Goals as goal

pub returns-then-is_defined-clause-refused : goal.returns-then-is_defined-clause-refused
returns-then-is_defined-clause-refused c = λ names known fault is.
    let same : kind.MetadataTwice c.args.id ≡ fault = cc in
    let there : is_some (lookup c.args.id names.definitions) ≡ true = ap is_some (sym (known.definitions c.args.id)) ∙ sym c.is_defined.ensures ∙ c.if-is_defined.true in
    subst (λ (f : CheckKind). unless_there (lookup c.args.id names.definitions) (MetadataTwice c.args.id) ≡ Err (disorder_of f)) same
    (name-there (lookup c.args.id names.definitions) (MetadataTwice c.args.id) there)

pub returns-clause-defined : goal.returns-clause-defined
returns-clause-defined c = λ names known.
    let none : is_some (lookup c.args.id names.definitions) ≡ false = ap is_some (sym (known.definitions c.args.id)) ∙ sym c.is_defined.ensures ∙ c.if-is_defined.false in (
      name-new (lookup c.args.id names.definitions) (MetadataTwice c.args.id) none,
      defined-more names c.args.id c.args.def.now c.args.self.now _ known
          (λ q.
          c.in_ok-insert.ensures.ok q
          ∙ ap (λ (k : ℕ). cond (eqb k q) (Some c.in_ok-def.def) (value_at c.args.self.now.definitions q)) c.from.ensures
          ∙ ap (λ (x : EventDef). cond (eqb c.args.id q) (Some x) (value_at c.args.self.now.definitions q)) c.in_ok-def.ensures)
          refl refl,
    )
