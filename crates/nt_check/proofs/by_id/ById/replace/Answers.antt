use Rattle.std.proofs.Common.{◌≡◌, false, Option, Some, None, cond, eqb, is_some, refl, sym, ap, ◌∙◌, subst}
use Rattle.nt_check.specs.state.Ids.{in_row, value_at}
use Rattle.nt_check.specs.state.Scattered.{IsAt}
use Rattle.nt_check.proofs.by_id.ById.replace.Goals as goal

pub returns-in-Some-clause-ok : goal.returns-in-Some-clause-ok
returns-in-Some-clause-ok g c = λ other.
    let at = subst (λ values. IsAt c.args.id c.in-Some.place values.others) (sym c.find_other.ensures.same) c.in-Some.ensures.place in
    let none = subst (λ values. in_row values.first values.row.items c.args.id ≡ None) (sym c.find_other.ensures.same) (empty _ (sym c.is_in_row.ensures.value ∙ c.if-is_in_row.false)) in
    c.replace_other.ensures.put c.args.id at none other
    ∙ ap (λ values. cond (eqb c.args.id other) (Some c.args.value) (value_at values other)) c.find_other.ensures.same
  where
    empty : {A : Type 0} (held : Option A) → is_some held ≡ false → held ≡ None
    empty None e = refl
    empty (Some value) e = absurd cc
