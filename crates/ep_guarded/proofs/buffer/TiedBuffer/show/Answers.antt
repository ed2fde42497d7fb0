use Rattle.std.proofs.Common.{◌∙◌, Option, Some, ap, sym, subst}
use Rattle.std.specs.Prelude.{option_map}
use Rattle.ep_guarded.specs.declared.agreed.Told.{Told}
use Rattle.ep_guarded.specs.declared.agreed.Agreed.{Agreed}
use Rattle.ep_guarded.specs.declared.agreed.Agreed.TheVariants as agreed
use Rattle.ep_guarded.specs.declared.kept.Kept.{Kept}
use Rattle.ep_guarded.specs.Resting.{told_as}
use Rattle.ep_guarded.specs.Calls.{raised, ShowsRow}
use Rattle.ep_guarded.proofs.Halves.{told-one}
use Rattle.ep_guarded.proofs.buffer.TiedBuffer.show.Goals as goal

pub returns-clause-shown : goal.returns-clause-shown
returns-clause-shown g c =
    let due = c.requires.due in
    let shown = c.show_in.ensures in
    let same = told-one c.self.inside.kept shown.one due.told shown.was (sym c.self.invariant.row_is ∙ sym c.set.ensures.equal ∙ due.tells) in
    record {
      told = due.told;
      tells = due.tells;
      now =
          c.set.ensures.value.0
          ∙ ap (λ (a : Agreed). Some a) (c.next_told-next.ensures ∙ ap (λ (k : Option Kept). told_as (option_map (λ k. raised k.told) k)) shown.was ∙ ap (λ (t : Told). agreed.Told (raised t)) same);
      row_is =
          subst (λ (t : Told). ShowsRow c.args.slot t.opening c.args.row.now c.show_in.new.row) (shown.is.told ∙ ap raised same)
          shown.is.row_is;
    }
