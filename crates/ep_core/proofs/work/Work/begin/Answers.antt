use Rattle.std.proofs.Common.{◌-◌, ◌∷◌, ℕ, Some, set, sym, ◌∙◌, subst, arith}
use Rattle.std.proofs.Math.Logic.{∥∥₁_elim}
use Rattle.std.proofs.Math.Bridge.{le_prop}
use Rattle.std.proofs.lemmas.Option.{same_Some}
use Rattle.ep_model.specs.declared.step.Step.TheVariants as step
use Rattle.ep_core_laws.specs.Works.{Works}
use Rattle.ep_core.proofs.Working.{tied_once, place_within}
use Rattle.ep_core.proofs.work.Work.begin.Goals as goal

pub begin-requires-clause-tied : goal.begin-requires-clause-tied
begin-requires-clause-tied c = tied_once c.requires.goes

pub begin-requires-clause-few : goal.begin-requires-clause-few
begin-requires-clause-few c =
    ∥∥₁_elim c.requires.goes le_prop (λ goes.
    c.a_write_that_begins_has_a_number.ensures c.args.on.thread c.args.stamp c.args.on.row c.args.write c.args.self.now.tables c.args.self.now.begun.items goes c.requires.ready.there.own)

pub index_mut-requires : goal.index_mut-requires
index_mut-requires c =
    let begun = c.args.self.now.begun in
    let within = place_within c.args.on.row c.requires.goes c.requires.ready.there.is_row in
    omega (arith, within, begun.ok.0)

pub returns : goal.returns
returns c info events past before =
    let made = c.begin.ensures.made in
    let begun = c.args.self.now.begun.items in
    let At : ℕ → Type 0 = λ r. Works events info (step.Begin c.args.on.thread c.args.stamp c.args.write ∷ past) c.begin.new.self (set begun (r - 1) (Some c.args.write)) in
    subst At (same_Some made.own.row c.args.on.row (sym made.own.own ∙ c.requires.ready.there.own))
    (c.a_machine_follows_a_begin.ensures c.args.on.thread c.args.stamp c.args.write c.args.self.now.tables c.begin.new.self begun made c.begin.ensures.tied info events past before)
