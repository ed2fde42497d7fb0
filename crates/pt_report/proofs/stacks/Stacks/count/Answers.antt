use Rattle.std.proofs.Common.{refl, sym, ◌∙◌}
use Rattle.std.proofs.lemmas.Bool.{ne_eqb}
use Rattle.nt_check.specs.state.Ids.{value_at}
use Rattle.pt_report.specs.declared.stacks.Stacks.{Stacks}
use Rattle.pt_report.proofs.Steps.{on-ok, stack-defined}
use Rattle.pt_report.proofs.Used.{held-some, used-again}
use Rattle.pt_report.proofs.stacks.Stacks.count.Goals as goal

pub returns-in-Some : goal.returns-in-Some
returns-in-Some c = λ uses named bytes h is.
    let old = c.args.self.now in
    let new : Stacks = record { stacks = old.stacks; places = old.places; uses = c.count.new.self } in
    let stands = sym (stack-defined named c.args.id (ne_eqb c.args.id 0 c.if-id-eq0.false)) ∙ is in
    let there = held-some (value_at old.places c.args.id) c.in-Some.place (sym c.in-Some.ensures) in
    used-again c.args.id c.in-Some.place bytes uses named old new h stands there (λ q. refl) (λ q. refl) c.count.ensures.places (λ key placed. c.count.ensures.counted uses uses key h.counted placed)

pub returns : goal.returns
returns c =
    on-ok c.count_first.result (λ first. λ uses named bytes h is. first uses named bytes h (sym (stack-defined named c.args.id (ne_eqb c.args.id 0 c.if-id-eq0.false)) ∙ is)) c.count_first.ensures
