use Rattle.std.proofs.Common.{List, sym, subst}
use Rattle.ep_tie.specs.Tied.{Tied}
use Rattle.ep_guarded.specs.declared.agreed.Agreed.{Agreed}
use Rattle.ep_live.specs.Free.{ColumnState}
use Rattle.ep_live.specs.Made.{AreSlotTies, IsSlotTie}
use Rattle.ep_live.proofs.Pushing.{each-push}
use Rattle.ep_live.proofs.free.Column.push.Goals as goal

pub invariant_of-self : goal.invariant_of-self
invariant_of-self g c = subst (λ (halves : List (Tied Agreed)). AreSlotTies g.P.Program.rows c.self.inside.slot halves) (sym c.in_err-push.ensures.items) c.self.invariant

pub invariant_of-self-2 : goal.invariant_of-self-2
invariant_of-self-2 g c =
    let halves : List (Tied Agreed) = c.self.inside.halves.items in
    let slot = c.self.inside.slot in
    subst (λ (hs : List (Tied Agreed)). AreSlotTies g.P.Program.rows slot hs) (sym c.in_ok-push.ensures.items)
    (each-push (λ k half. IsSlotTie g.P.Program.rows slot k half) halves c.args.half c.self.invariant (subst (λ (s : ColumnState). IsSlotTie g.P.Program.rows s.slot s.count c.args.half) (sym c.self.view_is) c.requires))
