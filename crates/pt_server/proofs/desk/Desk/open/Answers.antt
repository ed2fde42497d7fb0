use Rattle.std.proofs.Common.{◌≡◌, List, sym, subst}
use Rattle.ep_journal.specs.declared.decision.Decision.{Decision}
use Rattle.pt_server.specs.Told.{IsDesk}
use Rattle.pt_server.proofs.desk.Desk.open.Goals as goal

pub invariant_of-self : goal.invariant_of-self
invariant_of-self g c =
    let keeps = rw (← c.self.view_is) at c.requires.keeps in
    let same : g.D.Deciding.decisions c.open.new.self ≡ g.D.Deciding.decisions c.self.inside.decider = keeps c.open.new.self c.open.new.holder c.open.ensures in
    subst (λ (ds : List Decision). IsDesk g.L.Sink.read_side g.L.Source.write_side g.N.Process.facts g.N.Process.greeting ds c.self.inside.conns c.self.inside.decided) (sym same) c.self.invariant
