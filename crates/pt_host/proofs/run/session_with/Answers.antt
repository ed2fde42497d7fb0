use Rattle.std.proofs.Common.{subst, sym}
use Rattle.pt_roles.specs.Table.{IsOver}
use Rattle.pt_roles.specs.declared.live_end.LiveSession.{LiveSession}
use Rattle.pt_host.proofs.Ending.{end-gone}
use Rattle.pt_host.proofs.run.session_with.Goals as goal

pub returns-clause-over : goal.returns-clause-over
returns-clause-over g c =
    let over = subst (λ (s : LiveSession _). IsOver g.W.World.world c.args.finished s) (sym c.«open».ensures.value) c.open-finale.ensures.1 in
    record { id_is = over.id_is; conn_is = over.conn_is; stage_is = over.stage_is; early = over.early; complete = over.complete }

pub returns-clause-is_end : goal.returns-clause-is_end
returns-clause-is_end g c = end-gone g.L.Sink.read_side g.L.Sink g.W.World.world c.«open».result _ c.«open».ensures.is_end
