use Rattle.std.proofs.Common.{refl}
use Rattle.ep_defs.specs.Definitions.{definition_at}
use Rattle.ep_stream.specs.Session.{rest_of, writer_of}
use Rattle.ep_stream.proofs.Sweep.{point_some, tells_with}
use Rattle.ep_stream.proofs.session.Session.end_sweep.Goals as goal

pub returns-clause-writes : goal.returns-clause-writes
returns-clause-writes g c events before info told telling =
    tells_with g.S.Sink.tells_taken g.S.Sink.taken before (definition_at events) info told _ _ c.point.result (writer_of c.point.new.self) (writer_of c.point.new.self) refl
    (point_some c.args.taken c.args.stamp (rest_of c.args.self.now).named c.if-taken-eq0.false)
    (c.point.ensures.writes events before info told telling)
