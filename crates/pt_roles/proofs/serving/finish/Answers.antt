use Rattle.std.proofs.Common.{◌∙◌, refl, rules, subst, sym}
use Rattle.pt_load.specs.Sample.{sample}
use Rattle.pt_roles.specs.Ran.{IsEnd, IsSpent}
use Rattle.pt_roles.specs.World.{writes_of}
use Rattle.pt_roles.proofs.Ends.{is-end, is-over, spent-left}
use Rattle.pt_roles.proofs.serving.finish.Goals as goal

pub new-finale-requires-clause-ended : goal.new-finale-requires-clause-ended
new-finale-requires-clause-ended g c =
    let world = g.W.World.world in
    let session = c.session_of-session.result in
    let left = c.session_of-session.ensures.left in
    let end = c.end-end.ensures.ended in
    let retired = c.retire-free.ensures in
    let spent : IsSpent session.config session.marks session.seat =
    subst (IsSpent session.config session.marks) (sym c.session_of-session.ensures.seat)
    (spent-left session.config session.marks c.args.stream c.end-end.result.1 c.retire-free.result.1 c.end-end.ensures.left (left.config_is ∙ end.config_is) (left.marks_are ∙ end.marks_are)
    retired.shares retired.drained retired.chunks retired.dry)
    in
    let fact : IsEnd {L = g.row.L.Denot} g.L.Sink.read_side g.L.Sink world session = is-end g.L.Sink.read_side g.L.Sink _ (λ s. refl) (λ s. refl) (λ s. refl) (λ s. refl) world g.W.Program.rows g.W.Program.events g.W.Program.writes g.W.Run.setting g.W.Process.facts g.W.Process.greeting c.args.stream c.args.fate c.end-end.result.0 session
    c.args.scene.now.is_world
    (c.a_traced_stream_is_found.ensures sample session.config (writes_of world.plan)) (c.a_part_is_found.ensures sample session.config (writes_of world.plan)) c.sample_events_are_valid.ensures.lacks
    c.requires.own_stream.asked c.requires.own.1 c.requires.complete c.requires.done c.end-end.ensures.ended c.session_of-session.ensures.left spent
    in
    search (rules, fact)

pub end-requires-clause-over : goal.end-requires-clause-over
end-requires-clause-over g c κs within =
    is-over g.L.Sink.read_side g.L.Sink _ (λ s. refl) (λ s. refl) g.W.World.world g.W.Program.rows g.W.Program.events g.W.Program.writes g.W.Run.setting g.W.Process.facts g.W.Process.greeting c.args.holder c.args.stream c.args.fate c.end-end.result.0 c.session_of-session.result c.new-finale.result c.fate_as-fate.result
    c.args.scene.now.is_world c.requires.complete c.requires.own_stream c.end-end.ensures.ended c.session_of-session.ensures.left c.fate_as-fate.ensures c.new-finale.ensures
