use Rattle.std.proofs.Common.{◌∙◌, ap}
use Rattle.std.specs.Option.{is_some}
use Rattle.ep_slot.specs.Hand.{hand_of}
use Rattle.ep_stream.specs.Session.{rest_of}
use Rattle.ep_stream_tests.specs.declared.tests.rows.Open.{Open}
use Rattle.ep_stream_tests.proofs.Listed.{is_there_as}
use Rattle.ep_stream_tests.proofs.tests.scene.Scene.is_open.Goals as goal

pub returns : goal.returns
returns c =
    let old = c.args.self.now in
    c.is_open.ensures
    ∙ is_there_as (λ (o : Open). hand_of o.slot) old.rows.cells.items c.args.row (rest_of old.session).seat.slot old.slot
    ∙ ap is_some (old.agree.hands c.args.row)
