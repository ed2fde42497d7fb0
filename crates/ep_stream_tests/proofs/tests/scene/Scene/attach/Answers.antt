use Rattle.std.proofs.Common.{◌∙◌, ℕ}
use Rattle.ep_slot.specs.Hand.{HandState, hand_of}
use Rattle.ep_stream_tests.specs.declared.tests.rows.Open.{Open}
use Rattle.ep_stream.specs.Session.{rest_of}
use Rattle.ep_stream_tests.proofs.Listed.{number_there}
use Rattle.ep_stream_tests.proofs.OneEvent.{not_opened}
use Rattle.ep_stream_tests.proofs.tests.scene.Scene.attach.Goals as goal

pub attach-requires-clause-new : goal.attach-requires-clause-new
attach-requires-clause-new g c hand tested was =
    let old = c.args.self.now in
    let thread : HandState → ℕ = λ h. h.thread in
    not_opened old.session c.args.row hand.thread
    (λ r h on. number_there (λ (o : Open). hand_of o.slot) thread old.rows.cells.items r (rest_of old.session).seat.slot h old.rows.threads (old.agree.hands r ∙ on))
    c.must_be_off.ensures c.must_be_young.ensures.unmarked tested was
