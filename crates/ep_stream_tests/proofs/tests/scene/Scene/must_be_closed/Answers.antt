use Rattle.std.proofs.Common.{ℕ, ◌∙◌, sym}
use Rattle.ep_slot.specs.Hand.{hand_of}
use Rattle.ep_stream.specs.Session.{hand_on, rest_of}
use Rattle.ep_stream_tests.specs.OneSlot.{none_there}
use Rattle.ep_stream_tests.specs.declared.tests.rows.Open.{Open}
use Rattle.ep_stream_tests.proofs.Listed.{none_of_two}
use Rattle.ep_stream_tests.proofs.tests.scene.Scene.must_be_closed.Goals as goal

pub returns-clause-closed : goal.returns-clause-closed
returns-clause-closed g c =
    let old = c.args.self.now in
    none_of_two (λ (row : ℕ). hand_on old.session row) c.must_be_off.ensures c.must_be_off-2.ensures
    (λ row none. sym (old.agree.hands row) ∙ none_there (λ (o : Open). hand_of o.slot) old.rows.cells.items row (rest_of old.session).seat.slot (sym old.rows.cells.ok.0 ∙ old.rows.count) old.rows.first none)
