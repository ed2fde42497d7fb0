use Rattle.ep_core_laws.proofs.Steps.{ids_few}
use Rattle.ep_core_laws.proofs.laws.a_session_that_comes_has_an_id.Goals as goal

pub returns : goal.returns
returns c session config tables begun small goes =
    let before = goes.before in
    ids_few goes.events goes.past session config tables before.lawful before.works.follow small before.works.ids
