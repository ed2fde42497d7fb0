use Rattle.ep_core_laws.proofs.RestPasts.{few_writes}
use Rattle.ep_core_laws.proofs.Steps.{begins_few}
use Rattle.ep_core_laws.proofs.laws.a_write_that_begins_has_a_number.Goals as goal

pub returns : goal.returns
returns c thread stamp row write tables begun goes own =
    begins_few goes.events goes.past thread row tables goes.before.works.follow own (few_writes goes.events goes.past thread stamp write goes.before.lawful)
