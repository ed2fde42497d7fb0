use Rattle.ep_live_laws.proofs.Ended.{ended-outcome}
use Rattle.ep_live_laws.proofs.laws.a_session_that_ends_has_traced.Goals as goal

pub returns : goal.returns
returns g c watch opened handed fate session = ended-outcome g.S.Sink c.the_section_stands_before_the_last_point.ensures.ending watch opened handed session fate
