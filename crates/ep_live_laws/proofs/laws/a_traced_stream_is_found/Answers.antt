use Rattle.ep_rundown.specs.Rundown.{with_section}
use Rattle.ep_live_laws.specs.Traced.{shares_by}
use Rattle.ep_live_laws.proofs.Rundown.{of-program}
use Rattle.ep_live_laws.proofs.laws.a_traced_stream_is_found.Goals as goal

pub returns : goal.returns
returns c events config writes info marks entries bytes lacks threads canonical traced =
    let law = c.a_faithful_stream_is_found.ensures in
    let told = with_section config.rundown entries in
    record {
      entries = entries;
      canonical = canonical;
      found = law.found info told bytes canonical;
      ordered = law.ordered info told bytes canonical;
      faithful = c.a_stream_with_a_rundown_is_faithful.ensures config.rundown info (shares_by events config writes entries marks) entries bytes
          traced.faithful (of-program events config writes marks entries lacks threads traced.faithful) canonical;
      traced = traced;
    }
