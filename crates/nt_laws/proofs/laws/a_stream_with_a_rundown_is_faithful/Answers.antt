use Rattle.std.proofs.Common.{true, false}
use Rattle.nt_laws.proofs.Bare.{bare-faithful}
use Rattle.nt_laws.proofs.laws.a_stream_with_a_rundown_is_faithful.Goals as goal

pub returns : goal.returns
returns c true info shares entries bytes faithful own canonical = bare-faithful info shares entries bytes faithful own canonical
returns c false info shares entries bytes faithful own canonical = c.a_faithful_stream_is_found.ensures.faithful info shares entries bytes faithful canonical
