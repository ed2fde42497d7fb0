use Rattle.ep_live.proofs.Standing.{stands-same}
use Rattle.ep_live.proofs.live_rows.same_tests_have_the_same_stands.Goals as goal

pub returns : goal.returns
returns c = stands-same
