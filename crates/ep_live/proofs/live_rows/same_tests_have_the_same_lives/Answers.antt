use Rattle.ep_live.proofs.Standing.{lives-same}
use Rattle.ep_live.proofs.live_rows.same_tests_have_the_same_lives.Goals as goal

pub returns : goal.returns
returns c = lives-same
