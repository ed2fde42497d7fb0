use Rattle.ep_listen.proofs.Batches.{batch-heard}
use Rattle.ep_listen.proofs.laws.a_batch_is_heard.Goals as goal

pub returns : goal.returns
returns c admitted before thread last records next old new heard done was part = batch-heard admitted before thread last records old new heard done was next part
