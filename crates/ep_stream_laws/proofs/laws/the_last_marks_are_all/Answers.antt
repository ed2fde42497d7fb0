use Rattle.ep_stream_laws.proofs.Ends.{last_marks}
use Rattle.ep_stream_laws.proofs.laws.the_last_marks_are_all.Goals as goal

pub returns : goal.returns
returns c = last_marks
