use Rattle.nt_laws.proofs.Streams.{stream-read}
use Rattle.nt_laws.proofs.laws.a_well_formed_stream_is_read_whole.Goals as goal

pub returns : goal.returns
returns c = λ info items bytes trace. stream-read (record { body = c.what_a_body_holds_is_read.ensures }) info items bytes trace
