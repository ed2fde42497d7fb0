use Rattle.nt_meta.proofs.Payloads.{meta_spelled}
use Rattle.nt_meta.proofs.laws.what_is_read_is_a_payload.Goals as goal

pub returns : goal.returns
returns c = meta_spelled
