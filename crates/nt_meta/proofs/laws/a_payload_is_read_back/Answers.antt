use Rattle.nt_meta.proofs.ReadBack.{meta_back}
use Rattle.nt_meta.proofs.laws.a_payload_is_read_back.Goals as goal

pub returns : goal.returns
returns c = meta_back
