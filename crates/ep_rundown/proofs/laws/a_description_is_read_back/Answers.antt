use Rattle.nt_meta.specs.Meta.{meta_payload}
use Rattle.nt_meta.proofs.Definitions.{is-payload}
use Rattle.nt_meta.proofs.ReadBack.{meta_back}
use Rattle.ep_rundown.proofs.laws.a_description_is_read_back.Goals as goal

pub returns : goal.returns
returns c id def some fits ranges valid = meta_back (meta_payload id def) id def (is-payload id def valid ranges some fits)
