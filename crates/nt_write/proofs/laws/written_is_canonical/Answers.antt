use Rattle.nt_write.proofs.WrittenIsCanonical.{is-canonical}
use Rattle.nt_write.proofs.laws.written_is_canonical.Goals as goal

pub returns : goal.returns
returns c = record { any = is-canonical }
