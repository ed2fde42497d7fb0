use Rattle.std.proofs.Common.{sym, ◌∙◌}
use Rattle.nt_write.proofs.laws.one_stream_at_most.Goals as goal

pub returns : goal.returns
returns c = record { same = λ info entries a b first second. first.written ∙ sym second.written }
