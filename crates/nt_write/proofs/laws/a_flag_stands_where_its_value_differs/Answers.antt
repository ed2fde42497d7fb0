use Rattle.nt_write.proofs.InWords.{flags-stand}
use Rattle.nt_write.proofs.laws.a_flag_stands_where_its_value_differs.Goals as goal

pub returns : goal.returns
returns c = flags-stand
