use Rattle.std.proofs.Common.{refl}
use Rattle.pt_num.specs.Fields.{groups_at}
use Rattle.nt_head.specs.Reading.{fields_at}
use Rattle.nt_blocks.specs.Each.{each_at}
use Rattle.nt_blocks.specs.Refusals.{blob_at, header_at}
use Rattle.nt_write.proofs.vectors.a_header_of_22_bytes_is_passed_over.Goals as goal

pub returns : goal.returns
unfolding groups_at fields_at each_at blob_at header_at
returns c = refl
