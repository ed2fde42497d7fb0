use Rattle.std.proofs.Common.{arith}
use Rattle.std.proofs.lemmas.Grind.{common_steps}
use Rattle.nt_object.proofs.PutPieces.{kept_on_error}
use Rattle.nt_object.proofs.object.append_trace.Goals as goal

pub returns-clause-err : goal.returns-clause-err
returns-clause-err c =
    kept_on_error c.put_u32-4.result _ _ c.put_u32-4.new.out.items (grind (arith, common_steps)) c.put_u32-4.ensures.err
