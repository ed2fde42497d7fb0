use Rattle.std.proofs.Common.{length, arith}
use Rattle.std.proofs.lemmas.Grind.{common_steps}
use Rattle.nt_meta.specs.Meta.{fields_bytes}
use Rattle.nt_meta.proofs.PutFields.{meta_put}
use Rattle.pt_num.proofs.Kept.{kept_through}
use Rattle.nt_meta.proofs.put.append_meta.Goals as goal

pub returns-clause-ok : goal.returns-clause-ok
returns-clause-ok c =
    let fields = c.as_slice-fields.result.now in
    let e = meta_put _ _ _ _ _ _ _ _ _ _ _ _ _ _ _ _ _ (fields_bytes (length fields) fields) c.in_ok-put_u32.ensures.ok c.in_ok-put_utf16z.ensures.ok c.in_ok-put_u32-2.ensures.ok c.in_ok-put_utf16z-2.ensures.ok c.in_ok-put_u64.ensures.ok c.in_ok-put_u32-3.ensures.ok c.in_ok-put_u32-4.ensures.ok (rw c.count_at.ensures at c.in_ok-put_u32-5.ensures.ok) in
    rw (← c.as_slice-fields.ensures, ← c.as_slice.ensures, ← c.as_slice-2.ensures) (rw e at c.append_fields.ensures.ok)

pub returns-clause-err : goal.returns-clause-err
returns-clause-err c =
    kept_through c.append_fields.result _ c.put_u32-5.new.out.items _ (grind (arith, common_steps)) c.append_fields.ensures.err
