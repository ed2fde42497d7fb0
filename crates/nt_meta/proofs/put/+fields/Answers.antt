use Rattle.std.proofs.Common.{arith}
use Rattle.std.proofs.lemmas.Grind.{common_steps}
use Rattle.nt_meta.proofs.PutFields.{Parts-of, first_put}
use Rattle.pt_num.proofs.Kept.{Keeps-trans, on_error}
use Rattle.nt_meta.proofs.put.+fields.Goals as goal

pub append_fields-append_inside-requires : goal.append_fields-append_inside-requires
append_fields-append_inside-requires t c =
    let parts = Parts-of c.field-item.result c.loop-rest.rest.now c.split_inside.result.0.now c.split_inside.result.1.now c.in-len1-up.len_at_least c.field-item.is c.loop-rest.invariant.valid c.split_inside.ensures.inside c.split_inside.ensures.after in
    (omega arith, (omega arith, (parts.valid_within, parts.depth)))

pub append_fields-returns-in_err-append_inside-clause-err :
    goal.append_fields-returns-in_err-append_inside-clause-err
append_fields-returns-in_err-append_inside-clause-err t c =
    on_error _ (Keeps-trans _ c.put_u32.new.out.items _ (grind (arith, common_steps)) c.in_err-append_inside.ensures.err)

pub append_fields-loop-rest-preserved : goal.append_fields-loop-rest-preserved
append_fields-loop-rest-preserved t c =
    let parts = Parts-of c.field-item.result c.loop-rest.rest.now c.split_inside.result.0.now c.split_inside.result.1.now c.in-len1-up.len_at_least c.field-item.is c.loop-rest.invariant.valid c.split_inside.ensures.inside c.split_inside.ensures.after in
    record {
      put = first_put c.field-item.result c.loop-rest.rest.now c.split_inside.result.0.now c.split_inside.result.1.now _ _ _ _ _ c.in-len1-up.len_at_least c.field-item.is c.split_inside.ensures.inside c.split_inside.ensures.after (rw c.from.ensures at c.in_ok-put_u32.ensures.ok) c.in_ok-append_inside.ensures.ok (rw c.as_slice.ensures at c.in_ok-put_utf16z.ensures.ok) c.loop-rest.invariant.put;
      kept = grind (arith, common_steps);
      few = omega arith;
      valid = parts.valid_later;
    }
