use Rattle.std.proofs.Common.{◌≡◌, ◌+◌, length, ap, arith}
use Rattle.nt_object.specs.Object.{block_name, to_multiple_of_4, padding_begins}
use Rattle.nt_object.proofs.PutPieces.{object_put}
use Rattle.nt_object.proofs.object.append_block.Goals as goal

pub returns-clause-ok : goal.returns-clause-ok
returns-clause-ok c =
    let e = object_put 2 c.name-name.result.now _ _ _ _ _ _ _ _ _ c.in_ok-append_object_head.ensures.ok c.in_ok-put_u32.ensures.ok c.in_ok-append_zeros.ensures.ok c.in_ok-extend_from_slice.ensures.items c.in_ok-push.ensures.items in
    let begins : c.args.at + 20 + length (block_name c.args.kind) ≡ padding_begins c.args.at c.args.kind = omega arith in
    let padding = ap to_multiple_of_4 begins in
    cc (c.name-name.ensures, c.padding.ensures)
