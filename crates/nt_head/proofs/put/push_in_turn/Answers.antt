use Rattle.std.proofs.Common.{rules, ◌≡◌, ◌+◌, length, nat_eq, refl, ◌∙◌}
use Rattle.std.specs.Int.{w32}
use Rattle.pt_num.specs.Numbers.{short_var}
use Rattle.nt_head.specs.Head.{flag_byte}
use Rattle.nt_head.specs.Fewest.{fewest_fields, if_new, if_there}
use Rattle.nt_head.proofs.PutHeads.{nine_put, set_behind}
use Rattle.nt_head.proofs.put.push_in_turn.Goals as goal

pub returns-clause-items : goal.returns-clause-items
returns-clause-items c =
    let byte : c.push_new32-flags.result + c.push_sequence-flags.result + c.push_new64-flags.result + c.push_new32-flags-2.result + c.push_new_id-flags.result + c.push_new_id-flags-2.result + c.flag-flags.result + c.push_new32-flags-3.result ≡ flag_byte (fewest_fields c.args.last.now c.args.now.now) =
    rw (c.push_new32-flags.ensures.flag, c.push_sequence-flags.ensures.flag, c.push_new64-flags.ensures.flag, c.push_new32-flags-2.ensures.flag, c.push_new_id-flags.ensures.flag, c.push_new_id-flags-2.ensures.flag, c.flag-flags.ensures.value, c.push_new32-flags-3.ensures.flag) refl in
    let place : c.len-place.result ≡ length c.args.out.now.items = search rules in
    let last = if_there (short_var w32) (if_new nat_eq c.args.last.now.size c.args.now.now.size) in
    let whole = c.push_new32-flags-3.ensures.items ∙ nine_put _ _ _ _ _ _ _ _ _ _ _ _ _ _ _ _ last _ c.push_reserved.ensures.items c.push_new32-flags.ensures.items c.push_sequence-flags.ensures.items c.push_new64-flags.ensures.items c.push_new32-flags-2.ensures.items c.push_stamp.ensures.items c.push_new_id-flags.ensures.items c.push_new_id-flags-2.ensures.items in
    rw (← byte) (set_behind _ _ _ _ _ _ whole place)
