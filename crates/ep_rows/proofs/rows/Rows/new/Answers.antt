use Rattle.std.proofs.Common.{◌≡◌, length, arith}
use Rattle.ep_rows.proofs.Making.{new_masks, new_known, new_written}
use Rattle.ep_rows.proofs.rows.Rows.new.Goals as goal

pub invariant_of-result-clause-masks : goal.invariant_of-result-clause-masks
invariant_of-result-clause-masks c =
    let same : c.len.result ≡ length c.args.events.items = omega (arith, c.len.ensures, c.args.events.ok.0) in
    new_masks c.args.events.items c.in_ok-rows.rows.items c.len.result same c.in_ok-rows.ensures.rows

pub invariant_of-result-clause-known : goal.invariant_of-result-clause-known
invariant_of-result-clause-known c = new_known c.in_ok-rows.rows.items c.in_ok-columns.columns.items c.len.result c.in_ok-rows.ensures.count c.in_ok-rows.ensures.rows c.in_ok-columns.ensures.none

pub invariant_of-result-clause-written : goal.invariant_of-result-clause-written
invariant_of-result-clause-written c = new_written c.args.events.items c.in_ok-columns.columns.items c.in_ok-columns.ensures.none
