use Rattle.std.proofs.Common.{◌<◌, length, sym, subst, arith}
use Rattle.ep_rows.specs.Told.{IsKnown, AreWritten, row_at}
use Rattle.ep_rows.proofs.Changing.{give_cells, give_told}
use Rattle.ep_rows.proofs.row_set.RowsRowSet.give.Goals as goal

pub invariant_of-self-clause-known : goal.invariant_of-self-clause-known
invariant_of-self-clause-known c r s =
    let in_slots : c.args.slot < length c.args.self.now.columns.items = omega (arith, c.args.self.now.column_count, c.args.self.now.columns.ok.0, c.requires.slot) in
    subst (IsKnown (row_at c.args.self.now.rows.items r) s) (sym (give_cells c.args.self.now.columns.items c.args.slot c.index_mut.result.now c.give.new.column in_slots c.index_mut.ensures.value c.give.ensures.cells r s)) (c.args.self.now.known r s)

pub invariant_of-self-clause-written : goal.invariant_of-self-clause-written
invariant_of-self-clause-written c r s =
    let in_slots : c.args.slot < length c.args.self.now.columns.items = omega (arith, c.args.self.now.column_count, c.args.self.now.columns.ok.0, c.requires.slot) in
    subst (AreWritten c.args.self.now.events.items) (sym (give_cells c.args.self.now.columns.items c.args.slot c.index_mut.result.now c.give.new.column in_slots c.index_mut.ensures.value c.give.ensures.cells r s)) (c.args.self.now.written r s)

pub returns-clause-told : goal.returns-clause-told
returns-clause-told c =
    let in_slots : c.args.slot < length c.args.self.now.columns.items = omega (arith, c.args.self.now.column_count, c.args.self.now.columns.ok.0, c.requires.slot) in
    give_told c.args.self.now.rows.items c.args.self.now.columns.items c.args.slot (length c.args.batch.chain) c.index_mut.result.now c.give.new.column in_slots c.index_mut.ensures.value c.give.ensures.cells c.give.ensures.pool
