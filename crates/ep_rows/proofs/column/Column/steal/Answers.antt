use Rattle.std.proofs.Common.{◌≡◌, ◌+◌, ◌-◌, length, arith}
use Rattle.std.specs.Prelude.{slice_set}
use Rattle.ep_rows.specs.Cells.{pending_chunks}
use Rattle.ep_rows.proofs.Cells.{agree_within, chunks_stolen}
use Rattle.ep_rows.proofs.column.Column.steal.Goals as goal

pub invariant_of-self-clause-held : goal.invariant_of-self-clause-held
invariant_of-self-clause-held c =
    let e : pending_chunks (slice_set c.args.self.now.cells.items (c.args.number - 1) c.steal_in.new.cell) + length c.steal_in.result.chain ≡ pending_chunks c.args.self.now.cells.items =
    chunks_stolen c.args.self.now.cells.items (c.args.number - 1) c.args.hand.now c.steal_in.new.hand c.steal_in.result c.index_mut.result.now c.steal_in.new.cell
    (agree_within c.args.self.now.cells.items c.args.number c.args.hand.now c.requires.agree) c.index_mut.ensures.value c.steal_in.ensures
    in omega (arith, e, c.args.self.now.held)

pub returns-clause-chunks : goal.returns-clause-chunks
returns-clause-chunks c =
    chunks_stolen c.args.self.now.cells.items (c.args.number - 1) c.args.hand.now c.steal_in.new.hand c.steal_in.result c.index_mut.result.now c.steal_in.new.cell
    (agree_within c.args.self.now.cells.items c.args.number c.args.hand.now c.requires.agree) c.index_mut.ensures.value c.steal_in.ensures
