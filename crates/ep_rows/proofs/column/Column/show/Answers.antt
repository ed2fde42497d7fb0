use Rattle.std.proofs.Common.{◌∙◌, ◌-◌, None, sym}
use Rattle.std.proofs.lemmas.List.{get_or_default}
use Rattle.ep_rows.proofs.Cells.{cell_at_is, some_within, free_within, held_shown, kept_shown}
use Rattle.ep_rows.proofs.column.Column.show.Goals as goal

pub show_in-requires-clause-held : goal.show_in-requires-clause-held
show_in-requires-clause-held c x is =
    let within = some_within c.args.self.now.cells.items c.args.number c.requires.some in
    c.requires.held x (cell_at_is c.args.self.now.cells.items c.args.number c.requires.number ∙ sym (c.index_mut.ensures.value ∙ get_or_default c.args.self.now.cells.items (c.args.number - 1) c.index_mut.result.now None within) ∙ is)

pub show_in-requires-clause-free : goal.show_in-requires-clause-free
show_in-requires-clause-free c =
    free_within c.args.self.now.cells.items (c.args.number - 1) c.index_mut.result.now c.args.self.now.pool (some_within c.args.self.now.cells.items c.args.number c.requires.some) c.index_mut.ensures.value c.args.self.now.held

pub invariant_of-self-clause-held : goal.invariant_of-self-clause-held
invariant_of-self-clause-held c =
    held_shown c.args.self.now.cells.items (c.args.number - 1) c.args.slot c.args.write.now c.show_in.result c.args.row.now c.show_in.new.row c.args.self.now.pool c.show_in.new.pool c.index_mut.result.now c.show_in.new.cell
    (some_within c.args.self.now.cells.items c.args.number c.requires.some) c.index_mut.ensures.value c.args.self.now.held c.show_in.ensures.shown

pub returns-clause-chunks : goal.returns-clause-chunks
returns-clause-chunks c =
    kept_shown c.args.self.now.cells.items (c.args.number - 1) c.args.slot c.args.write.now c.show_in.result c.args.row.now c.show_in.new.row c.args.self.now.pool c.show_in.new.pool c.index_mut.result.now c.show_in.new.cell
    (some_within c.args.self.now.cells.items c.args.number c.requires.some) c.index_mut.ensures.value c.show_in.ensures.shown
