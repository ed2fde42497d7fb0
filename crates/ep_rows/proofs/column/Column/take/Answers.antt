use Rattle.std.proofs.Common.{◌≡◌, ◌∙◌, ◌-◌, Option, None, ap, sym, arith}
use Rattle.std.specs.Prelude.{slice_set}
use Rattle.ep_rows.specs.declared.opened.Open.{Open}
use Rattle.ep_rows.specs.Cells.{pending_chunks}
use Rattle.ep_rows.proofs.Cells.{some_within, chunks_gone, chunks_less}
use Rattle.ep_rows.proofs.column.Column.take.Goals as goal

pub invariant_of-self-clause-held : goal.invariant_of-self-clause-held
invariant_of-self-clause-held c =
    let less = chunks_less c.args.self.now.cells.items (c.args.number - 1) (some_within c.args.self.now.cells.items c.args.number c.requires.some) in
    let now : pending_chunks (slice_set c.args.self.now.cells.items (c.args.number - 1) c.replace.new.dest) ≡ pending_chunks (slice_set c.args.self.now.cells.items (c.args.number - 1) None) =
    ap (λ (x : Option Open). pending_chunks (slice_set c.args.self.now.cells.items (c.args.number - 1) x)) c.replace.ensures.after
    in omega (arith, less, now, c.args.self.now.held)

pub returns-clause-chunks : goal.returns-clause-chunks
returns-clause-chunks c =
    let gone = chunks_gone c.args.self.now.cells.items (c.args.number - 1) c.index_mut.result.now c.in-Some.one (some_within c.args.self.now.cells.items c.args.number c.requires.some) c.index_mut.ensures.value (sym c.replace.ensures.value ∙ c.in-Some.is) in
    let now : pending_chunks (slice_set c.args.self.now.cells.items (c.args.number - 1) c.replace.new.dest) ≡ pending_chunks (slice_set c.args.self.now.cells.items (c.args.number - 1) None) =
    ap (λ (x : Option Open). pending_chunks (slice_set c.args.self.now.cells.items (c.args.number - 1) x)) c.replace.ensures.after
    in omega (arith, gone, now)
