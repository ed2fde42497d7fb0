use Rattle.std.proofs.Common.{◌≡◌, ◌∙◌, ◌<◌, ℕ, Option, length, ap, sym, arith}
use Rattle.std.specs.Option.{option_map_or}
use Rattle.std.proofs.lemmas.Option.{none-some}
use Rattle.ep_stream_tests.specs.declared.tests.rows.Open.{Open}
use Rattle.ep_stream_tests.proofs.Listed.{first_set, all_set, sum_less}
use Rattle.ep_stream_tests.proofs.tests.rows.ListedRowsRowSet.detach.Goals as goal

pub invariant_of-self-clause-first : goal.invariant_of-self-clause-first
invariant_of-self-clause-first c = first_set c.args.self.now.cells.items c.args.row c.close_in.new.cell c.requires.row.0 c.args.self.now.first

pub invariant_of-self-clause-threads : goal.invariant_of-self-clause-threads
invariant_of-self-clause-threads c =
    let within : c.args.row < length c.args.self.now.cells.items = omega (arith, c.args.self.now.count, c.args.self.now.cells.ok.0, c.requires.row.1) in
    all_set (λ r (o : Open). o.slot.thread ≡ r) c.args.self.now.cells.items c.args.row c.close_in.new.cell within
    (λ x is. absurd (none-some x (sym c.close_in.ensures.none ∙ is)))
    c.args.self.now.threads

pub invariant_of-self-clause-held : goal.invariant_of-self-clause-held
invariant_of-self-clause-held c =
    let within : c.args.row < length c.args.self.now.cells.items = omega (arith, c.args.self.now.count, c.args.self.now.cells.ok.0, c.requires.row.1) in
    let pending : Option Open → ℕ = λ cell. option_map_or (λ o. o.slot.pending.chunks) cell 0 in
    let less = sum_less pending c.args.self.now.cells.items c.args.row c.close_in.new.cell within (ap pending c.close_in.ensures.none) in
    omega (arith, less, c.args.self.now.held)
