use Rattle.std.proofs.Common.{◌≡◌, ◌∙◌, ◌<◌, ℕ, Option, length, ap, arith}
use Rattle.std.specs.Option.{option_map_or}
use Rattle.ep_slot.specs.Hand.{HandState, hand_of}
use Rattle.ep_stream_tests.specs.declared.tests.rows.Open.{Open}
use Rattle.ep_stream_tests.proofs.Listed.{first_set, all_set, number_there, said, sum_less}
use Rattle.ep_stream_tests.proofs.tests.rows.ListedRowsRowSet.steal.Goals as goal

pub invariant_of-self-clause-first : goal.invariant_of-self-clause-first
invariant_of-self-clause-first c = first_set c.args.self.now.cells.items c.args.row c.steal_in.new.cell c.requires.row.0 c.args.self.now.first

pub invariant_of-self-clause-threads : goal.invariant_of-self-clause-threads
invariant_of-self-clause-threads c =
    let within : c.args.row < length c.args.self.now.cells.items = omega (arith, c.args.self.now.count, c.args.self.now.cells.ok.0, c.requires.row.1) in
    let thread : HandState → ℕ = λ h. h.thread in
    let was : c.args.hand.now.thread ≡ c.args.row = number_there (λ (o : Open). hand_of o.slot) thread c.args.self.now.cells.items c.args.row c.args._slot c.args.hand.now c.args.self.now.threads c.requires.expected in
    all_set (λ r (o : Open). o.slot.thread ≡ r) c.args.self.now.cells.items c.args.row c.steal_in.new.cell within
    (λ x is. ap thread (said (λ (o : Open). hand_of o.slot) c.steal_in.new.cell x c.steal_in.new.hand is c.steal_in.ensures.agree) ∙ ap thread c.steal_in.ensures.hand ∙ was)
    c.args.self.now.threads

pub invariant_of-self-clause-held : goal.invariant_of-self-clause-held
invariant_of-self-clause-held c =
    let within : c.args.row < length c.args.self.now.cells.items = omega (arith, c.args.self.now.count, c.args.self.now.cells.ok.0, c.requires.row.1) in
    let less = sum_less (λ (cell : Option Open). option_map_or (λ o. o.slot.pending.chunks) cell 0) c.args.self.now.cells.items c.args.row c.steal_in.new.cell within c.steal_in.ensures.none in
    omega (arith, less, c.args.self.now.held)
