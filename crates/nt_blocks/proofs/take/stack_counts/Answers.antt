use Rattle.std.proofs.Common.{arith, length-drop}
use Rattle.std.specs.Int.{w32}
use Rattle.std.proofs.lemmas.Bool.{lt-leb, and_left, and_right}
use Rattle.pt_num.proofs.Joined.{rest_is}
use Rattle.pt_num.proofs.Fronts.{number_within}
use Rattle.nt_blocks.specs.declared.limits.TheConstants.{LAST_COUNT}
use Rattle.nt_blocks.proofs.TakeParts.{stacks_unnumbered, stacks_uncounted, stacks_unfit, stacks_counted}
use Rattle.nt_blocks.proofs.take.stack_counts.Goals as goal
use Rattle.nt_blocks.proofs.take.stack_counts.Goals.{then-first-gt-LAST_COUNT-via-then-first-gt-LAST_COUNT, then-first-gt-LAST_COUNT-via-else-first-gt-LAST_COUNT+then-count-gt-LAST_COUNT}

pub returns-in_err-first-clause-none : goal.returns-in_err-first-clause-none
returns-in_err-first-clause-none c = λ none at. stacks_unnumbered at c.args.body.now c.in_err-first.ensures.read

pub returns-in_err-count-clause-none : goal.returns-in_err-count-clause-none
returns-in_err-count-clause-none c = λ none at.
    stacks_uncounted at c.in_ok-first.first c.args.body.now c.in_ok-first.ensures.read (rw (rest_is 4 c.args.body.now) at c.in_err-count.ensures.read)

pub returns-then-first-gt-LAST_COUNT-clause-none : goal.returns-then-first-gt-LAST_COUNT-clause-none
returns-then-first-gt-LAST_COUNT-clause-none c = λ none at.
    stacks_unfit at c.in_ok-first.first c.in_ok-count.count c.args.body.now c.in_ok-first.ensures.read (rw (rest_is 4 c.args.body.now) at c.in_ok-count.ensures.read)
    (elim c.then-first-gt-LAST_COUNT.branch [
      | then-first-gt-LAST_COUNT-via-then-first-gt-LAST_COUNT w ↦ and_left _ _ (lt-leb c.in_ok-first.first LAST_COUNT w.if-first-gt-LAST_COUNT.true)
      | then-first-gt-LAST_COUNT-via-else-first-gt-LAST_COUNT+then-count-gt-LAST_COUNT w ↦ and_right _ _ (lt-leb c.in_ok-count.count LAST_COUNT w.if-count-gt-LAST_COUNT.true)
    ])

pub returns-clause-some : goal.returns-clause-some
returns-clause-some c =
    let first = number_within w32 c.args.body.now _ c.in_ok-first.first c.in_ok-first.ensures.read in
    let counted = rw (rest_is 4 c.args.body.now) at c.in_ok-count.ensures.read in
    let count = number_within w32 _ _ c.in_ok-count.count counted in
    stacks_counted c.in_ok-first.first c.in_ok-count.count c.args.body.now c.in_ok-first.ensures.read counted c.if-first-gt-LAST_COUNT.false c.if-count-gt-LAST_COUNT.false (omega (arith, length-drop 4 c.args.body.now))
