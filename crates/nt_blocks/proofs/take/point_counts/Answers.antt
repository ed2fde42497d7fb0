use Rattle.std.proofs.Common.{arith, length-drop}
use Rattle.std.specs.Int.{w32, w64}
use Rattle.pt_num.proofs.Joined.{rest_is}
use Rattle.pt_num.proofs.Fronts.{number_within}
use Rattle.nt_blocks.proofs.TakeParts.{point_unstamped, point_uncounted, point_unfit, point_counted}
use Rattle.nt_blocks.proofs.take.point_counts.Goals as goal

pub returns-in_err-stamp-clause-none : goal.returns-in_err-stamp-clause-none
returns-in_err-stamp-clause-none c = λ none at. point_unstamped at c.args.body.now c.in_err-stamp.ensures.read

pub returns-in_err-count-clause-none : goal.returns-in_err-count-clause-none
returns-in_err-count-clause-none c = λ none at.
    point_uncounted at c.in_ok-stamp.stamp c.args.body.now c.in_ok-stamp.ensures.read (rw (rest_is 8 c.args.body.now) at c.in_err-count.ensures.read)

pub returns-then-count-gt-LAST_COUNT-clause-none : goal.returns-then-count-gt-LAST_COUNT-clause-none
returns-then-count-gt-LAST_COUNT-clause-none c = λ none at.
    point_unfit at c.in_ok-stamp.stamp c.in_ok-count.count c.args.body.now c.in_ok-stamp.ensures.read (rw (rest_is 8 c.args.body.now) at c.in_ok-count.ensures.read) c.if-count-gt-LAST_COUNT.true

pub returns-clause-some : goal.returns-clause-some
returns-clause-some c =
    let stamp = number_within w64 c.args.body.now _ c.in_ok-stamp.stamp c.in_ok-stamp.ensures.read in
    let counted = rw (rest_is 8 c.args.body.now) at c.in_ok-count.ensures.read in
    let count = number_within w32 _ _ c.in_ok-count.count counted in
    point_counted c.in_ok-stamp.stamp c.in_ok-count.count c.args.body.now c.in_ok-stamp.ensures.read counted c.if-count-gt-LAST_COUNT.false (omega (arith, length-drop 8 c.args.body.now))
