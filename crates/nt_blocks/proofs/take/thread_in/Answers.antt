use Rattle.std.proofs.Common.{arith, length-drop}
use Rattle.std.specs.Int.{w32, w64}
use Rattle.pt_num.proofs.Joined.{rest_is}
use Rattle.pt_num.proofs.Fronts.{number_within}
use Rattle.nt_blocks.proofs.TakeParts.{thread_unnamed, thread_unnumbered, thread_found}
use Rattle.nt_blocks.proofs.take.thread_in.Goals as goal

pub returns-in_err-thread-clause-none : goal.returns-in_err-thread-clause-none
returns-in_err-thread-clause-none c = λ none start left. thread_unnamed start left c.args.bytes.now c.in_err-thread.ensures.read

pub returns-in_err-number-clause-none : goal.returns-in_err-number-clause-none
returns-in_err-number-clause-none c = λ none start left.
    thread_unnumbered start left c.in_ok-thread.thread c.args.bytes.now c.in_ok-thread.ensures.read (rw (rest_is 8 c.args.bytes.now) at c.in_err-number.ensures.read)

pub returns-clause-some : goal.returns-clause-some
returns-clause-some c =
    let thread = number_within w64 c.args.bytes.now _ c.in_ok-thread.thread c.in_ok-thread.ensures.read in
    let numbered = rw (rest_is 8 c.args.bytes.now) at c.in_ok-number.ensures.read in
    let number = number_within w32 _ _ c.in_ok-number.number numbered in
    thread_found c.in_ok-thread.thread c.in_ok-number.number c.args.bytes.now c.in_ok-thread.ensures.read numbered (omega (arith, length-drop 8 c.args.bytes.now))
