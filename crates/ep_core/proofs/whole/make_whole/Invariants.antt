-- The write began on its thread's row, and was shown to the sessions so far.
use Rattle.ep_core.proofs.Writing.{IsShown}
use Rattle.ep_core.proofs.whole.make_whole.Given as goal

abbrev pub invariant-loop-session : goal.invariant-loop-session
invariant-loop-session l = IsShown l.thread l.stamp l.write l.sessions l.row l.session-index l.fn.tables l.tables
