use Rattle.std.proofs.Common.{sym, subst}
use Rattle.nt_stacks.specs.Interning.{AreKnown}
use Rattle.nt_stacks.proofs.Ids.{known_one_more}
use Rattle.nt_stacks.proofs.recent.make_places.Goals as goal

pub returns-in_err-push : goal.returns-in_err-push
returns-in_err-push c = λ entries. subst (AreKnown entries) (sym c.in_err-push.ensures.items) (c.loop.invariant entries)

pub loop-preserved : goal.loop-preserved
loop-preserved c = λ entries.
    subst (AreKnown entries) (sym c.in_ok-push.ensures.items) (known_one_more entries c.loop.places.items c.new.result.items (c.loop.invariant entries))
