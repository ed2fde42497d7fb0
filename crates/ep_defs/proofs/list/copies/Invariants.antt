-- So far the copies are those of the first items.
use Rattle.std.proofs.Common.{◌≡◌, take}
use Rattle.ep_defs.proofs.list.copies.Given as goal

abbrev pub invariant-loop-item : goal.invariant-loop-item
invariant-loop-item g l = l.copies.items ≡ take l.item-index l.items
