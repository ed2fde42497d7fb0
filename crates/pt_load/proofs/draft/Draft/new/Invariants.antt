use Rattle.std.proofs.Common.{◌≡◌, ℕ, length, Some}
use Rattle.std.specs.Prelude.{slice_get}
use Rattle.ep_defs.specs.declared.session.Write.{Write}
use Rattle.pt_load.specs.Sample.{nth}
use Rattle.pt_load.proofs.draft.Draft.new.Given as goal

-- the writes so far stand at their indexes
abbrev pub invariant-loop-index : goal.invariant-loop-index
invariant-loop-index l =
    (length l.shapes.items ≡ l.index) × ((k : ℕ) (write : Write) → slice_get l.shapes.items k ≡ Some write → write ≡ nth l.plan l.thread k)
