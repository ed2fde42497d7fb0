-- The groups before this place are read.
use Rattle.pt_num.proofs.Reading.{Reads}
use Rattle.pt_num.proofs.varuint.take_groups.Given as goal

abbrev pub invariant-loop-place : goal.invariant-loop-place
invariant-loop-place l = Reads l.bytes l.most l.last l.place l.value l.scale
