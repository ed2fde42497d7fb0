-- So far the parts of the date before this one are put, two bytes each.
use Rattle.std.proofs.Common.{◌≡◌, ◌≤◌, ◌+◌, ◌*◌, ◌++◌, take, vec_len, vec_capacity}
use Rattle.std.specs.Int.{w16}
use Rattle.std.specs.List.{flat_map}
use Rattle.pt_num.specs.Numbers.{fixed}
use Rattle.nt_object.proofs.object.append_trace.Given as goal

abbrev pub invariant-loop-part : goal.invariant-loop-part
invariant-loop-part l = record {
  items : l.out.items ≡ l.initial.out.items ++ flat_map (fixed w16) (take l.part-index l.part-items);
  len : vec_len l.out ≡ vec_len l.initial.out + 2 * l.part-index;
  capacity : vec_capacity l.initial.out ≤ vec_capacity l.out;
}
