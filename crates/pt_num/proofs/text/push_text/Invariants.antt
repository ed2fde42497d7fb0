-- So far the units before this one are put.
use Rattle.std.proofs.Common.{◌≡◌, ◌+◌, ◌*◌, ◌++◌, take, vec_len, vec_capacity}
use Rattle.pt_num.specs.Texts.{units_bytes}
use Rattle.pt_num.proofs.text.push_text.Given as goal

abbrev pub invariant-loop-unit : goal.invariant-loop-unit
invariant-loop-unit l = record {
  items : l.out.items ≡ l.initial.out.items ++ units_bytes (take l.unit-index l.units);
  len : vec_len l.out ≡ vec_len l.initial.out + 2 * l.unit-index;
  capacity : vec_capacity l.out ≡ vec_capacity l.initial.out;
}
