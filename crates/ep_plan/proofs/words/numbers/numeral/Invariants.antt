use Rattle.std.proofs.Common.{◌≡◌, ◌^◌, ◌<◌, true, take}
use Rattle.std.specs.List.{list_all}
use Rattle.std.specs.Char.{is_digit}
use Rattle.std.specs.Str.Parse.{digits_value}
use Rattle.ep_plan.proofs.words.numbers.numeral.Given as goal

abbrev pub invariant-loop-byte : goal.invariant-loop-byte
invariant-loop-byte l = record {
  value : l.value ≡ digits_value l.base (take l.byte-index l.word);
  are_digits : list_all (λ digit. is_digit digit l.base) (take l.byte-index l.word) ≡ true;
  fits : l.value < 2 ^ 64;
}
