-- The digits so far, and their number.
use Rattle.std.proofs.Common.{◌≡◌, true, take}
use Rattle.std.specs.Char.{is_digit}
use Rattle.std.specs.List.{list_all}
use Rattle.std.specs.Str.Parse.{digits_value}
use Rattle.ep_plan.proofs.words.ahead.leading.Given as goal

abbrev pub invariant-digits : goal.invariant-digits
invariant-digits l = record {
  digits : list_all (λ digit. is_digit digit l.base) (take l.place l.text) ≡ true;
  value : l.value ≡ digits_value l.base (take l.place l.text);
}
