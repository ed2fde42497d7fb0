use Rattle.std.proofs.Common.{◌≡◌, ◌+◌, length, drop}
use Rattle.ep_plan.specs.Words.{comma, parts_at, all_in}
use Rattle.ep_auto.specs.Fields.{rule_in, first_wrong}
use Rattle.ep_auto.specs.StartUp.{fields_from}
use Rattle.ep_auto.proofs.Parts.{span}
use Rattle.ep_auto.proofs.Rules.{read_and_rest}
use Rattle.ep_auto.proofs.read.read_auto.Given as goal

abbrev pub invariant-loop-part : goal.invariant-loop-part
invariant-loop-part l = record {
  rules : all_in rule_in (parts_at comma l.fn.text) ≡ read_and_rest l.rules.items (drop (length l.yielded) (parts_at comma l.fn.text));
  faults : first_wrong (fields_from 1 (parts_at comma l.fn.text)) ≡ first_wrong (fields_from l.column (drop (length l.yielded) (parts_at comma l.fn.text)));
  places : l.column + span (drop (length l.yielded) (parts_at comma l.fn.text)) ≡ length l.fn.text + 2;
}
