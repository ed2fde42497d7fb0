-- By the parts of the text.
use Rattle.std.proofs.Common.{◌≡◌, ℕ, Bool, true, false, not, cond, List, Option, Some, None, is_some, option_map, refl}
use Rattle.ep_defs.specs.declared.session.Rule.{Rule}
use Rattle.ep_plan.specs.Words.{comma, parts_at, all_in}
use Rattle.ep_auto.specs.declared.fault.AutoKind.TheVariants.{Count}
use Rattle.ep_auto.specs.declared.fault.AutoFault.{AutoFault}
use Rattle.ep_auto.specs.declared.fault.AutoFault.TheVariants.{Bad}
use Rattle.ep_auto.specs.Fields.{rule_in, first_wrong}
use Rattle.ep_auto.specs.StartUp.{has_too_many, session_of, fields_from}
use Rattle.ep_auto.proofs.Wrong.{parts-either}
use Rattle.ep_auto.proofs.read.a_text_is_good_or_bad.Goals as goal

by-count : (chunks : ℕ) (many : Bool) (rules : Option (List Rule)) (fault : Option AutoFault) → is_some rules ≡ not (is_some fault)
    → is_some (cond many None (option_map (session_of chunks) rules)) ≡ not (is_some (cond many (Some (Bad 1 Count)) fault))
by-count chunks true rules fault either = refl
by-count chunks false None fault either = either
by-count chunks false (Some rules) fault either = either

pub returns : goal.returns
returns c chunks text =
    by-count chunks (has_too_many text) (all_in rule_in (parts_at comma text)) (first_wrong (fields_from 1 (parts_at comma text))) (parts-either 1 (parts_at comma text))
