use Rattle.std.proofs.Common.{◌≡◌, true}
use Rattle.ep_model.specs.History.{is_finished, opened}
use Rattle.pt_gen.specs.declared.limits.TheConstants.{NARROW, WIDE}
use Rattle.pt_gen.specs.Schedule.{threads}
use Rattle.pt_gen.proofs.Whole.{all_are_lawful, each_can_be_made, in_order, whole}
use Rattle.pt_gen.proofs.Short.{generated_is_short}
use Rattle.pt_gen.proofs.laws.a_schedule_can_be_made.Goals as goal

pub returns : goal.returns
returns c =
    let counted = c.a_budget_can_be_counted.ensures.in_hand in
    record {
      lawful = λ seed rounds few. all_are_lawful (whole counted seed rounds few);
      made = λ seed rounds past step later few is. each_can_be_made past step later (whole counted seed rounds few) is;
      wide = λ seed rounds few. let all = whole counted seed rounds few in in_order (λ past. is_finished WIDE past ≡ true) all all.wide;
      narrow = λ seed rounds few. let all = whole counted seed rounds few in in_order (λ past. is_finished NARROW past ≡ true) all all.narrow;
      wide_opened = λ seed rounds few. let all = whole counted seed rounds few in in_order (λ past. opened WIDE past ≡ threads) all all.wide_opened;
      narrow_opened = λ seed rounds few. let all = whole counted seed rounds few in in_order (λ past. opened NARROW past ≡ threads) all all.narrow_opened;
      short = λ seed rounds. generated_is_short seed rounds;
    }
