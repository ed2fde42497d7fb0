use Rattle.std.proofs.Common.{◌≡◌}
use Rattle.ep_plan.specs.Words.{comma, all_in, field_in, parts_at}
use Rattle.ep_plan.proofs.Separated.{read_and_rest, size_of}
use Rattle.ep_plan.proofs.words.field_list.fields.Given as goal

abbrev pub invariant-loop-rest : goal.invariant-loop-rest
invariant-loop-rest l = all_in field_in (parts_at comma l.fn.word) ≡ read_and_rest field_in l.fields.items l.rest

abbrev pub decreases-loop-rest : goal.decreases-loop-rest
decreases-loop-rest l = size_of l.rest
