-- By the lines of the bytes, one after another.
use Rattle.std.proofs.Common.{[]}
use Rattle.pt_replay.specs.Text.{lines_of}
use Rattle.pt_replay.proofs.OutcomeLaws.{good-one, refused-one, good-not_refused}
use Rattle.pt_replay.proofs.laws.a_text_has_one_outcome.Goals as goal

pub returns : goal.returns
returns c =
    let law = c.a_line_means_one_thing.ensures.one in
    record {
      one_schedule = λ bytes a b. good-one law [] (lines_of bytes) a b;
      one_refusal = λ bytes a b. refused-one law [] (lines_of bytes) a b;
      not_both = λ bytes lines refusal. good-not_refused law [] (lines_of bytes) lines refusal;
    }
