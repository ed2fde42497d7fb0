use Rattle.ep_plan.proofs.Meaning.{one-line, event-line}
use Rattle.ep_plan.proofs.line.a_line_means_one_thing.Goals as goal

pub returns : goal.returns
returns c =
    record {
      one = λ events stepped text a b x y. one-line text a b x.meaning y.meaning;
      event = λ events stepped text index def x. event-line events stepped text index def x;
    }
