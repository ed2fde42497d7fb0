use Rattle.std.proofs.Common.{codes, rules}
use Rattle.ep_model.specs.declared.step.Step.TheVariants as step
use Rattle.ep_plan.specs.declared.verb.Verb.TheVariants as verb
use Rattle.ep_plan.specs.Lines.{Spells}
use Rattle.ep_plan.proofs.Forms.{made-of}
use Rattle.ep_plan.proofs.step.read_words.Goals as goal

pub returns-in-Enter-clause-read : goal.returns-in-Enter-clause-read
unfolding Spells
returns-in-Enter-clause-read c = made-of c.one_number.result c.map.result c.args.verb verb.Enter _ step.Enter c.in-Enter.is c.map.ensures.cases (λ read made by. search rules) c.one_number.ensures.read (λ read spells. spells (codes "enter"))

pub returns-in-Leave-clause-read : goal.returns-in-Leave-clause-read
unfolding Spells
returns-in-Leave-clause-read c = made-of c.one_number-in-Leave.result c.map-in-Leave.result c.args.verb verb.Leave _ step.Leave c.in-Leave.is c.map-in-Leave.ensures.cases (λ read made by. search rules) c.one_number-in-Leave.ensures.read (λ read spells. spells (codes "leave"))

pub returns-in-Open-clause-read : goal.returns-in-Open-clause-read
unfolding Spells
returns-in-Open-clause-read c = made-of c.two_numbers.result c.map-in-Open.result c.args.verb verb.Open _ (λ pair. step.Open pair.0 pair.1) c.in-Open.is c.map-in-Open.ensures.cases (λ read made by. search rules) c.two_numbers.ensures.read (λ read spells. spells (codes "open"))

pub returns-in-Show-clause-read : goal.returns-in-Show-clause-read
unfolding Spells
returns-in-Show-clause-read c = made-of c.two_numbers-in-Show.result c.map-in-Show.result c.args.verb verb.Show _ (λ pair. step.Show pair.0 pair.1) c.in-Show.is c.map-in-Show.ensures.cases (λ read made by. search rules) c.two_numbers-in-Show.ensures.read (λ read spells. spells (codes "show"))

pub returns-in-End-clause-read : goal.returns-in-End-clause-read
unfolding Spells
returns-in-End-clause-read c = made-of c.one_number-in-End.result c.map-in-End.result c.args.verb verb.End _ step.End c.in-End.is c.map-in-End.ensures.cases (λ read made by. search rules) c.one_number-in-End.ensures.read (λ read spells. spells (codes "end"))

pub returns-in-Steal-clause-read : goal.returns-in-Steal-clause-read
unfolding Spells
returns-in-Steal-clause-read c = made-of c.two_numbers-in-Steal.result c.map-in-Steal.result c.args.verb verb.Steal _ (λ pair. step.Steal pair.0 pair.1) c.in-Steal.is c.map-in-Steal.ensures.cases (λ read made by. search rules) c.two_numbers-in-Steal.ensures.read (λ read spells. spells (codes "steal"))

pub returns-in-Give-clause-read : goal.returns-in-Give-clause-read
unfolding Spells
returns-in-Give-clause-read c = made-of c.one_number-in-Give.result c.map-in-Give.result c.args.verb verb.Give _ step.Give c.in-Give.is c.map-in-Give.ensures.cases (λ read made by. search rules) c.one_number-in-Give.ensures.read (λ read spells. spells (codes "give"))

pub returns-in-Point-clause-read : goal.returns-in-Point-clause-read
unfolding Spells
returns-in-Point-clause-read c = made-of c.number_and_stamp.result c.map-in-Point.result c.args.verb verb.Point _ (λ pair. step.Point pair.0 pair.1) c.in-Point.is c.map-in-Point.ensures.cases (λ read made by. search rules) c.number_and_stamp.ensures.read (λ read spells. spells (codes "point"))

pub returns-in-Close-clause-read : goal.returns-in-Close-clause-read
unfolding Spells
returns-in-Close-clause-read c = made-of c.two_numbers-in-Close.result c.map-in-Close.result c.args.verb verb.Close _ (λ pair. step.Close pair.0 pair.1) c.in-Close.is c.map-in-Close.ensures.cases (λ read made by. search rules) c.two_numbers-in-Close.ensures.read (λ read spells. spells (codes "close"))

pub returns-in-Finish-clause-read : goal.returns-in-Finish-clause-read
unfolding Spells
returns-in-Finish-clause-read c = made-of c.number_and_stamp-in-Finish.result c.map-in-Finish.result c.args.verb verb.Finish _ (λ pair. step.Finish pair.0 pair.1) c.in-Finish.is c.map-in-Finish.ensures.cases (λ read made by. search rules) c.number_and_stamp-in-Finish.ensures.read (λ read spells. spells (codes "finish"))
