use Rattle.pt_gen.specs.state.ToCome.{IsStage}
use Rattle.pt_gen.specs.declared.stage.Stage.TheVariants.{Begin}
use Rattle.pt_gen.proofs.Stages.{write_next}
use Rattle.pt_gen.proofs.stage.Stage.after_whole_write.Goals as goal

pub returns-in-Begin-clause-follows : goal.returns-in-Begin-clause-follows
returns-in-Begin-clause-follows c =
    let inside : IsStage c.args.rounds.count (Begin c.in-Begin.round) = rw c.in-Begin.is at c.requires in
    rw c.in-Begin.is (write_next c.args.rounds.seed c.args.rounds.count c.in-Begin.round _ inside c.after_write.ensures.follows)
