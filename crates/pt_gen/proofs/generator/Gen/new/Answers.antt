use Rattle.std.proofs.Common.{refl}
use Rattle.std.proofs.Math.Nat.{sub-zero}
use Rattle.pt_gen.specs.Schedule.{generated}
use Rattle.pt_gen.proofs.generator.Gen.new.Goals as goal

pub returns : goal.returns
unfolding generated
returns c = rw (sub-zero c.args.rounds) refl
