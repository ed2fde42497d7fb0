use Rattle.std.proofs.Common.{◌≡◌, ◌+◌, arith}
use Rattle.nt_read.specs.Objects.{used}
use Rattle.nt_read.proofs.Objects.{objects-good, objects-more, no-fault, with-fault}
use Rattle.nt_read.proofs.Pieces.{ends-refused}
use Rattle.nt_read.proofs.object_reader.ObjectReader.finish.Goals as goal

pub returns-in-Some-clause-read : goal.returns-in-Some-clause-read
returns-in-Some-clause-read g c = λ bytes read.
    ends-refused bytes c.in-Some.fault (with-fault g.T.Telling.tells bytes c.args.self.now c.in-Some.fault c.in-Some.is read)

pub returns-in-Ended-clause-read : goal.returns-in-Ended-clause-read
returns-in-Ended-clause-read g c = λ bytes read.
    objects-good g.T.Telling.tells bytes c.args.self.now c.in-Ended.is (no-fault g.T.Telling.tells bytes c.args.self.now c.in_default.is read)

pub returns-in_default-stage : goal.returns-in_default-stage
returns-in_default-stage g c =
    record {
      read = λ bytes read.
          let at : c.args.self.now.at + c.len.result ≡ used c.args.self.now = omega (arith, c.len.ensures) in
          rw at (objects-more g.T.Telling.tells bytes c.args.self.now c.in_default-stage.not-Ended (no-fault g.T.Telling.tells bytes c.args.self.now c.in_default.is read));
      fails = λ failed. absurd (cc (failed, c.in_default.is));
    }
