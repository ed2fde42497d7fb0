use Rattle.std.proofs.Common.{◌≡◌, ◌++◌, length, take, refl, arith, length-append}
use Rattle.std.proofs.lemmas.List.{length-take-le}
use Rattle.std.proofs.lemmas.Result.{err_from_is_err_and}
use Rattle.nt_read.specs.Stages.{needs}
use Rattle.nt_read.proofs.Objects.{objects-step, objects-stop, turns-few}
use Rattle.nt_read.proofs.object_reader.ObjectReader.step.Goals as goal

pub returns-in_err-next-clause-err : goal.returns-in_err-next-clause-err
returns-in_err-next-clause-err g c =
    let p = err_from_is_err_and c.from_residual.result c.from_residual.ensures.1 in
    rw (p.1, p.2) (λ held tells. objects-stop g.T.Telling.tells c.args.self.now held c.args.bytes.now c.lacking-lacking.result c.in_err-next.field-0.0 (c.in_err-next.ensures.judged held))

pub returns-clause-ok : goal.returns-clause-ok
returns-clause-ok g c = λ held tells.
    let reader = c.args.self.now in
    let bytes = c.args.bytes.now in
    let lacking = c.lacking-lacking.result in
    let stage = c.in_ok-next.ensures.stage in
    let at = c.in_ok-next.ensures.at in
    let taken = length-take-le lacking bytes (omega (arith, c.lacking-lacking.ensures, c.requires.whole)) in
    let unit : length (reader.kept.items ++ take lacking bytes) ≡ needs reader.stage reader.at = omega (arith, length-append reader.kept.items (take lacking bytes), taken, c.lacking-lacking.ensures, reader.few) in
    let needed : c.needs.result ≡ needs reader.stage reader.at = rw (stage, at) at c.needs.ensures in
    objects-step g.T.Telling.tells reader _ held bytes lacking c.in_ok-next.next (c.in_ok-next.ensures.judged.told held tells) refl (omega (arith, at, needed, unit)) c.in_ok-next.ensures.kept

pub returns-clause-falls : goal.returns-clause-falls
returns-clause-falls g c =
    let reader = c.args.self.now in
    let bytes = c.args.bytes.now in
    let lacking = c.lacking-lacking.result in
    let taken = length-take-le lacking bytes (omega (arith, c.lacking-lacking.ensures, c.requires.whole)) in
    let unit : length (reader.kept.items ++ take lacking bytes) ≡ needs reader.stage reader.at = omega (arith, length-append reader.kept.items (take lacking bytes), taken, c.lacking-lacking.ensures, reader.few) in
    omega (arith, c.in_ok-next.ensures.judged.falls, turns-few c.in_ok-next.next, reader.few, length-append reader.kept.items (take lacking bytes), unit, taken, c.lacking-lacking.ensures, c.requires.whole)
