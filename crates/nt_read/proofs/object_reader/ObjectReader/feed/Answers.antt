use Rattle.std.proofs.Common.{Err, refl, ap}
use Rattle.nt_read.specs.declared.fault.ReadFault.{ReadFault}
use Rattle.nt_read.proofs.Objects.{none-refused, objects-refused, objects-still, objects-take, same-fault}
use Rattle.nt_read.proofs.object_reader.ObjectReader.feed.Goals as goal

pub returns-in-Some-clause-refused : goal.returns-in-Some-clause-refused
returns-in-Some-clause-refused g c = λ kept bytes read.
    objects-still g.T.Telling.tells c.args.self.now bytes c.args.piece.now c.in-Some.fault _ c.in-Some.is c.clear.ensures read

pub returns-in-Ok-clause-ok : goal.returns-in-Ok-clause-ok
returns-in-Ok-clause-ok g c = λ bytes read.
    objects-take g.T.Telling.tells c.args.self.now c.read.new.self bytes c.args.piece.now c.in-Ok.count _ c.in_default.is c.in-Ok.ensures.fault c.in-Ok.ensures.ok c.in-Ok.ensures.few c.in-Ok.ensures.all c.in-Ok.ensures.within read

pub returns-in-Err-clause-refused : goal.returns-in-Err-clause-refused
returns-in-Err-clause-refused g c = λ kept bytes read.
    objects-refused g.T.Telling.tells c.args.self.now _ bytes c.args.piece.now c.in-Err.fault c.read.new.told c.in_default.is refl kept c.in-Err.ensures.err c.in-Err.ensures.none read

pub returns-in-Some-clause-stays : goal.returns-in-Some-clause-stays
returns-in-Some-clause-stays g c = λ bytes why items read bad.
    ap (λ (fault : ReadFault). Err fault) (same-fault g.T.Telling.tells bytes c.args.self.now c.in-Some.fault why items c.in-Some.is read bad)

pub returns-in-Ok-clause-stays : goal.returns-in-Ok-clause-stays
returns-in-Ok-clause-stays g c = λ bytes why items read bad. none-refused g.T.Telling.tells bytes c.args.self.now why items c.in_default.is read bad

pub returns-in-Err-clause-stays : goal.returns-in-Err-clause-stays
returns-in-Err-clause-stays g c = λ bytes why items read bad. none-refused g.T.Telling.tells bytes c.args.self.now why items c.in_default.is read bad
