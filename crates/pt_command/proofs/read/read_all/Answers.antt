-- The bytes of a piece are read and no longer left.
use Rattle.std.proofs.Common.{◌≡◌, [], ◌++◌, IsTrue, take, sym, ap, ◌∙◌, subst, append_assoc, length-append, arith, rules}
use Rattle.std.proofs.lemmas.List.{append-nil, length-take-le}
use Rattle.pt_command.proofs.read.read_all.Goals as goal

pub returns-then-count-eq0-clause-all : goal.returns-then-count-eq0-clause-all
returns-then-count-eq0-clause-all g c =
    let source = g.I.Source in
    let before = c.loop-count.invariant in
    let nothing : take c.in-Ok.count c.read.new.buf ≡ [] = ap (λ n. take n c.read.new.buf) c.if-count-eq0.true in (
      before.bytes,
      before.read,
      record {
        told = λ tells.
            let tells_now = subst (λ b. IsTrue b) (sym before.told) tells in
            let none = c.in-Ok.ensures.end tells_now c.if-count-eq0.true in (
              before.left tells ∙ ap (λ bs. before.bytes ++ bs) none ∙ append-nil before.bytes,
              sym (sym none ∙ c.in-Ok.ensures.left tells_now ∙ ap (λ bs. bs ++ source.left c.read.new.self) nothing),
              c.in-Ok.ensures.given tells_now ∙ ap (λ bs. source.given c.loop-count.input ++ bs) nothing ∙ append-nil (source.given c.loop-count.input) ∙ before.given tells,
            );
        counted = omega (arith, before.counted, c.in-Ok.ensures.falls, c.if-count-eq0.true);
      },
    )

pub loop-count-preserved : goal.loop-count-preserved
loop-count-preserved g c =
    let source = g.I.Source in
    let before = c.loop-count.invariant in
    let piece = take c.in-Ok.count c.read.new.buf in
    record {
      told = c.in-Ok.ensures.told ∙ before.told;
      faults = c.in-Ok.ensures.read ∙ before.faults;
      bytes = before.bytes ++ piece;
      read = c.in_ok-take.ensures.read before.bytes before.read;
      given = λ tells.
          let tells_now = subst (λ b. IsTrue b) (sym before.told) tells in
          c.in-Ok.ensures.given tells_now ∙ ap (λ bs. bs ++ piece) (before.given tells) ∙ append_assoc (source.given c.args.input.now) before.bytes piece;
      left = λ tells.
          let tells_now = subst (λ b. IsTrue b) (sym before.told) tells in
          before.left tells ∙ ap (λ bs. before.bytes ++ bs) (c.in-Ok.ensures.left tells_now) ∙ sym (append_assoc before.bytes piece (source.left c.read.new.self));
      counted = omega (arith, before.counted, c.in-Ok.ensures.falls, length-append before.bytes piece, length-take-le c.in-Ok.count c.read.new.buf c.in-Ok.ensures.within);
      few = λ few. omega (arith, before.few c.read.ensures.few, c.in_ok-take.ensures.counted, c.in-Ok.ensures.falls, length-take-le c.in-Ok.count c.read.new.buf c.in-Ok.ensures.within);
      room = search rules;
    }
