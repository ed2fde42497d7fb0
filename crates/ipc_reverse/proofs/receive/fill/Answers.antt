-- A piece more was read, or the link has ended, or the buffer is full.
use Rattle.std.proofs.Common.{◌∙◌, IsTrue, rules, subst, sym, arith, inl, inr}
use Rattle.std.proofs.lemmas.Slice.{take-put_mid_below}
use borrow.Rule.Slice.PartMut.{same_len_mid}
use Rattle.ipc_reverse.proofs.Filling.{read_more, none_more, whole_on, filled_gave, filled_front}
use Rattle.ipc_reverse.proofs.receive.fill.Goals as goal

pub loop-there-preserved : goal.loop-there-preserved
loop-there-preserved g c =
    let is = c.loop-there.invariant in
    record {
      told = search rules;
      whole = λ t.
          let told : IsTrue (g.S.Source.tells_given c.loop-there.link) = subst IsTrue (sym is.told) t in
          whole_on (g.S.Source.given c.loop-there.link) _ _ _ _ _ (c.in_ok-more.ensures.given told) (c.in_ok-more.ensures.left told) (is.whole t);
      sound = search rules;
      side = search rules;
      few = search rules;
      size = same_len_mid c.loop-there.there _ c.loop-there.bytes c.read.new.buf c.read.auto.buf ∙ is.size;
      gave = λ t.
          let told : IsTrue (g.S.Source.tells_given c.loop-there.link) = subst IsTrue (sym is.told) t in
          read_more g.S.Source c.args.link.now c.loop-there.link c.read.new.self c.loop-there.bytes c.read.new.buf _ c.loop-there.there c.in_ok-more.more
          (omega (arith, is.few, is.size)) c.in_ok-more.ensures.within (is.gave t) (c.in_ok-more.ensures.given told) (c.in_ok-more.ensures.left told);
    }

pub returns-then-more-eq0-clause-gave : goal.returns-then-more-eq0-clause-gave
returns-then-more-eq0-clause-gave g c = λ t.
    let is = c.loop-there.invariant in
    let told : IsTrue (g.S.Source.tells_given c.loop-there.link) = subst IsTrue (sym is.told) t in
    let none = none_more g.S.Source c.args.link.now c.loop-there.link c.read.new.self _ c.read.new.buf c.in_ok-more.more (is.gave t) (c.in_ok-more.ensures.given told) (c.in_ok-more.ensures.left told) (c.in_ok-more.ensures.end told) (search rules) in
    filled_gave g.S.Source c.args.link.now c.read.new.self c.loop-there.bytes c.loop-there.there is.size is.few none.0 (inr none.1)

pub returns-then-more-eq0-clause-taken : goal.returns-then-more-eq0-clause-taken
returns-then-more-eq0-clause-taken g c = λ t.
    let is = c.loop-there.invariant in
    let told : IsTrue (g.S.Source.tells_given c.loop-there.link) = subst IsTrue (sym is.told) t in
    let none = none_more g.S.Source c.args.link.now c.loop-there.link c.read.new.self _ c.read.new.buf c.in_ok-more.more (is.gave t) (c.in_ok-more.ensures.given told) (c.in_ok-more.ensures.left told) (c.in_ok-more.ensures.end told) (search rules) in
    take-put_mid_below c.loop-there.there _ c.loop-there.bytes c.read.new.buf c.loop-there.there (omega arith) (omega (arith, is.few, is.size))
    ∙ filled_front g.S.Source c.args.link.now c.read.new.self c.loop-there.bytes c.loop-there.there is.size is.few none.0 (inr none.1)

pub returns-clause-gave : goal.returns-clause-gave
returns-clause-gave g c = λ t.
    let is = c.loop-there.invariant in
    filled_gave g.S.Source c.args.link.now c.loop-there.link c.loop-there.bytes c.loop-there.there is.size is.few (is.gave t) (inl (search rules))

pub returns-clause-taken : goal.returns-clause-taken
returns-clause-taken g c = λ t.
    let is = c.loop-there.invariant in
    filled_front g.S.Source c.args.link.now c.loop-there.link c.loop-there.bytes c.loop-there.there is.size is.few (is.gave t) (inl (search rules))
