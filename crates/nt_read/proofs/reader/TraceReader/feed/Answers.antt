use Rattle.std.proofs.Common.{◌≡◌, ◌+◌, Err, List, ◌++◌, refl, sym, ap, subst, arith, length-drop}
use Rattle.std.proofs.lemmas.List.{take_all}
use Rattle.std.proofs.lemmas.Result.{err_from_is_err_and}
use Rattle.pt_num.proofs.Joined.{rest_is}
use Rattle.ep_defs.specs.declared.item.Item.{Item}
use Rattle.nt_blocks.specs.Verdict.{verdict}
use Rattle.nt_read.specs.declared.fault.ReadFault.{ReadFault}
use Rattle.nt_read.specs.Answers.{GivesPart, fault_of, items_of}
use Rattle.nt_read.specs.Telling.{TellsItems}
use Rattle.nt_read.proofs.Feeding.{feeds-nothing, feeds-object, feeds-part, feeds-refused}
use Rattle.nt_read.proofs.Objects.{still-bad}
use Rattle.nt_read.proofs.reader.TraceReader.feed.Goals as goal

pub loop-here-init : goal.loop-here-init
loop-here-init c =
    record {
      within = omega arith;
      used = omega arith;
      feeds = λ bytes read. feeds-nothing c.args.self.now.objects bytes c.args.items.now.items read;
      failed = λ failed. (failed, refl);
      refused = λ bytes why told read bad. (read, refl);
    }

pub loop-here-preserved : goal.loop-here-preserved
loop-here-preserved c =
    let before = c.loop-here.invariant in
    let piece = c.args.piece.now in
    let here = c.loop-here.here in
    record {
      within = omega (arith, rw (rest_is here piece) at c.in_ok-here.ensures.within, length-drop here piece, before.within);
      used = omega (arith, c.in_ok-here.ensures.used, before.used);
      feeds = λ bytes read.
          (feeds-object c.loop-here.self.objects c.feed.new.self bytes piece here c.in_ok-here.field-0 c.feed.new.told c.args.items.now.items c.loop-here.items.items c.give.new.items.items (before.feeds bytes read) (rw (rest_is here piece) at c.in_ok-here.ensures.ok) c.in-Ok.ensures.ok).feeds;
      failed = λ failed. let clash = c.in_ok-here.ensures.fails (before.failed failed).0 in absurd cc;
      refused = λ bytes why told read bad. let clash = c.in_ok-here.ensures.stays bytes why told (before.refused bytes why told read bad).0 bad in absurd cc;
    }

-- ---- a fault

pub returns-in_err-here-clause-read : goal.returns-in_err-here-clause-read
returns-in_err-here-clause-read c =
    let p = err_from_is_err_and c.from_residual.result c.from_residual.ensures.1 in
    rw (p.1, p.2)
    (λ kept bytes read. (feeds-refused c.loop-here.self.objects c.feed.new.self bytes c.args.piece.now c.loop-here.here c.in_err-here.field-0.0 c.feed.new.told c.args.items.now.items c.loop-here.items.items (c.loop-here.invariant.feeds bytes read) ((rw (rest_is c.loop-here.here c.args.piece.now) at c.in_err-here.ensures.refused) kept) c.in_err-here.ensures.nothing).feeds.read)

pub returns-in_err-here-clause-items : goal.returns-in_err-here-clause-items
returns-in_err-here-clause-items c =
    let p = err_from_is_err_and c.from_residual.result c.from_residual.ensures.1 in
    rw (p.1, p.2)
    (λ kept bytes read. (feeds-refused c.loop-here.self.objects c.feed.new.self bytes c.args.piece.now c.loop-here.here c.in_err-here.field-0.0 c.feed.new.told c.args.items.now.items c.loop-here.items.items (c.loop-here.invariant.feeds bytes read) ((rw (rest_is c.loop-here.here c.args.piece.now) at c.in_err-here.ensures.refused) kept) c.in_err-here.ensures.nothing).feeds.gives)

pub returns-in_err-here-clause-answer : goal.returns-in_err-here-clause-answer
returns-in_err-here-clause-answer c =
    let p = err_from_is_err_and c.from_residual.result c.from_residual.ensures.1 in
    rw (p.1, p.2)
    (λ kept bytes read. (feeds-refused c.loop-here.self.objects c.feed.new.self bytes c.args.piece.now c.loop-here.here c.in_err-here.field-0.0 c.feed.new.told c.args.items.now.items c.loop-here.items.items (c.loop-here.invariant.feeds bytes read) ((rw (rest_is c.loop-here.here c.args.piece.now) at c.in_err-here.ensures.refused) kept) c.in_err-here.ensures.nothing).answered)

pub returns-in_err-here-clause-stays : goal.returns-in_err-here-clause-stays
returns-in_err-here-clause-stays c =
    let p = err_from_is_err_and c.from_residual.result c.from_residual.ensures.1 in
    rw (p.1, p.2)
    (λ bytes why told read bad.
    let before = c.loop-here.invariant.refused bytes why told read bad in
    let stays = c.in_err-here.ensures.stays bytes why told before.0 bad in
    let same : c.in_err-here.field-0.0 ≡ fault_of why = cc in
    record {
      answered = ap (λ (fault : ReadFault). Err fault) same;
      given = before.1;
      still = still-bad TellsItems bytes c.args.piece.now c.args.self.now.objects why told read bad;
    })

pub returns-in_err-here-clause-part : goal.returns-in_err-here-clause-part
returns-in_err-here-clause-part c = λ out bytes read.
    feeds-part c.loop-here.self.objects bytes c.args.piece.now c.loop-here.here c.args.items.now.items c.loop-here.items.items (c.loop-here.invariant.feeds bytes read)

-- ---- no memory for the items

pub returns-in-Err-clause-stays : goal.returns-in-Err-clause-stays
returns-in-Err-clause-stays c = λ bytes why told read bad.
    let clash = c.in_ok-here.ensures.stays bytes why told (c.loop-here.invariant.refused bytes why told read bad).0 bad in absurd cc

pub returns-in-Err-clause-part : goal.returns-in-Err-clause-part
returns-in-Err-clause-part c = λ out bytes read.
    subst (λ (items : List Item). GivesPart (items_of (verdict bytes)) (items_of (verdict (bytes ++ c.args.piece.now))) c.args.items.now.items items) (sym c.in-Err.ensures.err)
    (feeds-part c.loop-here.self.objects bytes c.args.piece.now c.loop-here.here c.args.items.now.items c.loop-here.items.items (c.loop-here.invariant.feeds bytes read))

-- ---- all of the piece

pub returns-then-here-piece-clause-read : goal.returns-then-here-piece-clause-read
returns-then-here-piece-clause-read c = λ kept bytes read.
    let all = take_all (c.loop-here.here + c.in_ok-here.field-0) c.args.piece.now (omega (arith, c.if-here-piece.true)) in
    (rw all at (feeds-object c.loop-here.self.objects c.feed.new.self bytes c.args.piece.now c.loop-here.here c.in_ok-here.field-0 c.feed.new.told c.args.items.now.items c.loop-here.items.items c.give.new.items.items (c.loop-here.invariant.feeds bytes read) (rw (rest_is c.loop-here.here c.args.piece.now) at c.in_ok-here.ensures.ok) c.in-Ok.ensures.ok)).feeds.read

pub returns-then-here-piece-clause-items : goal.returns-then-here-piece-clause-items
returns-then-here-piece-clause-items c = λ kept bytes read.
    let all = take_all (c.loop-here.here + c.in_ok-here.field-0) c.args.piece.now (omega (arith, c.if-here-piece.true)) in
    (rw all at (feeds-object c.loop-here.self.objects c.feed.new.self bytes c.args.piece.now c.loop-here.here c.in_ok-here.field-0 c.feed.new.told c.args.items.now.items c.loop-here.items.items c.give.new.items.items (c.loop-here.invariant.feeds bytes read) (rw (rest_is c.loop-here.here c.args.piece.now) at c.in_ok-here.ensures.ok) c.in-Ok.ensures.ok)).feeds.gives

pub returns-then-here-piece-clause-answer : goal.returns-then-here-piece-clause-answer
returns-then-here-piece-clause-answer c = λ kept bytes read.
    let all = take_all (c.loop-here.here + c.in_ok-here.field-0) c.args.piece.now (omega (arith, c.if-here-piece.true)) in
    (rw all at (feeds-object c.loop-here.self.objects c.feed.new.self bytes c.args.piece.now c.loop-here.here c.in_ok-here.field-0 c.feed.new.told c.args.items.now.items c.loop-here.items.items c.give.new.items.items (c.loop-here.invariant.feeds bytes read) (rw (rest_is c.loop-here.here c.args.piece.now) at c.in_ok-here.ensures.ok) c.in-Ok.ensures.ok)).answered

pub returns-then-here-piece-clause-stays : goal.returns-then-here-piece-clause-stays
returns-then-here-piece-clause-stays c = λ bytes why told read bad.
    let clash = c.in_ok-here.ensures.stays bytes why told (c.loop-here.invariant.refused bytes why told read bad).0 bad in absurd cc
