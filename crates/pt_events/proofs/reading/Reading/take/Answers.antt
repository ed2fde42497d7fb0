use Rattle.std.proofs.Common.{◌≡◌, ◌+◌, ℕ, List, [], ◌++◌, take, drop, sym, ap, ◌∙◌, subst, arith, append_assoc, length-drop}
use Rattle.std.proofs.Math.Seq.{take-add}
use Rattle.std.proofs.lemmas.List.{append-nil, take_all}
use Rattle.ep_defs.specs.declared.item.Item.{Item}
use Rattle.nt_blocks.specs.Verdict.{verdict}
use Rattle.nt_read.specs.Answers.{items_of}
use Rattle.nt_read.specs.Lent.{told_by}
use Rattle.pt_num.proofs.Joined.{rest_is}
use Rattle.pt_lines.specs.Appends.{Appends}
use Rattle.pt_events.specs.declared.reading.Reading.{Reading}
use Rattle.pt_events.specs.state.Read.{HasRead, IsChecked, IsFed}
use Rattle.pt_events.proofs.reading.Reading.take.Goals as goal

pub loop-here-init : goal.loop-here-init
loop-here-init c =
    let form = c.args.form in
    let reading = c.args.self.now in
    record {
      read = λ bytes text read. (
        [],
        subst (λ (b : List ℕ). HasRead form b (text ++ []) reading) (sym (append-nil bytes)) (subst (λ (t : List ℕ). HasRead form bytes t reading) (sym (append-nil text)) read),
        sym (append-nil c.args.out.now.items),
      );
      within = omega arith;
      used = omega arith;
    }

pub loop-here-preserved : goal.loop-here-preserved
loop-here-preserved c =
    let form = c.args.form in
    let piece = c.args.piece.now in
    let here = c.loop-here.here in
    let n = c.in_ok-here.field-0 in
    let rest : List ℕ = drop here piece in
    let listing = c.list_all.new.listing in
    let misplaced = c.list_all.new.misplaced in
    let now : Reading = record { reader = c.feed.new.reader; listing = listing; lent = c.feed.new.lent; misplaced = misplaced } in
    record {
      read = λ bytes text before.
          let earlier : List ℕ = bytes ++ take here piece in
          let first = c.loop-here.invariant.read bytes text before in
          let was = first.1 in
          let fed : IsFed earlier (take n rest) c.feed.new.reader c.feed.new.lent = rw (rest_is here piece) at (c.in_ok-here.ensures.read earlier was.read) in
          let gives = fed.1.gives in
          let second = c.in_ok-list_all.ensures (items_of (verdict earlier)) (text ++ first.0) was.checked in
          let all : earlier ++ take n rest ≡ bytes ++ take (here + n) piece =
          append_assoc bytes (take here piece) (take n rest) ∙ ap (λ (l : List ℕ). bytes ++ l) (sym (take-add here n piece)) in
          let items = gives.more ∙ ap (λ (l : List Item). items_of (verdict earlier) ++ l) gives.tells in (
            first.0 ++ second.0,
            subst (λ (l : List ℕ). HasRead form l (text ++ (first.0 ++ second.0)) now) all
                (record {
                  read = fed.1.read;
                  checked = subst (λ (told : List Item). IsChecked form told (text ++ (first.0 ++ second.0)) listing misplaced) (sym items)
                      (subst (λ (put : List ℕ). IsChecked form (items_of (verdict earlier) ++ told_by c.feed.new.lent) put listing misplaced) (append_assoc text first.0 second.0) second.1);
                }),
            second.2 ∙ ap (λ (out : List ℕ). out ++ second.0) first.2 ∙ append_assoc c.args.out.now.items first.0 second.0,
          );
      within = omega (arith, rw (rest_is here piece) at c.in_ok-here.ensures.within, length-drop here piece, c.loop-here.invariant.within);
      used = omega (arith, c.in_ok-here.ensures.used, c.loop-here.invariant.used);
    }

pub returns-clause-read : goal.returns-clause-read
returns-clause-read c = λ bytes text before.
    subst (λ (l : List ℕ). Appends (λ more. HasRead c.args.form (bytes ++ l) (text ++ more) c.loop-here.self) c.args.out.now.items c.loop-here.out.items) (take_all c.loop-here.here c.args.piece.now c.loop-here-test.false) (c.loop-here.invariant.read bytes text before)
