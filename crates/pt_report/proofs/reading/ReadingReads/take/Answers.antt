use Rattle.std.proofs.Common.{◌≡◌, ◌+◌, ℕ, List, ◌++◌, take, drop, sym, ap, ◌∙◌, subst, arith, append_assoc, length-drop}
use Rattle.std.proofs.Math.Seq.{take-add}
use Rattle.std.proofs.lemmas.List.{take_all}
use Rattle.ep_defs.specs.declared.item.Item.{Item}
use Rattle.nt_blocks.specs.Verdict.{verdict}
use Rattle.nt_read.specs.Answers.{items_of}
use Rattle.pt_num.proofs.Joined.{rest_is}
use Rattle.pt_report.specs.declared.reading.Reading.{Reading}
use Rattle.pt_report.specs.state.Read.{HasRead, IsChecked, IsFed}
use Rattle.pt_report.proofs.reading.ReadingReads.take.Goals as goal

pub loop-here-preserved : goal.loop-here-preserved
loop-here-preserved c =
    let piece = c.args.piece.now in
    let here = c.loop-here.here in
    let n = c.in_ok-here.field-0 in
    let rest : List ℕ = drop here piece in
    let report = c.check_all.new.report in
    let misplaced = c.check_all.new.misplaced in
    let now : Reading = record { alloc = c.loop-here.self.alloc; reader = c.feed.new.reader; report = report; told = c.feed.new.told; misplaced = misplaced } in
    record {
      read = λ bytes before.
          let earlier : List ℕ = bytes ++ take here piece in
          let was = c.loop-here.invariant.read bytes before in
          let fed : IsFed earlier (take n rest) c.feed.new.reader c.feed.new.told = rw (rest_is here piece) at (c.in_ok-here.ensures.read earlier was.read) in
          let checked = c.in_ok-check_all.ensures (items_of (verdict earlier)) fed.1.gives.found fed.1.gives.tells was.checked in
          let all : earlier ++ take n rest ≡ bytes ++ take (here + n) piece =
          append_assoc bytes (take here piece) (take n rest) ∙ ap (λ (l : List ℕ). bytes ++ l) (sym (take-add here n piece)) in
          subst (λ (l : List ℕ). HasRead l now) all
          (record {
            read = fed.1.read;
            checked = subst (λ (items : List Item). IsChecked items report misplaced) (sym fed.1.gives.more) checked;
          });
      within = omega (arith, rw (rest_is here piece) at c.in_ok-here.ensures.within, length-drop here piece, c.loop-here.invariant.within);
      used = omega (arith, c.in_ok-here.ensures.used, c.loop-here.invariant.used);
    }

pub returns-clause-read : goal.returns-clause-read
returns-clause-read c = λ bytes before.
    subst (λ (l : List ℕ). HasRead (bytes ++ l) c.loop-here.self) (take_all c.loop-here.here c.args.piece.now c.loop-here-test.false) (c.loop-here.invariant.read bytes before)
