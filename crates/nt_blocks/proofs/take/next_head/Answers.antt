use Rattle.std.proofs.Common.{sym, ◌∙◌, arith}
use Rattle.nt_blocks.proofs.Shorter.{head-some}
use Rattle.nt_blocks.proofs.TakeBlobs.{blob_headless, blob_unfit, blob_cut, head-none}
use Rattle.nt_blocks.proofs.take.next_head.Goals as goal
use Rattle.nt_blocks.proofs.take.next_head.Goals.{then-not-may_head-via-then-not-may_head, then-not-may_head-via-else-not-may_head+then-bytes-used}

pub returns-in_default : goal.returns-in_default
returns-in_default c = record {
  some = tt;
  none = λ none at.
      let none = head-none c.args.state.now c.args.bytes.now c.take_next.result c.take_next.ensures.stop c.in_default.not-Ok in
      blob_headless c.args.kind at c.args.state.now c.args.bytes.now none.0 none.1;
}

pub returns-then-not-may_head-clause-none : goal.returns-then-not-may_head-clause-none
returns-then-not-may_head-clause-none c = λ none at.
    elim c.then-not-may_head.branch [
      | then-not-may_head-via-then-not-may_head w ↦
          blob_unfit c.args.kind at c.in-Ok.used c.args.state.now c.take_next.new.state c.args.bytes.now c.in-Ok.ensures.ok.read (sym c.may_head.ensures ∙ w.if-not-may_head.true)
      | then-not-may_head-via-else-not-may_head+then-bytes-used w ↦
          blob_cut c.args.kind at c.in-Ok.used c.args.state.now c.take_next.new.state c.args.bytes.now c.in-Ok.ensures.ok.read (sym c.may_head.ensures ∙ w.if-not-may_head.false) c.in-Ok.ensures.ok.within (omega (arith, c.in-Ok.ensures.ok.within))
    ]

pub returns-clause-some : goal.returns-clause-some
returns-clause-some c = record {
  some = head-some c.args.state.now c.take_next.new.state c.args.bytes.now c.in-Ok.used c.in-Ok.ensures.ok.read;
  within = omega (arith, c.in-Ok.ensures.ok.within);
  read = c.in-Ok.ensures.ok.read;
  may = sym c.may_head.ensures ∙ c.if-not-may_head.false;
}
