use Rattle.std.proofs.Common.{◌≡◌, ◌∙◌, ◌+◌, sym, ap, subst, arith, rules}
use Rattle.pt_stream.specs.Setting.{Setting}
use Rattle.pt_stream.specs.State.{StreamState, opened_on}
use Rattle.pt_live.specs.state.Open.{IsOpenOn}
use Rattle.pt_live.proofs.Opening.{open-more}
use Rattle.pt_live.proofs.streaming.Streaming.open_all.Goals as goal

pub open_row-next-requires-clause-few : goal.open_row-next-requires-clause-few
open_row-next-requires-clause-few g c =
    let one : g.P.Run.setting.lives ≡ 1 = ap (λ (s : Setting). s.lives) c.args.self.setting_is in
    (omega (arith, one), omega (arith, one))

pub loop-place-preserved : goal.loop-place-preserved
loop-place-preserved g c =
    let inv = c.loop-place.invariant in
    let place = c.loop-place.place in
    let old = c.loop-place.stream in
    let opened : c.open_row-next.result.0 ≡ opened_on (c.loop-place.place + 1) 0 c.loop-place.stream = search rules in
    record {
      is_open =
          subst (λ (s : StreamState). IsOpenOn g.P.TraceRun.run g.P.Program.rows 0 (place + 1) s) (sym opened)
          (open-more g.P.TraceRun.run g.P.Program.rows place old (omega (arith, c.loop-place-test.true, c.args.around.now.is_run.rows_are)) inv.stands inv.is_open);
      stands = ap (λ (s : StreamState). s.stands) opened ∙ inv.stands;
      marks = ap (λ (s : StreamState). s.marks) opened ∙ inv.marks;
    }
