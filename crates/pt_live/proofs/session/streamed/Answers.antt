use Rattle.std.proofs.Common.{◌≡◌, ◌∙◌, inr, ℕ, Some, refl, sym, ap, subst, arith}
use Rattle.ep_stream.specs.declared.session.Fate.TheVariants as fates
use Rattle.pt_stream.specs.State.{StreamState}
use Rattle.pt_live.specs.state.Ended.{HasEndedAt}
use Rattle.pt_live.specs.state.Open.{IsOpenOn}
use Rattle.pt_live.proofs.Opening.{open-moved}
use Rattle.pt_live.proofs.session.streamed.Goals as goal

pub returns-then-opened-around-clause-memory : goal.returns-then-opened-around-clause-memory
returns-then-opened-around-clause-memory g c = (
  c.open_all-streaming.result.1,
  c.ended-end.result.0.marks,
  c.ended-end.result.0.fate,
  c.open_all-streaming.ensures.within,
  c.ended-end.ensures.ended 0 c.open_all-streaming.ensures.stands,
)

pub ended-last-requires-clause-is_open : goal.ended-last-requires-clause-is_open
ended-last-requires-clause-is_open g c κs within =
    subst (λ (s : StreamState). IsOpenOn g.P.TraceRun.run g.P.Program.rows 0 c.open_all-streaming.result.1 s) (sym c.with_threads-streaming.ensures.same)
    (open-moved g.P.TraceRun.run g.P.Program.rows 0 c.open_all-streaming.result.1 c.open_all-streaming.result.0.stream (Some g.P.SampleRun.plan.writes) c.open_all-streaming.ensures.is_open)

pub ended-last-requires-clause-marks : goal.ended-last-requires-clause-marks
ended-last-requires-clause-marks g c κs within =
    ap (λ (s : StreamState). s.marks) c.with_threads-streaming.ensures.same ∙ c.open_all-streaming.ensures.marks ∙ c.requires.marks

pub ended-last-requires-clause-why : goal.ended-last-requires-clause-why
ended-last-requires-clause-why g c κs within =
    let all : c.open_all-streaming.result.1 ≡ g.P.Program.rows = omega (arith, c.if-opened-around.false, c.open_all-streaming.ensures.within, c.args.around.now.is_run.rows_are) in
    inr (refl, all, ap (λ (s : StreamState). s.stands) c.with_threads-streaming.ensures.same)

pub returns-clause-ended : goal.returns-clause-ended
returns-clause-ended g c =
    let all : c.open_all-streaming.result.1 ≡ g.P.Program.rows = omega (arith, c.if-opened-around.false, c.open_all-streaming.ensures.within, c.args.around.now.is_run.rows_are) in
    let stands = ap (λ (s : StreamState). s.stands) c.with_threads-streaming.ensures.same in
    subst (λ (n : ℕ). HasEndedAt {S = g.row.S.Denot} g.S.Sink g.P.TraceRun.run g.P.SampleRun.plan g.P.Program.events g.P.Program.writes n g.P.SampleRun.plan.writes fates.ProgramEnd c.ended-last.result.0.marks c.ended-last.result.0.fate c.ended-last.result.0.sink) all
    (c.ended-last.ensures.ended g.P.SampleRun.plan.writes stands)
