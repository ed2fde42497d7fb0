use Rattle.std.proofs.Common.{◌≡◌, ◌∙◌, ◌+◌, List, sym, ap, subst, arith}
use Rattle.ep_defs.specs.declared.event.EventDef.{EventDef}
use Rattle.pt_stream.specs.declared.place.Place.{Place}
use Rattle.pt_stream.specs.State.{AreEvents, StreamState}
use Rattle.pt_live.specs.state.Open.{IsOpenOn}
use Rattle.pt_live.proofs.Opening.{close-more}
use Rattle.pt_live.proofs.streaming.Streaming.close_all.Goals as goal

pub close_row-stream-requires-clause-open : goal.close_row-stream-requires-clause-open
close_row-stream-requires-clause-open g c =
    ap (λ (p : Place). p.is_open) (c.loop-place.invariant.is_open.opened (c.loop-place.place + 1) (omega arith) (omega (arith, c.loop-place-test.true)))

pub close_row-stream-requires-clause-events : goal.close_row-stream-requires-clause-events
close_row-stream-requires-clause-events g c =
    let sound = c.sample_events_are_valid.ensures in
    subst (λ (es : List EventDef). AreEvents es) (sym c.args.around.now.is_run.events_are)
    (record { few = sound.few; valid = sound.valid; distinct = sound.distinct; lacks = sound.lacks })

pub loop-place-preserved : goal.loop-place-preserved
loop-place-preserved g c =
    let inv = c.loop-place.invariant in
    let closed = c.close_row-stream.ensures.closed in
    record {
      stands = ap (λ (s : StreamState). s.stands) closed ∙ inv.stands;
      is_open =
          subst (λ (s : StreamState). IsOpenOn g.P.TraceRun.run g.P.Program.rows (c.loop-place.place + 1) c.args.opened s) (sym closed)
          (close-more g.P.TraceRun.run g.P.Program.rows c.loop-place.place c.args.opened c.loop-place.stream c.close_row-stream.result.marks (omega (arith, c.loop-place-test.true)) c.requires.few inv.is_open);
      ends = λ to is all. c.close_row-stream.ensures.ends to (inv.stands ∙ is) (inv.ends to is all);
    }

pub returns-clause-is_open : goal.returns-clause-is_open
returns-clause-is_open g c =
    let all : c.loop-place.place ≡ c.args.opened = omega (arith, c.loop-place-test.false, c.loop-place.auto) in
    subst (λ n. IsOpenOn g.P.TraceRun.run g.P.Program.rows n c.args.opened c.loop-place.stream) all c.loop-place.invariant.is_open
