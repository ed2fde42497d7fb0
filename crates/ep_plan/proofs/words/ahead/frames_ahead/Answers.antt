use Rattle.std.proofs.Common.{◌+◌, Some, ap, sym, ◌∙◌, subst, arith}
use Rattle.ep_plan.proofs.Ahead.{FramesSoFar, frame_more, frame_last, one_frame}
use Rattle.ep_plan.proofs.words.ahead.frames_ahead.Goals as goal

pub frames-preserved : goal.frames-preserved
frames-preserved c =
    let text = c.args.text.now in
    let count = c.leading-frame.result.1 in
    let one = one_frame text c.frames.begin count c.leading-frame.result.0 (omega (arith, c.if-count-eq0.false)) c.leading-frame.ensures.few (omega (arith, c.if-end-text.false)) c.leading-frame.ensures.digits c.leading-frame.ensures.value in
    subst (FramesSoFar text (c.frames.begin + count + 1)) (sym c.in_ok-push.ensures.items) (frame_more text c.frames.begin count c.frames.frames.items c.leading-frame.result.0 c.frames.invariant one c.in-44.is)

pub returns-in-32-clause-word : goal.returns-in-32-clause-word
returns-in-32-clause-word c =
    let text = c.args.text.now in
    let count = c.leading-frame.result.1 in
    let one = one_frame text c.frames.begin count c.leading-frame.result.0 (omega (arith, c.if-count-eq0.false)) c.leading-frame.ensures.few (omega (arith, c.if-end-text.false)) c.leading-frame.ensures.digits c.leading-frame.ensures.value in
    (frame_last text c.frames.begin count c.frames.frames.items c.leading-frame.result.0 c.frames.invariant one c.in-32.is).word

pub returns-in-32-clause-read : goal.returns-in-32-clause-read
returns-in-32-clause-read c =
    let text = c.args.text.now in
    let count = c.leading-frame.result.1 in
    let one = one_frame text c.frames.begin count c.leading-frame.result.0 (omega (arith, c.if-count-eq0.false)) c.leading-frame.ensures.few (omega (arith, c.if-end-text.false)) c.leading-frame.ensures.digits c.leading-frame.ensures.value in
    (frame_last text c.frames.begin count c.frames.frames.items c.leading-frame.result.0 c.frames.invariant one c.in-32.is).read ∙ ap Some (sym c.in_ok-push.ensures.items)
