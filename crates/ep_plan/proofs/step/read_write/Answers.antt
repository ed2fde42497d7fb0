use Rattle.std.proofs.Common.{◌≡◌, [], ◌∷◌, ◌∙◌}
use Rattle.std.proofs.lemmas.Result.{err_from_is_err_and}
use Rattle.ep_plan.specs.Lines.{Id, Frames, Payload}
use Rattle.ep_plan.specs.Cursor.{left}
use Rattle.ep_plan.proofs.CursorWords.{through}
use Rattle.ep_plan.proofs.Forms.{write-is}
use Rattle.ep_plan.proofs.step.read_write.Goals as goal

pub returns-clause-read : goal.returns-clause-read
returns-clause-read c =
    let e = c.in_ok-event.ensures.took in
    let a = c.in_ok-activity.ensures.took in
    let r = c.in_ok-related.ensures.took in
    let f = c.in_ok-frames.ensures.took in
    let p = c.in_ok-payload.ensures.took in
    let end = c.in_ok-end.ensures.end in
    let cut : left c.args.words.now ≡ e.0 ∷ a.0 ∷ r.0 ∷ f.0 ∷ p.0 ∷ [] = cc (e.1.words, a.1.words, r.1.words, f.1.words, p.1.words, end) in
    write-is (left c.args.words.now) e.0 a.0 r.0 f.0 p.0 _ cut e.2 a.2 r.2 f.2 p.2

pub returns-clause-good : goal.returns-clause-good
returns-clause-good c = c.in_ok-event.ensures.took.1.bad (Id ∷ Id ∷ Frames ∷ Payload ∷ []) 0 ∙ c.in_ok-activity.ensures.took.1.bad (Id ∷ Frames ∷ Payload ∷ []) 0 ∙ c.in_ok-related.ensures.took.1.bad (Frames ∷ Payload ∷ []) 0 ∙ c.in_ok-frames.ensures.took.1.bad (Payload ∷ []) 0 ∙ c.in_ok-payload.ensures.took.1.bad [] 0 ∙ c.in_ok-end.ensures.good 0

pub returns-in_err-event-clause-bad : goal.returns-in_err-event-clause-bad
returns-in_err-event-clause-bad c = λ at column why e.
    let bad = c.in_err-event.ensures.bad at column why (through c.from_residual.result c.in_err-event.field-0.0 (err_from_is_err_and c.from_residual.result c.from_residual.ensures.1) at column why e) in
    (bad.line_is, bad.bad (Id ∷ Id ∷ Frames ∷ Payload ∷ []) 0)

pub returns-in_err-activity-clause-bad : goal.returns-in_err-activity-clause-bad
returns-in_err-activity-clause-bad c = λ at column why e.
    let bad = c.in_err-activity.ensures.bad at column why (through c.from_residual-in_err-activity.result c.in_err-activity.field-0.0 (err_from_is_err_and c.from_residual-in_err-activity.result c.from_residual-in_err-activity.ensures.1) at column why e) in
    (bad.line_is ∙ c.in_ok-event.ensures.took.1.line, c.in_ok-event.ensures.took.1.bad (Id ∷ Id ∷ Frames ∷ Payload ∷ []) 0 ∙ bad.bad (Id ∷ Frames ∷ Payload ∷ []) 0)

pub returns-in_err-related-clause-bad : goal.returns-in_err-related-clause-bad
returns-in_err-related-clause-bad c = λ at column why e.
    let bad = c.in_err-related.ensures.bad at column why (through c.from_residual-in_err-related.result c.in_err-related.field-0.0 (err_from_is_err_and c.from_residual-in_err-related.result c.from_residual-in_err-related.ensures.1) at column why e) in
    (bad.line_is ∙ c.in_ok-activity.ensures.took.1.line ∙ c.in_ok-event.ensures.took.1.line, c.in_ok-event.ensures.took.1.bad (Id ∷ Id ∷ Frames ∷ Payload ∷ []) 0 ∙ c.in_ok-activity.ensures.took.1.bad (Id ∷ Frames ∷ Payload ∷ []) 0 ∙ bad.bad (Frames ∷ Payload ∷ []) 0)

pub returns-in_err-frames-clause-bad : goal.returns-in_err-frames-clause-bad
returns-in_err-frames-clause-bad c = λ at column why e.
    let bad = c.in_err-frames.ensures.bad at column why (through c.from_residual-in_err-frames.result c.in_err-frames.field-0.0 (err_from_is_err_and c.from_residual-in_err-frames.result c.from_residual-in_err-frames.ensures.1) at column why e) in
    (bad.line_is ∙ c.in_ok-related.ensures.took.1.line ∙ c.in_ok-activity.ensures.took.1.line ∙ c.in_ok-event.ensures.took.1.line, c.in_ok-event.ensures.took.1.bad (Id ∷ Id ∷ Frames ∷ Payload ∷ []) 0 ∙ c.in_ok-activity.ensures.took.1.bad (Id ∷ Frames ∷ Payload ∷ []) 0 ∙ c.in_ok-related.ensures.took.1.bad (Frames ∷ Payload ∷ []) 0 ∙ bad.bad (Payload ∷ []) 0)

pub returns-in_err-payload-clause-bad : goal.returns-in_err-payload-clause-bad
returns-in_err-payload-clause-bad c = λ at column why e.
    let bad = c.in_err-payload.ensures.bad at column why (through c.from_residual-in_err-payload.result c.in_err-payload.field-0.0 (err_from_is_err_and c.from_residual-in_err-payload.result c.from_residual-in_err-payload.ensures.1) at column why e) in
    (bad.line_is ∙ c.in_ok-frames.ensures.took.1.line ∙ c.in_ok-related.ensures.took.1.line ∙ c.in_ok-activity.ensures.took.1.line ∙ c.in_ok-event.ensures.took.1.line, c.in_ok-event.ensures.took.1.bad (Id ∷ Id ∷ Frames ∷ Payload ∷ []) 0 ∙ c.in_ok-activity.ensures.took.1.bad (Id ∷ Frames ∷ Payload ∷ []) 0 ∙ c.in_ok-related.ensures.took.1.bad (Frames ∷ Payload ∷ []) 0 ∙ c.in_ok-frames.ensures.took.1.bad (Payload ∷ []) 0 ∙ bad.bad [] 0)

pub returns-in_err-end-clause-bad : goal.returns-in_err-end-clause-bad
returns-in_err-end-clause-bad c = λ at column why e.
    let bad = c.in_err-end.ensures.bad at column why (through c.from_residual-in_err-end.result c.in_err-end.field-0.0 (err_from_is_err_and c.from_residual-in_err-end.result c.from_residual-in_err-end.ensures.1) at column why e) in
    (bad.0 ∙ c.in_ok-payload.ensures.took.1.line ∙ c.in_ok-frames.ensures.took.1.line ∙ c.in_ok-related.ensures.took.1.line ∙ c.in_ok-activity.ensures.took.1.line ∙ c.in_ok-event.ensures.took.1.line, c.in_ok-event.ensures.took.1.bad (Id ∷ Id ∷ Frames ∷ Payload ∷ []) 0 ∙ c.in_ok-activity.ensures.took.1.bad (Id ∷ Frames ∷ Payload ∷ []) 0 ∙ c.in_ok-related.ensures.took.1.bad (Frames ∷ Payload ∷ []) 0 ∙ c.in_ok-frames.ensures.took.1.bad (Payload ∷ []) 0 ∙ c.in_ok-payload.ensures.took.1.bad [] 0 ∙ bad.1)
