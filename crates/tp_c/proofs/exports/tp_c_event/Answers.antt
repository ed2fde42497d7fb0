use Rattle.std.proofs.Common.{sym, ◌∙◌, subst}
use Rattle.tp_c.specs.declared.recorder.Recorder.{Recorder}
use Rattle.tp_c.specs.Answering.{recorder_in}
use Rattle.tp_c.specs.Recording.{IsRecording, HasTaken, HasCut}
use Rattle.tp_c.proofs.Handles.{at-ok, at-cut}
use Rattle.tp_c.proofs.exports.tp_c_event.Goals as goal

pub returns-clause-ok : goal.returns-clause-ok
returns-clause-ok c info entries pulled h ok =
    let was = c.deref_mut.ensures.value ∙ c.open-recorder.ensures.recorder in
    let recording = subst (λ (r : Recorder). IsRecording info entries pulled r) (sym was) h.recording in
    subst (λ (old : Recorder). HasTaken info entries pulled old c.args.event.now c.args.frames.now c.args.payload.now (recorder_in c.shut.new.self)) was
    (subst (λ (new : Recorder). HasTaken info entries pulled c.deref_mut.result.now c.args.event.now c.args.frames.now c.args.payload.now new) (sym c.shut.ensures.recorder)
    (at-ok _ c.event-result.result c.answer.result c.answer.ensures ok (c.event-result.ensures.ok info entries pulled recording)))

pub returns-clause-cut : goal.returns-clause-cut
returns-clause-cut c info entries pulled h cut =
    let was = c.deref_mut.ensures.value ∙ c.open-recorder.ensures.recorder in
    let recording = subst (λ (r : Recorder). IsRecording info entries pulled r) (sym was) h.recording in
    subst (λ (old : Recorder). HasCut info entries pulled old c.args.event.now c.args.frames.now c.args.payload.now (recorder_in c.shut.new.self)) was
    (subst (λ (new : Recorder). HasCut info entries pulled c.deref_mut.result.now c.args.event.now c.args.frames.now c.args.payload.now new) (sym c.shut.ensures.recorder)
    (c.event-result.ensures.cut info entries pulled recording (at-cut c.event-result.result c.answer.result c.answer.ensures cut)))
