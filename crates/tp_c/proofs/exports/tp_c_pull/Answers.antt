use Rattle.std.proofs.Common.{sym, ◌∙◌, subst}
use Rattle.tp_c.specs.declared.recorder.Recorder.{Recorder}
use Rattle.tp_c.specs.Recording.{IsRecording, IsCut, outgoing_of}
use Rattle.tp_c.proofs.Handles.{records, was-cut}
use Rattle.tp_c.proofs.Pulling.{begins-with}
use Rattle.tp_c.proofs.exports.tp_c_pull.Goals as goal

pub returns-clause-goes_on : goal.returns-clause-goes_on
returns-clause-goes_on c info entries pulled h =
    let was = c.deref_mut.ensures.value ∙ c.open-recorder.ensures.recorder in
    records info entries _ c.shut.new.self c.pull.new.self c.shut.ensures.live c.shut.ensures.recorder
    (c.pull.ensures.goes_on info entries pulled (subst (λ (r : Recorder). IsRecording info entries pulled r) (sym was) h.recording))

pub returns-clause-begins : goal.returns-clause-begins
returns-clause-begins c info entries pulled h =
    let was = c.deref_mut.ensures.value ∙ c.open-recorder.ensures.recorder in
    let recording = subst (λ (r : Recorder). IsRecording info entries pulled r) (sym was) h.recording in
    begins-with info entries pulled c.pull.new.out c.pull.result (outgoing_of c.deref_mut.result.now) recording.bytes c.pull.ensures.front
    (c.pull.ensures.begun info entries pulled recording)

pub returns-clause-cut : goal.returns-clause-cut
returns-clause-cut c info entries pulled h =
    let was = c.deref_mut.ensures.value ∙ c.open-recorder.ensures.recorder in
    was-cut info entries _ c.shut.new.self c.pull.new.self c.shut.ensures.live c.shut.ensures.recorder
    (c.pull.ensures.cut info entries pulled (subst (λ (r : Recorder). IsCut info entries pulled r) (sym was) h.cut))
