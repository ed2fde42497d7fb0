use Rattle.std.proofs.Common.{sym, ◌∙◌, subst}
use Rattle.tp_c.specs.declared.recorder.Recorder.{Recorder}
use Rattle.tp_c.specs.Recording.{IsRecording}
use Rattle.tp_c.proofs.Handles.{records}
use Rattle.tp_c.proofs.exports.tp_c_define.Goals as goal

pub returns-in-Ok-clause-goes_on : goal.returns-in-Ok-clause-goes_on
returns-in-Ok-clause-goes_on c info entries pulled h ok =
    let was = c.deref_mut.ensures.value ∙ c.open-recorder.ensures.recorder in
    records info entries pulled c.shut.new.self c.define-result.new.self c.shut.ensures.live c.shut.ensures.recorder
    (c.in-Ok.ensures.goes_on info entries pulled (subst (λ (r : Recorder). IsRecording info entries pulled r) (sym was) h.recording))
