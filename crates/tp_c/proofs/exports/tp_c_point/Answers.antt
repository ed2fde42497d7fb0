use Rattle.std.proofs.Common.{[], ◌∷◌, ◌++◌, sym, ◌∙◌, subst}
use Rattle.ep_defs.specs.Entry.{Point}
use Rattle.nt_write.specs.Writer.{point_of}
use Rattle.tp_c.specs.declared.recorder.Recorder.{Recorder}
use Rattle.tp_c.specs.Answering.{Records, WasCut}
use Rattle.tp_c.specs.Recording.{IsRecording, threads_of}
use Rattle.tp_c.proofs.Handles.{records, was-cut, at-ok, at-cut}
use Rattle.tp_c.proofs.exports.tp_c_point.Goals as goal

pub returns-clause-ok : goal.returns-clause-ok
returns-clause-ok c info entries pulled h ok =
    let was = c.deref_mut.ensures.value ∙ c.open-recorder.ensures.recorder in
    let recording = subst (λ (r : Recorder). IsRecording info entries pulled r) (sym was) h.recording in
    subst (λ (old : Recorder). Records info (entries ++ Point (point_of c.args.stamp (threads_of old)) ∷ []) pulled c.shut.new.self) was
    (records info _ pulled c.shut.new.self c.point-result.new.self c.shut.ensures.live c.shut.ensures.recorder
    (at-ok _ c.point-result.result c.answer.result c.answer.ensures ok (c.point-result.ensures.ok info entries pulled recording)))

pub returns-clause-cut : goal.returns-clause-cut
returns-clause-cut c info entries pulled h cut =
    let was = c.deref_mut.ensures.value ∙ c.open-recorder.ensures.recorder in
    let recording = subst (λ (r : Recorder). IsRecording info entries pulled r) (sym was) h.recording in
    subst (λ (old : Recorder). WasCut info (entries ++ Point (point_of c.args.stamp (threads_of old)) ∷ []) pulled c.shut.new.self) was
    (was-cut info _ pulled c.shut.new.self c.point-result.new.self c.shut.ensures.live c.shut.ensures.recorder
    (c.point-result.ensures.cut info entries pulled recording (at-cut c.point-result.result c.answer.result c.answer.ensures cut)))
